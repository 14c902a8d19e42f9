-- Each stage ends in its own way.
use Rattle.std.proofs.Common.{arith}
use Rattle.stages.specs.StagesLaws.{placed-here}
use Rattle.closing.specs.Closing.{ends-opening, ends-running, ends-stopped}
use Rattle.closing.proofs.put_end.Goals as goal

pub put_report-requires : goal.put_report-requires
put_report-requires c = record {
  by_index = (c.requires.by_index.0, c.requires.by_index.1, placed-here c.requires.by_index.2 c.in-Running.is);
  at_in_bounds = c.requires.at_in_bounds;
}

pub returns-in-Opening : goal.returns-in-Opening
returns-in-Opening c = record {
  put = ends-opening c.in-Opening.is c.put_sizes.ensures;
  upper_bound = omega (arith, c.put_sizes.ensures.end_is);
}

pub returns-in-Running : goal.returns-in-Running
returns-in-Running c = record {
  put = ends-running c.in-Running.is c.put_report.ensures.put;
  upper_bound = c.put_report.ensures.upper_bound;
}

pub returns-in-Stopped : goal.returns-in-Stopped
returns-in-Stopped c = record { put = ends-stopped c.in-Stopped.is; upper_bound = omega arith }
