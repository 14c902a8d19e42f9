-- Each stage goes its own way.
use Rattle.std.proofs.Common.{arith}
use Rattle.stages.specs.StagesLaws.{placed-here, line_low}
use Rattle.lines.specs.Held.{same-kept}
use Rattle.session.specs.Opening.{fed-opening, fed-running, fed-stopped}
use Rattle.session.proofs.feed.Goals as goal

pub obey-requires : goal.obey-requires
obey-requires c = record {
  room = (c.requires.room.0, line_low _ _ c.in-Running.is c.requires.room.1);
  here = placed-here c.requires.placed c.in-Running.is;
}

pub returns-in-Opening : goal.returns-in-Opening
returns-in-Opening c = record {
  feeds = fed-opening c.in-Opening.is c.begin.ensures.feeds;
  length_bound = c.begin.ensures.length_bound;
  same_lent = c.begin.ensures.same_lent;
}

pub returns-in-Running : goal.returns-in-Running
returns-in-Running c = record { feeds = fed-running c.in-Running.is (λ s h l k. c.obey.ensures.feeds s h l); length_bound = c.obey.ensures.length_bound; same_lent = c.obey.ensures.same_lent }

pub returns-in-Stopped : goal.returns-in-Stopped
returns-in-Stopped c = record { feeds = fed-stopped c.in-Stopped.is; length_bound = omega arith; same_lent = same-kept c.args.memory.now }
