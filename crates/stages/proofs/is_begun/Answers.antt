-- Each stage that waits has its reader.
use Rattle.std.proofs.Common.{sym, ap, ◌∙◌}
use Rattle.stages.specs.Stages.{begun_at}
use Rattle.stages.proofs.is_begun.Goals as goal

pub returns-in-Opening : goal.returns-in-Opening
returns-in-Opening c = c.has_begun.ensures ∙ sym (ap begun_at c.in-Opening.is)

pub returns-in-Running : goal.returns-in-Running
returns-in-Running c = c.has_begun-in-Running.ensures ∙ sym (ap begun_at c.in-Running.is)
