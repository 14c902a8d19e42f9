use Rattle.std.proofs.Common.{sym, ◌∙◌}
use Rattle.script.specs.ReadingCases.{scan-more, scan-found, scan-open}
use Rattle.script.proofs.read.read_line.Goals as goal

pub returns-in-Ended : goal.returns-in-Ended
returns-in-Ended c = sym (scan-found _ _ _ c.loop-at-test.true _ (sym c.step.ensures ∙ c.in-Ended.is)) ∙ c.loop-at.invariant

pub loop-at-preserved : goal.loop-at-preserved
loop-at-preserved c = sym (scan-more _ _ _ c.loop-at-test.true _ (sym c.step.ensures ∙ c.in-More.is)) ∙ c.loop-at.invariant

pub returns : goal.returns
returns c = sym (scan-open _ _ _ c.loop-at-test.false) ∙ c.loop-at.invariant
