-- No entry's slot lies on a listed page before the one at hand.
use Rattle.settle.specs.Touched.{PagesPassed}
use Rattle.settle.proofs.touched.first_own.Given as goal

abbrev pub invariant-loop-page : goal.invariant-loop-page
invariant-loop-page l =
    PagesPassed l.list l.page-index l.remember
