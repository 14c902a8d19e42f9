-- The search from the top. Invariant: no page from `page` on and below `high` is free.
use Rattle.pages.specs.Pages.{NoneFrom}
use Rattle.pages.proofs.free_below.Given as goal

abbrev pub invariant-loop-page : goal.invariant-loop-page
invariant-loop-page l =
    NoneFrom l.p l.tables l.page l.high
