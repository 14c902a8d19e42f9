-- n counts the pages of g passed.
use Rattle.std.proofs.Common.{◌≡◌}
use Rattle.promises.specs.OwnedPages.{owned_in}
use Rattle.pages.proofs.owned_pages.Given as goal

abbrev pub invariant-loop-page : goal.invariant-loop-page
invariant-loop-page l =
    l.n ≡ owned_in l.p l.tables l.g l.page
