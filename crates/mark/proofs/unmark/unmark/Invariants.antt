-- The listed pages before this one are cleared, and with them every page that is not listed: those have no mark.
use Rattle.std.proofs.Common.{◌≡◌, length}
use Rattle.lists.specs.Part.{Through}
use Rattle.mark.specs.Unmark.{Unmarked}
use Rattle.mark.proofs.unmark.unmark.Given as goal

abbrev pub invariant-loop-page : goal.invariant-loop-page
invariant-loop-page l =
    (length l.cells ≡ length l.initial.cells) × (length l.tables ≡ length l.initial.tables)
    × Through l.p.pages (length l.list) l.list l.page-index (λ b. Unmarked l.p b l.initial.cells l.initial.tables l.cells l.tables)
