-- Of the lowest set bits, one in each turn, word 1 is cleared; the others are left.
use Rattle.std.proofs.Common.{◌≡◌, length}
use Rattle.lists.specs.SetBits.{Walked}
use Rattle.mark.specs.Unmark.{PageCleared}
use Rattle.mark.proofs.unmark.unmark_page.Given as goal

abbrev pub invariant-loop : goal.invariant-loop
invariant-loop l =
    (length l.cells ≡ length l.initial.cells) × Walked l.w l.left l.counter × PageCleared l.page l.w l.left l.initial.cells l.cells
