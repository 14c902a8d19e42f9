-- The slots of the copies off the listed pages before this one are settled, and with them those off every page that is not listed: it has none.
use Rattle.std.proofs.Common.{length}
use Rattle.lists.specs.Part.{Through}
use Rattle.settle.specs.RewriteCopies.{CopySlot, OnPages}
use Rattle.settle.specs.Settle.{Settled}
use Rattle.settle.proofs.settle_copies.Given as goal

abbrev pub invariant-loop-page : goal.invariant-loop-page
invariant-loop-page l =
    Through l.p.pages (length l.list) l.list l.page-index (λ b. Settled l.p l.p.entries (CopySlot l.p (OnPages b) l.initial.cells l.tables) l.initial.cells l.initial.remember l.tables l.j l.cells l.remember l.i)
