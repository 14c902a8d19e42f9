-- The listed pages before this one are counted, and so is every page that lies before it: those between have no survivor.
use Rattle.std.proofs.Common.{◌≡◌, length}
use Rattle.lists.specs.Part.{Through}
use Rattle.census.specs.Survivors.{survivors_in}
use Rattle.census.proofs.survivors.count_survivors.Given as goal

abbrev pub invariant-loop-page : goal.invariant-loop-page
invariant-loop-page l = Through l.p.pages (length l.list) l.list l.page-index (λ b. l.k ≡ survivors_in l.p l.tables b)
