-- The survivors that go to the targets below have moved.
use Rattle.rules.specs.Regions.{region_at}
use Rattle.pages.specs.Noted.{Noted}
use Rattle.copy.specs.Copying.{Copy}
use Rattle.copy.proofs.copy_survivors.Given as goal

abbrev pub invariant-loop-level : goal.invariant-loop-level
invariant-loop-level l =
    Copy l.p l.levels (region_at l.p l.thread) l.level l.initial.cells l.initial.tables l.cells l.tables × Noted l.p l.tables l.notes
