-- The levels before this one are marked, outermost first. A level that pops a cell has marked it.
use Rattle.std.proofs.Common.{◌≡◌, length}
use Rattle.lists.specs.Says.{Says}
use Rattle.rules.specs.Regions.{region_at}
use Rattle.mark.specs.Marks.{AnyMarked}
use Rattle.mark.specs.Levels.{Levels}
use Rattle.mark.specs.Rounds.{level_refs}
use Rattle.mark.proofs.levels.mark_levels.Given as goal

abbrev pub invariant-loop-level : goal.invariant-loop-level
invariant-loop-level l =
    (length l.cells ≡ length l.initial.cells) × (length l.tables ≡ length l.initial.tables)
    × Levels l.p l.r l.level (region_at l.p l.thread) (level_refs l.p l.initial.cells l.remember l.initial.tables l.r l.thread l.outer) l.initial.cells l.initial.tables l.cells l.tables
    × Says l.found (AnyMarked l.p l.tables)
