-- The first loop's invariant: the pages passed are whole, and the two arrays say, for each region, how many objects they hold of it and whether one of
-- them is partly filled. The second's: the counts of the regions passed agree.
use Rattle.std.proofs.Common.{◌≡◌, ℕ, ◌<◌, ◌≤◌, get_or}
use Rattle.layout.specs.Places.{count_of}
use Rattle.whole.specs.Pages.{PageChecked}
use Rattle.whole.specs.Regions.{Tallied}
use Rattle.whole.proofs.regions.regions_whole.Given as goal

abbrev pub invariant-loop-page : goal.invariant-loop-page
invariant-loop-page l =
    Tallied l.p l.tables l.objects l.partly l.page × ((k : ℕ) → k < l.page → PageChecked l.p l.tables k)

abbrev pub invariant-loop-g : goal.invariant-loop-g
invariant-loop-g l = (k : ℕ) → k < l.g → 1 ≤ k → count_of l.p l.tables k ≡ get_or l.objects k 0
