-- The depth and the counter stand apart from the pages and the counts.
use Rattle.std.proofs.Common.{ℕ, ◌+◌, ◌-◌, List, set, ap, ◌∙◌, ap₂}
use Rattle.rules.specs.Rules.{counted}
use Rattle.layout.specs.Places.{depth_at, depth_of, freed_at}
use Rattle.release.specs.Release.{Ended, kept-depth, kept-freed}
use Rattle.release.specs.Notes.{ended-noted}
use Rattle.release.proofs.release.Goals as goal

pub returns : goal.returns
returns c =
    let a = c.args in
    let set-count = c.set_count in
    let set-depth = c.set_depth in
    let region = c.requires.le_region in
    let thread = c.requires.thread_lt_threads.0 in
    let X : List ℕ = c.release_pages.new.tables in
    let d = kept-depth a.region c.requires.room c.release_pages.ensures thread set-count.ensures in
    let f = kept-freed a.region (c.depth-depth.result - 1) c.requires.room c.release_pages.ensures thread region.1 set-count.ensures set-depth.ensures in
    let e : Ended a.p a.region a.thread a.freed a.tables.now c.count_freed.new.tables =
    record {
      mid = X;
      pages = c.release_pages.ensures;
      tables =
          c.count_freed.ensures
          ∙ ap₂ (λ (Y : List ℕ) (x : ℕ). set Y (freed_at a.p) (counted (x + a.freed)))
          (set-depth.ensures
          ∙ ap (λ (x : ℕ). set set-count.new.tables (depth_at a.thread) (x - 1)) (c.depth-depth.ensures ∙ d)
          ∙ ap (λ (Y : List ℕ). set Y (depth_at a.thread) (depth_of a.tables.now a.thread - 1)) set-count.ensures)
          f;
    } in record {
      ended = e;
      emptied = c.clear_pages.ensures;
      noted_2 = ended-noted c.requires.room region.0 region.1 thread e c.requires.lists c.requires.noted c.note_released.ensures;
    }
