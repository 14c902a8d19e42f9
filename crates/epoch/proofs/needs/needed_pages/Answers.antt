use Rattle.std.proofs.Common.{◌≡◌, refl, ap, ◌∙◌, arith, get_or}
use Rattle.lists.specs.Counting.{sum_more}
use Rattle.rules.specs.Regions.{region_at}
use Rattle.laws.specs.RegionLaws.{region-bounds}
use Rattle.promises.specs.Arriving.{region_more, more_below}
use Rattle.epoch.proofs.needs.needed_pages.Goals as goal

pub loop-level-init : goal.loop-level-init
loop-level-init c = (refl, omega arith)

pub region_at-requires : goal.region_at-requires
region_at-requires c =
    (c.requires.room.threads-high, c.requires.room.depth-high, c.requires.thread_lt_threads.0, omega (arith, c.requires.thread_lt_threads.1))

pub new_pages-n-requires : goal.new_pages-n-requires
new_pages-n-requires c =
    let b = region-bounds c.args.p c.args.thread c.loop-level.level c.requires.thread_lt_threads.0 (omega (arith, c.requires.thread_lt_threads.1)) in record {
      room = c.requires.room;
      le_g = (omega (arith, c.region_at.ensures, b.0), omega (arith, c.region_at.ensures, b.1), c.requires.p_in_bounds);
    }

pub overflow_add-n : goal.overflow_add-n
overflow_add-n c = omega (arith, c.new_pages-n.ensures.upper_bound, c.loop-level.invariant.1, c.requires.room, c.requires.thread_lt_threads.1)

pub loop-level-preserved : goal.loop-level-preserved
loop-level-preserved c =
    let a = c.args in
    let l = c.loop-level in
    let T = a.tables.now in
    let e = c.new_pages-n.ensures.value ∙ ap (region_more a.p T (λ g. get_or a.come.now g 0)) c.region_at.ensures in
    let m = sum_more (λ i. region_more a.p T (λ g. get_or a.come.now g 0) (region_at a.p a.thread i)) l.level in
    (omega (arith, e, m, l.invariant.0), omega (arith, c.new_pages-n.ensures.upper_bound, l.invariant.1))

pub returns : goal.returns
returns c =
    let a = c.args in
    let e : c.loop-level.level ≡ a.levels = omega arith in
    c.loop-level.invariant.0 ∙ ap (more_below a.p a.tables.now (λ g. get_or a.come.now g 0) (region_at a.p a.thread)) e
