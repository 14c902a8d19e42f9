-- The difference of the two counters is the sum of the counts, or that is not what they leave.
use Rattle.std.proofs.Common.{◌≡◌, ◌+◌, ◌%◌, ◌^◌, ◌<◌, length, sym, ◌∙◌, arith, eq-eqb, eqb-true}
use Rattle.whole.specs.Counters.{live-low, left-whole, whole-left}
use Rattle.whole.proofs.counters.counters_whole.Goals as goal

pub returns : goal.returns
returns c =
    let args = c.args in
    let made = c.made-made in
    let freed = c.freed-freed in
    let less = c.wrapping_sub_u32 in
    let low : less.result < 2 ^ 32 = omega arith in
    let difference : (less.result + freed.result) % 2 ^ 32 ≡ made.result = omega (arith, less.ensures) in (
      λ e. left-whole args.p args.tables.now less.result made.result freed.result low difference made.ensures freed.ensures (eqb-true _ _ e ∙ c.live_objects.ensures),
      λ h. eq-eqb _ _ (whole-left args.p args.tables.now less.result made.result freed.result low difference made.ensures freed.ensures
          (live-low args.p args.tables.now (length args.tables.now) c.requires.room c.requires.regions_whole) h ∙ sym c.live_objects.ensures),
    )
