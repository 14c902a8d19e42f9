use Rattle.std.proofs.Common.{◌≡◌, refl, ◌∙◌, subst, ◌<◌, ◌+◌, arith}
use Rattle.mark.specs.Pushes.{Pushing, Pushing.none, pushing-nulls, pushing-kept, pushing-shaped, ref-read, push-read}
use Rattle.layout.specs.Places.{var_count}
use Rattle.mark.specs.Holders.{var_held, var-held-ref, var-elsewhere, kept-var-held}
use Rattle.mark.proofs.holders.push_variables.Goals as goal

pub returns-then-g-outer : goal.returns-then-g-outer
returns-then-g-outer c =
    let a = c.args in
    let e : 0 + var_count a.p ≡ var_count a.p = omega arith in
    subst (Pushing a.p a.r (var_held a.p a.tables.now a.thread a.outer a.g) a.cells.now a.tables.now a.top a.cells.now a.tables.now a.top) e
    (pushing-nulls none (var_count a.p) (λ i l h. var-elsewhere a.p a.tables.now a.thread a.outer a.g c.if-g-ne1.true c.if-g-outer.true i))

pub loop-i-init : goal.loop-i-init
loop-i-init c =
    (refl, refl, none)

pub push-t-requires : goal.push-t-requires
push-t-requires c =
    let args = c.args in
    let loop = c.loop-i in
    let variable-for = c.variable_for-x in
    let lt : loop.i < var_count args.p = omega arith in
    let h = loop.invariant.2 in
    let k = pushing-kept c.requires.shaped h in record {
      shaped = pushing-shaped c.requires.shaped h;
      fact = ref-read c.requires.shaped h (var-held-ref c.requires.shaped c.requires.by_index.1 _ _ _ loop.i lt) variable-for.result (variable-for.ensures ∙ kept-var-held k c.requires.shaped.room c.requires.by_index.1 _ _ _ _ lt);
    }

pub loop-i-preserved : goal.loop-i-preserved
loop-i-preserved c =
    let args = c.args in
    let loop = c.loop-i in
    let variable-for = c.variable_for-x in
    let lt : loop.i < var_count args.p = omega arith in
    let k = pushing-kept c.requires.shaped loop.invariant.2 in
    let h = push-read c.requires.shaped loop.invariant.2 (var-held-ref c.requires.shaped c.requires.by_index.1 _ _ _ loop.i lt) variable-for.result (variable-for.ensures ∙ kept-var-held k c.requires.shaped.room c.requires.by_index.1 _ _ _ _ lt) c.push-t.ensures in
    let k' = pushing-kept c.requires.shaped h in
    (k'.cells-length, k'.tables-length, h)
