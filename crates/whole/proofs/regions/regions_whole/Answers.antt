use Rattle.std.proofs.Common.{◌≡◌, ℕ, ◌+◌, ◌<◌, ◌≤◌, get_or, Bool, List, length, sym, refl, ap, ◌∙◌, subst₂, not-suc-le-zero, arith, below_more}
use Rattle.lists.specs.Says.{says-yes, says-no}
use Rattle.layout.specs.Places.{regions-few, count_of}
use Rattle.lists.specs.Counting.{sum}
use Rattle.promises.specs.Whole.{objects_on}
use Rattle.whole.specs.Regions.{Tallied, tallied-none, tallied-free, tallied-full, tallied-part, twice, objects-low, owner-room}
use Rattle.whole.proofs.regions.regions_whole.Goals as goal
use Rattle.whole.proofs.regions.regions_whole.Goals.{then-owner-ne0, else-owner-ne0, then-used-lt-CELLS+else-partly-owner, else-used-lt-CELLS}

pub loop-page-init : goal.loop-page-init
loop-page-init c = (tallied-none c.args.p c.args.tables.now, λ k l. absurd (not-suc-le-zero l))

pub returns-then-partly-owner : goal.returns-then-partly-owner
returns-then-partly-owner c =
    let args = c.args in
    let loop = c.loop-page in
    let owner = c.owner-owner in
    let used = c.used-used in
    says-no (λ h. twice args.p args.tables.now loop.objects loop.partly loop.page owner.result used.result loop.invariant.0 owner.ensures used.ensures (owner-room args.p args.tables.now (length args.tables.now) loop.page c.requires (c.page_whole.ensures.0 c.if-not-page_whole.false) owner.ensures) c.loop-page-test.true (omega (arith, c.if-used-lt-CELLS.true)) c.if-partly-owner.true h.partial)

pub overflow_add-objects : goal.overflow_add-objects
overflow_add-objects c =
    let page-whole = c.page_whole in
    let if1 = c.if-not-page_whole in
    let args = c.args in
    let loop = c.loop-page in
    let owner = c.owner-owner in
    omega (arith, (page-whole.ensures.0 if1.false).whole.filled.cells, objects-low args.p args.tables.now loop.objects loop.partly loop.page owner.result loop.invariant.0 (λ k l. (loop.invariant.1 k l).whole.filled.cells) (omega arith) (owner-room args.p args.tables.now (length args.tables.now) loop.page c.requires (page-whole.ensures.0 if1.false) owner.ensures))

pub loop-page-preserved : goal.loop-page-preserved
loop-page-preserved c =
    let args = c.args in
    let loop = c.loop-page in
    let owner = c.owner-owner in
    let pre = c.requires in
    let page-whole = c.page_whole in
    let if1 = c.if-not-page_whole in (
      elim c.if-owner-ne0.branch [
        | then-owner-ne0 w ↦ elim w.if-used-lt-CELLS.branch [
          | then-used-lt-CELLS+else-partly-owner v ↦
              subst₂ (λ (a : List ℕ) (b : List Bool). Tallied args.p args.tables.now a b (loop.page + 1)) (sym w.objects-is) (sym (w.partly-is ∙ v.partly-is))
              (tallied-part args.p args.tables.now loop.objects loop.partly loop.page owner.result w.used-used.result loop.invariant.0 owner.ensures w.used-used.ensures (omega (arith, w.if-owner-ne0.true)) (owner-room args.p args.tables.now (length args.tables.now) loop.page pre (page-whole.ensures.0 if1.false) owner.ensures) (omega (arith, v.if-used-lt-CELLS.true)) v.if-partly-owner.false)
          | else-used-lt-CELLS v ↦
              subst₂ (λ (a : List ℕ) (b : List Bool). Tallied args.p args.tables.now a b (loop.page + 1)) (sym w.objects-is) (sym (w.partly-is ∙ v.partly-is))
              (tallied-full args.p args.tables.now loop.objects loop.partly loop.page owner.result w.used-used.result loop.invariant.0 owner.ensures w.used-used.ensures (omega (arith, w.if-owner-ne0.true)) (owner-room args.p args.tables.now (length args.tables.now) loop.page pre (page-whole.ensures.0 if1.false) owner.ensures) (omega (arith, v.if-used-lt-CELLS.false)))
        ]
        | else-owner-ne0 w ↦
            subst₂ (λ (a : List ℕ) (b : List Bool). Tallied args.p args.tables.now a b (loop.page + 1)) (sym w.objects-is) (sym w.partly-is)
            (tallied-free args.p args.tables.now loop.objects loop.partly loop.page owner.result _ loop.invariant.0 owner.ensures refl w.if-owner-ne0.false)
      ],
      below_more _ _ loop.invariant.1 (page-whole.ensures.0 if1.false),
    )

pub returns-else-count-objects : goal.returns-else-count-objects
returns-else-count-objects c =
    let loop = c.loop-page in
    let args = c.args in
    let counts : (k : ℕ) → k < c.loop-g.g + 1 → 1 ≤ k → count_of args.p args.tables.now k ≡ get_or loop.objects k 0
    = below_more _ _ c.loop-g.invariant (λ l. sym c.count.ensures ∙ c.if-count-objects.false) in
    says-yes (
    let e : loop.page ≡ args.p.pages = omega arith in
    record {
      pages = λ page l. loop.invariant.1 page (omega arith);
      partial = λ g l a b k m. loop.invariant.0.once g l a b k (omega arith);
      counts = λ g l m. counts g (omega (arith, m, c.last_region-last.ensures)) l ∙ loop.invariant.0.counted g l (omega (arith, regions-few c.requires)) ∙ ap (sum (objects_on args.p args.tables.now g)) e;
    })
