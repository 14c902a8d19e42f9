use Rattle.std.proofs.Common.{ℕ, List, ◌≡◌, ◌≢◌, ◌<◌, arith, refl, length, inl}
use Rattle.lists.specs.Part.{cut-here, through-start, through-turn, through-end}
use Rattle.rules.specs.declared.Sizes.{Sizes}
use Rattle.layout.specs.Cells.{work_of, page_of, first_on}
use Rattle.layout.specs.Marks.{marked}
use Rattle.pages.specs.Pages.{Found, regular-filled}
use Rattle.copy.specs.Cursor.{found-next}
use Rattle.copy.specs.Passing.{Passing, passing-usable, moves-passing, order, Moves.none}
use Rattle.copy.specs.Copying.{pass-begin, pass-next, pass-skip}
use Rattle.copy.proofs.copy_pass.Goals as goal
use Rattle.copy.proofs.copy_pass.Invariants.{Below}

-- where no page is found nobody waits to go to the region
nobody : {p : Sizes} {g : ℕ} {W T : List ℕ} → Passing p g W T → Found p T g p.pages → (c : ℕ) → page_of c < p.pages → marked p T c ≡ 1 → work_of W c ≢ g
nobody a f c low on e =
    let n = found-next a.ready.regular (passing-usable a c low on e) f in omega (arith, n.low)

pub page_for-requires-clause-le_region : goal.page_for-requires-clause-le_region
page_for-requires-clause-le_region c =
    let a = c.requires.passing in
    (a.real, a.low, regular-filled a.ready.regular c.args.region a.real a.low)

pub returns-in_default-clause-pass : goal.returns-in_default-clause-pass
returns-in_default-clause-pass c =
    let a = c.args in record {
      moves = none {m = order a.region (first_on a.p.pages)} (omega arith);
      done = λ x l. nobody c.requires.passing c.in_default.ensures.found x;
    }

pub loop-page-init : goal.loop-page-init
loop-page-init c =
    let a = c.args in (
      through-start _ _ _ (Below a.p a.region a.cells.now a.tables.now c.in-Some.at a.cells.now a.tables.now) (λ q l off. pass-skip c.requires.passing.ready (c.requires.by_index q l off)) (pass-begin (inl c.in-Some.ensures.found)),
      c.page_for.ensures.noted_2,
    )

pub copy_page-at-requires-clause-passing : goal.copy_page-at-requires-clause-passing
copy_page-at-requires-clause-passing c =
    let l = c.loop-page in
    moves-passing c.requires.passing (l.invariant.0 _ (cut-here l.page-index _ c.requires.rises c.loop-page-test.true refl)).pass.moves

pub copy_page-at-requires-clause-points : goal.copy_page-at-requires-clause-points
copy_page-at-requires-clause-points c =
    let l = c.loop-page in
    (l.invariant.0 _ (cut-here l.page-index _ c.requires.rises c.loop-page-test.true refl)).points

pub loop-page-preserved : goal.loop-page-preserved
loop-page-preserved c =
    let a = c.args in
    let l = c.loop-page in
    let t = c.loop-page-test.true in
    let step = c.copy_page-at in
    let D = Below a.p a.region a.cells.now a.tables.now in (
      through-turn a.p.pages (length a.list.now) a.list.now (D l.at l.cells l.tables) (D step.result step.new.cells step.new.tables) l.page-index _ c.requires.rises t refl l.invariant.0
          (λ b. pass-next c.requires.passing.ready b step.ensures.page_pass) (λ q lq off. pass-skip c.requires.passing.ready (c.requires.by_index q lq off)),
      step.ensures.noted_2,
    )

pub returns-clause-pass : goal.returns-clause-pass
returns-clause-pass c =
    let a = c.args in
    let l = c.loop-page in
    (through-end a.p.pages (length a.list.now) a.list.now (Below a.p a.region a.cells.now a.tables.now l.at l.cells l.tables) l.page-index c.requires.rises l.auto.page-index-end c.loop-page-test.false l.invariant.0).pass
