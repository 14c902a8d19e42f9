-- A slot crosses if what it names lies elsewhere and not in the control space.
use Rattle.std.proofs.Common.{Bool, not, eqb, ◌≡◌, ap, ◌∙◌, arith, eq-eqb, ne_eqb}
use Rattle.std.proofs.Math.Decide.{ℕ_discrete}
use Rattle.lists.specs.Counting.{bit}
use Rattle.layout.specs.Objects.{begins-page}
use Rattle.census.specs.After.{cross_after, cross-after-null, cross-not, cross-out}
use Rattle.census.proofs.crossing.crosses.Goals as goal

pub returns-then-x-eq0 : goal.returns-then-x-eq0
returns-then-x-eq0 c =
    let args = c.args in
    cross-after-null args.p args.cells.now args.tables.now args.home args.x c.if-x-eq0.true

pub home_after-h-requires-clause-c_bound : goal.home_after-h-requires-clause-c_bound
home_after-h-requires-clause-c_bound c = (omega (arith, c.cell_named.ensures, begins-page _ _ _ _ (c.requires.fact (omega (arith, c.if-x-eq0.false)))), c.requires.p_in_bounds)

pub returns : goal.returns
returns c = go (ℕ_discrete c.other_region.result 0)
  where
    go : Dec (c.other_region.result ≡ 0) → bit (not (eqb c.other_region.result 0)) ≡ cross_after c.args.p c.args.cells.now c.args.tables.now c.args.home c.args.x
    go (yes z) =
        ap (λ (b : Bool). bit (not b)) (eq-eqb c.other_region.result 0 z)
        ∙ cross-not c.args.p c.args.cells.now c.args.tables.now c.args.home c.args.x _ _ _ c.if-x-eq0.false c.cell_named.ensures c.home_after-h.ensures c.other_region.ensures z
    go (no n) =
        ap (λ (b : Bool). bit (not b)) (ne_eqb c.other_region.result 0 n)
        ∙ cross-out c.args.p c.args.cells.now c.args.tables.now c.args.home c.args.x _ _ _ c.if-x-eq0.false c.cell_named.ensures c.home_after-h.ensures c.other_region.ensures n
