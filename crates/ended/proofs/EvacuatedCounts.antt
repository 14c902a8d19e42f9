-- The objects after an accepted end are those that live on, so the counters agree with the counts.
use Rattle.std.specs.Prelude.{ℕ, ◌+◌, ◌≤◌, ◌<◌, ◌≡◌, ◌≢◌, Bool, not, eqb}
use Rattle.std.proofs.Common.{arith, ap, subst, ◌∙◌, ⊎_elim, eq-eqb, ne_eqb}
use Rattle.std.proofs.Math.Decide.{dec_lt}
use Rattle.std.proofs.Math.Path.{sym}
use Rattle.std.proofs.Math.Logic.{by_cases}
use Rattle.lists.specs.Counting.{bit}
use Rattle.lists.specs.OneToOne.{sum-paired}
use Rattle.rules.specs.declared.Sizes.{Sizes}
use Rattle.rules.specs.Regions.{regions}
use Rattle.rules.specs.Graph.{Graph, freed_by}
use Rattle.rules.specs.Rules.{Counters, Leaves}
use Rattle.laws.specs.Counters.{living, living-ended, leaves-freed}
use Rattle.layout.specs.Cells.{page_of}
use Rattle.layout.specs.Objects.{begins-low}
use Rattle.layout.specs.Words.{Words, owner_in, home_in, counters_in, graph_of, cell_count}
use Rattle.promises.specs.Whole.{WholeFor, CountersWhole, live_of}
use Rattle.promises.specs.Reading.{used-home, alive-used, used-owned}
use Rattle.promises.proofs.OwnedPages.{open-high, live-there, live-objects}
use Rattle.promises.specs.Ends.{Part, part_of, Lives, lives-how}
use Rattle.ended.specs.Evacuated.{Evacuated, FreedCounted}
use Rattle.ended.specs.Living.{GraphAfter, lives-there, region-after}

-- an object is counted where it is there
there : (q : ℕ) → 0 < bit (not (eqb q 0)) → q ≢ 0
there q l e = omega (arith, ap (λ (b : Bool). bit (not b)) (eq-eqb q 0 e))

one : (q : ℕ) → q ≢ 0 → bit (not (eqb q 0)) ≡ 1
one q n = ap (λ (b : Bool). bit (not b)) (ne_eqb q 0 n)

module _ {s : Sizes} {w : Words} {e : Part} {w' : Words} {cell : ℕ → ℕ} (whole : WholeFor s w) (v : Evacuated s w e w' cell) where
  -- the page of one that lives on is a region's
  owner-some : (c : ℕ) → Lives s w e c → owner_in s w' (page_of (cell c)) ≢ 0
  owner-some c l z =
      ⊎_elim
      (λ o. let t = v.placement.stayed c o in used-owned s w whole c o.used (sym t.owner ∙ ap (λ (x : ℕ). owner_in s w' (page_of x)) (sym t.same) ∙ z))
      (λ x. omega (arith, v.placement.went c x, x.goes)) (lives-how l)

  home_some : (c : ℕ) → Lives s w e c → home_in s w' (cell c) ≢ 0
  home_some c l z = owner-some c l (sym (used-home s w' (cell c) (v.placement.used c l)) ∙ z)

  -- as many are there as in the graph of those that live on
  living-after : {g : Graph} → GraphAfter s w e g → living g ≡ living (graph_of s w')
  unfolding living
  living-after {g} a =
      sum-paired cell (λ x. bit (not (eqb (g.home x) 0))) g.count (λ y. bit (not (eqb (home_in s w' y) 0))) (cell_count s)
      (record {
        goes = λ x l k.
            let y = a.lives x (there (g.home x) k) in
            (begins-low s _ _ (cell x) (v.placement.used x y), one (home_in s w' (cell x)) (home_some x y) ∙ sym (one (g.home x) (there (g.home x) k)));
        apart = λ x y l m k j. v.placement.apart x y (a.lives x (there (g.home x) k)) (a.lives y (there (g.home y) j));
        onto = λ y l k.
            let c = v.only y (alive-used s w' y (there (home_in s w' y) k)) in
            (c.0, omega (arith, a.count, begins-low s _ _ c.0 c.1.used), omega (arith, one (g.home c.0) (lives-there whole a c.0 c.1)), c.2);
      })

  owner-low : (page : ℕ) → page < s.pages → owner_in s w' page ≤ regions s
  owner-low page l =
      by_cases (dec_lt 1 (owner_in s w' page))
      (λ h. open-high s w'.tables (owner_in s w' page) whole.sized.range.depth_low (v.owners page l h)) (λ h. omega arith)

-- the end of region r
module _ (s : Sizes) (w : Words) (whole : WholeFor s w) (r : ℕ) (pos : 0 < r) (w' : Words) (cell : ℕ → ℕ) (v : Evacuated s w (part_of s w r) w' cell) where
  live-after : live_of s w'.tables + freed_by s (graph_of s w) r ≡ live_of s w.tables
  live-after =
      omega (
        arith,
        live-there s w' v.regular (owner-low whole v),
        living-after whole v (region-after s w whole r pos),
        living-ended s (graph_of s w) r pos,
        live-objects s w whole,
      )

  pub counted-whole : FreedCounted s w r w' → CountersWhole s w'
  counted-whole e =
      subst (λ (k : Counters). Leaves k (live_of s w'.tables)) (sym e)
      (leaves-freed (counters_in s w) (live_of s w'.tables) (freed_by s (graph_of s w) r) (subst (Leaves (counters_in s w)) (sym live-after) whole.counters))
