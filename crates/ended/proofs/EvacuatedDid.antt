-- An accepted end of thread t's region at level suc k keeps the promise of code 2.
use Rattle.std.specs.Prelude.{ℕ, suc, ◌≤◌, ◌<◌, ◌≡◌, refl, length, get_or, set}
use Rattle.std.proofs.Common.{arith, ap₂, subst, ◌∙◌, length-set, ext_get_or, get_or-set_same, get_or-set_other}
use Rattle.std.proofs.Math.Decide.{ℕ_discrete}
use Rattle.std.proofs.Math.Path.{sym, ap}
use Rattle.rules.specs.declared.Sizes.{Sizes}
use Rattle.rules.specs.Terms.{done}
use Rattle.rules.specs.NeverFreeing as nf
use Rattle.rules.specs.Regions.{region_at}
use Rattle.rules.specs.Graph.{Graph, ended}
use Rattle.rules.specs.Rules as ru
use Rattle.rules.specs.Rules.{Regioned, graph, more_freed}
use Rattle.laws.specs.GraphLaws.{Alive}
use Rattle.laws.specs.EndLaws.{was-alive}
use Rattle.laws.specs.RulesLaws.{Sound, region-pos, over, graph-ended}
use Rattle.laws.specs.SameRules.{Partners, partners-ended, same-freed}
use Rattle.layout.specs.Words.{Words, BeginsIn, depth_in, depths_in, home_in, graph_of, heap_of}
use Rattle.promises.specs.Whole.{WholeFor, DepthsWhole}
use Rattle.promises.specs.StandsFor.{StandsFor}
use Rattle.promises.specs.Promises.{DidHere}
use Rattle.promises.specs.Ends.{part_of, Lives}
use Rattle.promises.specs.Reading.{alive-used, used-home, words-closed, length-depths, depth-at}
use Rattle.promises.specs.Agreed.{home-at, heap-stands}
use Rattle.promises.proofs.Questions.{did-freed}
use Rattle.promises.specs.OwnedPages.{pages_owned}
use Rattle.ended.specs.Evacuated.{Evacuated, Vacated, FreedCounted, Repacked}
use Rattle.ended.specs.Living.{region-after, region-keeps}
use Rattle.ended.proofs.EvacuatedCounts.{counted-whole}
use Rattle.ended.specs.EvacuatedWhole.{evacuated-whole}
use Rattle.ended.specs.AfterEnd.{end_of, after-end}
use Rattle.ended.proofs.EvacuatedStands.{evacuated-stands}
use Rattle.ended.proofs.Repacking.{repacked-occupies}
use Rattle.ended.specs.WordsPlaced.{left}
use Rattle.ended.specs.EndQuestion.{pages_needed, crossing_after, end-accepted}
use Rattle.ended.specs.EvacuatedDid.{Lowered}

module _ (s : Sizes) (w : Words) (whole : WholeFor s w) (t k : ℕ) (th : t < s.threads) (deep : depth_in w t ≡ suc k) (w' : Words) (cell : ℕ → ℕ)
    (e : Evacuated s w (part_of s w (region_at s t (suc k))) w' cell) (lower : Lowered s w t k w')
    (counted : FreedCounted s w (region_at s t (suc k)) w') (repacked : Repacked s w (region_at s t (suc k)) w' cell) where
  abbrev r : ℕ
  r = region_at s t (suc k)

  abbrev pos : 0 < r
  pos = region-pos s t (suc k)

  -- ---- the words stand for the heap after the end

  depths-low : DepthsWhole s w'
  depths-low u l = go (ℕ_discrete u t)
    where
      go : Dec (u ≡ t) → depth_in w' u ≤ s.depth
      go (yes q) = omega (arith, ap (depth_in w') q, ap (depth_in w) q, lower.depth, deep, whole.depths u l)
      go (no n) = omega (arith, lower.depths u l n, whole.depths u l)

  whole' : WholeFor s w'
  whole' = evacuated-whole whole (region-keeps s w whole r pos) e depths-low (counted-whole s w whole r pos w' cell e counted)

  depths-after : set (depths_in s w) t k ≡ depths_in s w'
  depths-after =
      ext_get_or 0 (set (depths_in s w) t k) (depths_in s w') (long ∙ sym (length-depths s w' whole'))
      (λ i l. go i (omega (arith, long)) (ℕ_discrete i t))
    where
      long : length (set (depths_in s w) t k) ≡ s.threads
      long = length-set (depths_in s w) t k ∙ length-depths s w whole

      go : (i : ℕ) → i < s.threads → Dec (i ≡ t) → get_or (set (depths_in s w) t k) i 0 ≡ get_or (depths_in s w') i 0
      go i l (yes q) =
          ap (λ (j : ℕ). get_or (set (depths_in s w) t k) j 0) q ∙ get_or-set_same (depths_in s w) t k 0 (omega (arith, length-depths s w whole))
          ∙ sym (ap (λ (j : ℕ). get_or (depths_in s w') j 0) q ∙ depth-at s w' t th ∙ lower.depth)
      go i l (no n) = get_or-set_other (depths_in s w) t i k 0 n ∙ depth-at s w i l ∙ sym (depth-at s w' i l ∙ lower.depths i l n)

  abbrev H : Regioned
  H = heap_of s w

  -- the heap after the end
  abbrev H' : Regioned
  H' = over s H r pos (set H.heap.depths t k)

  base : StandsFor s w H (λ x. x)
  base = heap-stands s w whole

  alike : graph H' ≡ ended s (graph H) r
  alike = graph-ended s H r pos (set H.heap.depths t k)

  -- an object that is there afterwards was there, and lives on
  was : (x : ℕ) → Alive (ended s (graph H) r) x → Alive (graph H) x
  was = was-alive s (graph H) r pos base.sound.closed

  lives : (x : ℕ) → Alive (ended s (graph H) r) x → Lives s w (part_of s w r) x
  lives x a =
      (region-after s w whole r pos).lives x
      (λ z. a (sym ((partners-ended s (λ x. x) (graph H) (graph_of s w) base.sound.closed (words-closed s w whole) base.partners r pos).home x a) ∙ z))

  stands : Sound H' → StandsFor s w' H' cell
  stands sound =
      evacuated-stands whole e whole' (region-after s w whole r pos) H' sound (unfold heap_of in depths-after)
      (subst (λ (g : Graph). Partners (λ x. x) g (ended s (graph_of s w) r)) (sym alike)
      (partners-ended s (λ x. x) (graph H) (graph_of s w) base.sound.closed (words-closed s w whole) base.partners r pos))
      (λ x a. base.nums x (was x (subst (λ (g : Graph). Alive g x) alike a)))
      (ap₂ more_freed (same-freed s (λ x. x) (graph H) (graph_of s w) base.sound.closed (words-closed s w whole) base.partners r pos) base.counters ∙ sym counted)
      (repacked-occupies s w whole r pos repacked lives was (set H.heap.depths t k))

  -- ---- the promise

  -- an object whose home does not change lay outside r, since none lies in r afterwards
  keeps-cell : (x : ℕ) → Alive (graph H) x → (graph H').home x ≡ (graph H).home x → cell x ≡ x
  keeps-cell x a q = (e.placement.stayed x (record { used = u; out = λ z. gone (used-home s w x u ∙ z) })).same
    where
      u : BeginsIn s w x
      u = alive-used s w x (λ z. a (home-at s w whole x ∙ z))

      gone : home_in s w x ≡ r → ⊥
      gone z = left s w whole t k th deep x (q ∙ home-at s w whole x ∙ z)

  -- where no question says no, and r's pages go back
  pub evacuated-did : Vacated s (part_of s w (region_at s t (suc k))) w' → ru.question s (heap_of s w) (end_of t) ≡ 0 → DidHere s w (end_of t) w' (done 0)
  evacuated-did free z =
      did-freed s w whole (end_of t) w' H' 0 z (after-end s w t k th deep) (unfold nf.value in refl) e.beyond
      (record { pages = λ page l f. free page l (f ∙ ap (region_at s t) deep) })
      (λ so. record { cell = cell; stands = stands so; stays = λ x a q n. keeps-cell x a q })

  -- so where there are pages and entries
  pub ended-did : Vacated s (part_of s w (region_at s t (suc k))) w' → pages_needed s w r ≤ pages_owned s w 0 → crossing_after s w r ≤ s.entries → DidHere s w (end_of t) w' (done 0)
  ended-did free l m = evacuated-did free (end-accepted s w whole t th k deep l m)
