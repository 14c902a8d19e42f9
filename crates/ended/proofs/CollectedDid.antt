-- A collection keeps the promise of code 11 (02, W5).
use Rattle.std.specs.Prelude.{ℕ, ◌<◌, ◌≡◌, Bool}
use Rattle.std.proofs.Common.{arith, subst, ◌∙◌, ext_get_or, lt-ltb, le-leb}
use Rattle.std.proofs.Math.Path.{refl, sym, ap, ap₂}
use Rattle.rules.specs.declared.Sizes.{Sizes}
use Rattle.rules.specs.declared.Command.{Command}
use Rattle.rules.specs.Terms.{ask, done, first}
use Rattle.rules.specs.NeverFreeing as nf
use Rattle.rules.specs.Regions.{control}
use Rattle.rules.specs.Graph.{Graph, ended, new_pages, free_pages}
use Rattle.rules.specs.Rules as ru
use Rattle.rules.specs.Rules.{Regioned, graph, more_freed}
use Rattle.laws.specs.GraphLaws.{Alive}
use Rattle.laws.specs.EndLaws.{was-alive}
use Rattle.laws.specs.Collected.{takes-no-page}
use Rattle.laws.specs.RulesLaws.{Sound, control-pos, collected, graph-collected}
use Rattle.laws.specs.SameRules.{Partners, partners-ended, same-freed}
use Rattle.layout.specs.Words.{Words, BeginsIn, depth_in, depths_in, graph_of, heap_of}
use Rattle.promises.specs.Whole.{WholeFor, DepthsWhole}
use Rattle.promises.specs.StandsFor.{StandsFor}
use Rattle.promises.specs.Promises.{DidHere}
use Rattle.promises.specs.Ends.{part_of, Lives}
use Rattle.promises.specs.Reading.{alive-used, used-home, words-closed, length-depths, depth-at}
use Rattle.promises.specs.Agreed.{home-at, heap-stands}
use Rattle.promises.proofs.Questions.{did-moved}
use Rattle.ended.specs.Evacuated.{Evacuated, FreedCounted, Packed}
use Rattle.ended.specs.Living.{region-after, region-keeps}
use Rattle.ended.proofs.EvacuatedCounts.{counted-whole}
use Rattle.ended.specs.EvacuatedWhole.{evacuated-whole}
use Rattle.ended.proofs.EvacuatedStands.{evacuated-stands}
use Rattle.ended.proofs.Packing.{packed-occupies}
use Rattle.ended.specs.CollectedDid.{collect_of}

module _ (s : Sizes) (w : Words) (t : ℕ) where
  pub after-collect : ru.after s (heap_of s w) (collect_of t) ≡ collected s (heap_of s w)
  unfolding ru.after nf.effect ru.homes_after ru.counters_after ru.occupancy_after
  after-collect = refl

  -- no question says no: a collection takes no page, and 14 is not asked
  pub collect-accepted : t < s.threads → ru.question s (heap_of s w) (collect_of t) ≡ 0
  unfolding ru.question ru.room nf.question nf.operands nf.state ask
  collect-accepted th =
      ap₂ (λ (b c : Bool). first (ask b 7 0) (ask c 13 0)) (lt-ltb t s.threads th)
      (le-leb (new_pages s (graph (heap_of s w)) (graph (ru.after s (heap_of s w) (collect_of t)))) (free_pages s (graph (heap_of s w))) (omega (arith, none)))
    where
      none : new_pages s (graph (heap_of s w)) (graph (ru.after s (heap_of s w) (collect_of t))) ≡ 0
      none =
          ap (new_pages s (graph (heap_of s w))) (ap graph after-collect ∙ graph-collected s (heap_of s w)) ∙ takes-no-page s (graph (heap_of s w))

module _ (s : Sizes) (w : Words) (whole : WholeFor s w) (w' : Words) (cell : ℕ → ℕ) (e : Evacuated s w (part_of s w control) w' cell)
    (depths : (u : ℕ) → u < s.threads → depth_in w' u ≡ depth_in w u) (counted : FreedCounted s w control w') (packed : Packed s w w' cell) where
  abbrev H : Regioned
  H = heap_of s w

  base : StandsFor s w H (λ x. x)
  base = heap-stands s w whole

  depths-low : DepthsWhole s w'
  depths-low u l = omega (arith, depths u l, whole.depths u l)

  whole' : WholeFor s w'
  whole' = evacuated-whole whole (region-keeps s w whole control control-pos) e depths-low (counted-whole s w whole control control-pos w' cell e counted)

  depths-same : depths_in s w ≡ depths_in s w'
  depths-same =
      ext_get_or 0 (depths_in s w) (depths_in s w') (length-depths s w whole ∙ sym (length-depths s w' whole'))
      (λ i l. let th : i < s.threads = omega (arith, length-depths s w whole) in depth-at s w i th ∙ sym (depth-at s w' i th ∙ depths i th))

  -- an object that is there afterwards was there, and lives on
  was : (x : ℕ) → Alive (ended s (graph H) control) x → Alive (graph H) x
  was = was-alive s (graph H) control control-pos base.sound.closed

  same : Partners (λ x. x) (ended s (graph H) control) (ended s (graph_of s w) control)
  same = partners-ended s (λ x. x) (graph H) (graph_of s w) base.sound.closed (words-closed s w whole) base.partners control control-pos

  lives : (x : ℕ) → Alive (ended s (graph H) control) x → Lives s w (part_of s w control) x
  lives x a = (region-after s w whole control control-pos).lives x (λ z. a (sym (same.home x a) ∙ z))

  stands : Sound (collected s H) → StandsFor s w' (collected s H) cell
  stands sound =
      evacuated-stands whole e whole' (region-after s w whole control control-pos) (collected s H) sound (unfold heap_of in depths-same)
      (subst (λ (g : Graph). Partners (λ x. x) g (ended s (graph_of s w) control)) (sym (graph-collected s H)) same)
      (λ x a. base.nums x (was x (subst (λ (g : Graph). Alive g x) (graph-collected s H) a)))
      (ap₂ more_freed (same-freed s (λ x. x) (graph H) (graph_of s w) base.sound.closed (words-closed s w whole) base.partners control control-pos) base.counters ∙ sym counted)
      (packed-occupies s w whole packed lives was)

  -- objects of other regions stay where they are
  keeps-cell : (x : ℕ) → Alive (graph H) x → ((graph H).home x ≡ control → ⊥) → cell x ≡ x
  keeps-cell x a n =
      let u : BeginsIn s w x = alive-used s w x (λ z. a (home-at s w whole x ∙ z)) in
      (e.placement.stayed x (record { used = u; out = λ z. n (home-at s w whole x ∙ used-home s w x u ∙ z) })).same

  pub collected-did : (t : ℕ) → t < s.threads → DidHere s w (collect_of t) w' (done 0)
  collected-did t th =
      did-moved s w whole (collect_of t) w' (collected s H) 0 (collect-accepted s w t th) (after-collect s w t) (unfold nf.value in refl) e.beyond (λ r z. z)
      (λ so. record { cell = cell; stands = stands so; stays = λ x a q n. keeps-cell x a n })
