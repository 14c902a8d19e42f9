-- In whole words every object lies in the control space or an open region; so at the end of r every object goes out of r, to a level
-- below r's.
use Rattle.std.specs.Prelude.{ℕ, suc, ◌-◌, ◌%◌, ◌≤◌, ◌<◌, ◌≡◌, get_or}
use Rattle.std.proofs.Common.{arith, add-one, sym, ap, ◌∙◌}
use Rattle.std.proofs.Math.Decide.{dec_lt}
use Rattle.std.proofs.Math.Path.{subst}
use Rattle.std.proofs.Math.ListN.{get_or-eq_default}
use Rattle.rules.specs.declared.Sizes.{Sizes}
use Rattle.rules.specs.Regions.{region_at, thread_of}
use Rattle.rules.specs.Graph.{target}
use Rattle.rules.specs.Rules as ru
use Rattle.rules.specs.Rules.{graph}
use Rattle.laws.specs.GraphLaws.{Alive, target-called}
use Rattle.laws.specs.RulesLaws.{region-pos}
use Rattle.laws.specs.RegionLaws.{region-number}
use Rattle.laws.specs.Placed as pl
use Rattle.laws.specs.Placed.{Placed, control, level, ended-empty}
use Rattle.laws.specs.Survivors.{held-around}
use Rattle.layout.specs.Cells.{page_of}
use Rattle.layout.specs.Objects.{begins-page}
use Rattle.layout.specs.Words.{Words, depth_in, depths_in, owner_in, home_in, graph_of, heap_of}
use Rattle.promises.specs.Whole.{WholeFor}
use Rattle.promises.specs.Reading.{alive-used, used-home, used-owned, length-depths, depth-at}
use Rattle.promises.specs.Agreed.{home-at, heap-stands, back, targets-agree}
use Rattle.promises.proofs.Here.{here-depth}

module _ (s : Sizes) (w : Words) (whole : WholeFor s w) where
  depth_low : (t : ℕ) → get_or (depths_in s w) t 0 ≤ s.depth
  depth_low t = go (dec_lt t s.threads)
    where
      go : Dec (t < s.threads) → get_or (depths_in s w) t 0 ≤ s.depth
      go (yes l) = omega (arith, depth-at s w t l, whole.depths t l)
      go (no n) = omega (arith, get_or-eq_default (depths_in s w) 0 {n = t} (omega (arith, length-depths s w whole)))

  owner-open : (page : ℕ) → page < s.pages → (owner_in s w page ≡ 0 → ⊥) → pl.Open s (depths_in s w) (owner_in s w page)
  owner-open page l a = go (dec_lt 1 (owner_in s w page))
    where
      go : Dec (1 < owner_in s w page) → pl.Open s (depths_in s w) (owner_in s w page)
      go (yes h) =
          let o = (whole.pages page l).region h in
          level (thread_of s (owner_in s w page)) ((owner_in s w page - 2) % s.depth) o.thread
          (omega (arith, o.level, depth-at s w (thread_of s (owner_in s w page)) o.thread)) (region-number s (owner_in s w page) o.real ∙ ap (region_at s (thread_of s (owner_in s w page))) (add-one _))
      go (no h) = control (omega arith)

  pub words_placed : Placed s (heap_of s w)
  words_placed =
      record {
        depths = unfold heap_of in depth_low;
        homes = λ x a. subst (pl.Open s (heap_of s w).heap.depths) (sym (home-at s w whole x)) (unfold heap_of in (open' x (λ z. a (home-at s w whole x ∙ z))));
      }
    where
      open' : (x : ℕ) → Alive (graph_of s w) x → pl.Open s (depths_in s w) (home_in s w x)
      open' x a =
          let u = alive-used s w x a in
          subst (pl.Open s (depths_in s w)) (sym (used-home s w x u)) (owner-open (page_of x) (begins-page s w.cells w.tables x u) (used-owned s w whole x u))

  module _ (t k : ℕ) (th : t < s.threads) (deep : depth_in w t ≡ suc k) where
    abbrev r : ℕ
    r = region_at s t (suc k)

    pos : 0 < r
    pos = region-pos s t (suc k)

    heap-deep : get_or (heap_of s w).heap.depths t 0 ≡ suc k
    heap-deep = here-depth s w t th ∙ deep

    -- no object lies in r afterwards
    pub left : (x : ℕ) → get_or (ru.ended s (heap_of s w) r) x 0 ≡ r → ⊥
    left = ended-empty s (heap_of s w) words_placed t k th heap-deep

    -- an object of r that survives goes to the region of thread t at a level up to k, the control space for level 0
    pub target-level : (c : ℕ) → home_in s w c ≡ r → 0 < target s (graph_of s w) r c → (j : ℕ) × (j ≤ k) × (target s (graph_of s w) r c ≡ region_at s t j)
    target-level c lies goes =
        let there : Alive (graph (heap_of s w)) c = back s w whole c (λ (z : home_in s w c ≡ 0). omega (arith, pos)) in
        let same = targets-agree s w (heap_of s w) (λ x. x) (heap-stands s w whole) r pos c there in
        let c' = target-called s (graph (heap_of s w)) r c (omega arith) in
        subst (λ (q : ℕ). (j : ℕ) × (j ≤ k) × (q ≡ region_at s t j)) (sym same)
        (held-around s (heap_of s w) words_placed t k th heap-deep c'.first (target s (graph (heap_of s w)) r c) c'.held)
