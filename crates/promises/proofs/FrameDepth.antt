-- A thread's depth is stored: the words stand for the heap with that depth.
use Rattle.std.specs.Prelude.{ℕ, ◌≤◌, ◌<◌, ◌≡◌, refl, List, [], ◌∷◌, set}
use Rattle.std.proofs.Common.{arith, sym, ap, ◌∙◌}
use Rattle.std.proofs.Math.Decide.{ℕ_discrete}
use Rattle.std.proofs.Math.Logic.{by_cases}
use Rattle.lists.specs.Stores.{put, past, part-here}
use Rattle.rules.specs.declared.Sizes.{Sizes}
use Rattle.rules.specs.Regions.{thread_of}
use Rattle.rules.specs.Rules.{Regioned}
use Rattle.laws.specs.RulesLaws.{Sound}
use Rattle.layout.specs.Places.{depth_at, depth_of, tables_words, count_room, count-is, owners-is}
use Rattle.layout.specs.Words.{Words, depths_at, depth_in, depths_in, owner_in}
use Rattle.promises.specs.Whole.{WholeFor, Open}
use Rattle.promises.specs.StandsFor.{StandsFor}
use Rattle.promises.specs.Changes.{with_tables, with_depth}
use Rattle.promises.specs.Areas.{depth_words, Only, store-only}
use Rattle.promises.proofs.Frames.{still-whole, pages-open, variables-frame, objects-frame, remember-frame, vars-same, home_same, counters-same, occupancy-same, stands-still}

module _ (s : Sizes) (w : Words) (k : WholeFor s w) (t d : ℕ) (l : t < s.threads) where
  abbrev T : List ℕ
  T = set w.tables (depth_at t) d

  low : depth_at t < tables_words s
  low = omega (arith, count_room s, count-is s, owners-is s)

  pub depth-only : Only (depth_words ∷ []) s w (with_tables w T)
  depth-only = store-only s w depth_words (depth_at t) d (omega arith) low

  here : depth_of T t ≡ d
  here = put w.tables (depth_at t) d 0 (omega (arith, low, k.sized.tables))

  elsewhere : (u : ℕ) → (u ≡ t → ⊥) → depth_of T u ≡ depth_of w.tables u
  elsewhere u n = past w.tables (depth_at t) d (depth_at u) 0 (λ (e : depth_at u ≡ depth_at t). n (omega arith))

  -- each region that owns a page is open at the new depth
  abbrev pub OpenStill : Type 0
  OpenStill = (page : ℕ) → page < s.pages → 1 < owner_in s w page → Open s T (owner_in s w page)

  pub depth-whole : d ≤ s.depth → OpenStill → WholeFor s (with_tables w T)
  depth-whole m o =
      still-whole depth-only refl refl refl refl refl refl refl refl refl refl k
      (λ u n. by_cases (ℕ_discrete u t) (λ e. omega (arith, ap (depth_of T) e, here)) (λ e. omega (arith, elsewhere u e, k.depths u n))) (pages-open depth-only refl refl k.pages o)
      (variables-frame depth-only refl refl refl k.variables) (objects-frame depth-only refl refl refl k.objects) (remember-frame depth-only refl refl refl refl refl k.remember)

  -- they are if it does not fall
  pub raised-open : depth_in w t ≤ d → OpenStill
  raised-open m page n z =
      let o = (k.pages page n).region z in
      let u = thread_of s (owner_in s w page) in
      record {
        real = o.real;
        thread = o.thread;
        level = by_cases (ℕ_discrete u t) (λ e. omega (arith, o.level, ap (depth_of T) e, ap (depth_of w.tables) e, here)) (λ e. omega (arith, o.level, elsewhere u e));
      }

  depths-set : depths_in s (with_tables w T) ≡ set (depths_in s w) t d
  unfolding depths_at
  depths-set = part-here s.threads (depth_at 0) w.tables t d l

-- thread t gets depth d
pub depth-stands : (s : Sizes) (w : Words) (h : Regioned) (cell_of : ℕ → ℕ) (st : StandsFor s w h cell_of) (t d : ℕ) (l : t < s.threads) → d ≤ s.depth
    → OpenStill s w st.whole t d l → Sound (with_depth h t d) → StandsFor s (with_tables w (set w.tables (depth_at t) d)) (with_depth h t d) cell_of
depth-stands s w h cell_of st t d l m o sound =
    let k = st.whole in
    let only = depth-only s w k t d l in
    stands-still st (home_same only refl refl refl) (with_depth h t d).heap (depth-whole s w k t d l m o)
    (ap (λ (ds : List ℕ). set ds t d) st.depths ∙ sym (depths-set s w k t d l)) st.partners.refs (vars-same only refl ∙ st.partners.vars) st.nums (counters-same only refl refl) (occupancy-same only refl refl) sound
