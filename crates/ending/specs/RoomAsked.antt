-- Questions 13 and 14 of an end, asked of marked words: the new pages against the free ones, the slots that would cross against the entries.
use Rattle.std.specs.Prelude.{◌≡◌, Bool, List, ℕ, ◌≤◌, ◌<◌, leb, get_or}
use Rattle.std.proofs.Math.Path.{sym, ap₂}
use Rattle.std.proofs.Common.{ap, ◌∙◌, subst, subst₂, le-leb}
use Rattle.std.proofs.Math.Bool.{true, false}
use Rattle.std.proofs.lemmas.Bool.{lt-leb}
use Rattle.lists.specs.Counting.{sum_same}
use Rattle.rules.specs.declared.Sizes.{Sizes}
use Rattle.rules.specs.Terms.{ask}
use Rattle.rules.specs.Regions.{region_at}
use Rattle.layout.specs.Places.{count_of}
use Rattle.promises.specs.OwnedPages.{owned_in}
use Rattle.census.specs.Counted.{over-cells}
use Rattle.census.specs.Census.{Arrivals}
use Rattle.census.specs.After.{crossing_counted}
use Rattle.promises.specs.Arriving.{goes_to, arriving, more_pages, region_more, more_below}

-- the new pages by what come says are those of the survivors
pub more-arriving : (p : Sizes) (W T come : List ℕ) (t n : ℕ) → Arrivals p W T p.pages come
    → more_below p T (λ g. get_or come g 0) (region_at p t) n ≡ more_below p T (arriving p W T) (region_at p t) n
unfolding region_more
more-arriving p W T come t n a =
    sum_same _ _ n (λ l h. ap (more_pages (count_of p T (region_at p t l))) (a (region_at p t l) ∙ over-cells p T (goes_to W (region_at p t l))))

-- region r ends, the regions of thread t at the levels below n grow
unfoldable pub room_asked : Sizes → List ℕ → List ℕ → List ℕ → ℕ → ℕ → ℕ → ℕ
room_asked p W M T t n r =
    ask (leb (more_below p T (arriving p W T) (region_at p t) n) (owned_in p T 0 p.pages)) 13 (ask (leb (crossing_counted p W M T r) p.entries) 14 0)

-- the number that the code found
module _ (p : Sizes) (W M T : List ℕ) (t n r : ℕ) {needed free : ℕ} (en : needed ≡ more_below p T (arriving p W T) (region_at p t) n) (ef : free ≡ owned_in p T 0 p.pages) where
  pub asked-pages : free < needed → 13 ≡ room_asked p W M T t n r
  unfolding room_asked ask
  asked-pages l =
      sym (ap (λ (b : Bool). ask b 13 (ask (leb (crossing_counted p W M T r) p.entries) 14 0)) (lt-leb _ _ (subst₂ (λ (a b : ℕ). a < b) ef en l)))

  module _ {crossing : ℕ} (ec : crossing ≡ crossing_counted p W M T r) (l : needed ≤ free) where
    then : (b : Bool) → leb (crossing_counted p W M T r) p.entries ≡ b → room_asked p W M T t n r ≡ ask b 14 0
    unfolding room_asked ask
    then b e = ap₂ (λ (a c : Bool). ask a 13 (ask c 14 0)) (le-leb _ _ (subst₂ (λ (a b : ℕ). a ≤ b) en ef l)) e

    pub asked-entries : p.entries < crossing → 14 ≡ room_asked p W M T t n r
    unfolding ask
    asked-entries m = sym (then false (lt-leb _ _ (subst (λ (x : ℕ). p.entries < x) ec m)))

    pub asked-none : crossing ≤ p.entries → 0 ≡ room_asked p W M T t n r
    unfolding ask
    asked-none m = sym (then true (le-leb _ _ (subst (λ (x : ℕ). x ≤ p.entries) ec m)))
