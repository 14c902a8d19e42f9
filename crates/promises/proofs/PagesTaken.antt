-- Where objects are packed as 02, W3 says, a command takes just the pages that question 13 counts: as many pages are free after it as before,
-- less the new pages of the regions that grow, and with those of the regions that shrink. At an end that is the region that ended alone, at a
-- collection the control space.
use Rattle.std.specs.Prelude.{ℕ, suc, ◌+◌, ◌-◌, ◌≡◌}
use Rattle.std.proofs.Common.{arith, sym, ap, ◌∙◌}
use Rattle.lists.specs.Counting.{sum, sum_same, sum-plus, count-owners}
use Rattle.rules.specs.declared.Sizes.{Sizes}
use Rattle.rules.specs.declared.Command.{Command}
use Rattle.rules.specs.declared.Answer.{Answer}
use Rattle.rules.specs.Regions.{regions}
use Rattle.rules.specs.Graph.{Graph, pages_of, objects_in, new_pages}
use Rattle.rules.specs.Rules as ru
use Rattle.rules.specs.Rules.{Regioned, graph}
use Rattle.layout.specs.Words.{Words, owner_in, heap_of}
use Rattle.promises.specs.Whole.{WholeFor}
use Rattle.promises.specs.StandsFor.{StandsFor}
use Rattle.promises.specs.Promises.{DidHere}
use Rattle.promises.specs.Agreed.{heap-stands, objects-agree}
use Rattle.promises.specs.OwnedPages.{owned_one, pages_owned}
use Rattle.promises.proofs.OwnedPages.{region-pages, owner-low}

-- the pages that the objects of each region fill, and of all regions
abbrev filled_by : Graph → ℕ → ℕ
filled_by g i = pages_of (objects_in g (suc i))

-- with the free ones they are all pages
all-pages : (s : Sizes) (w : Words) (h : Regioned) (to : ℕ → ℕ) → StandsFor s w h to → sum (filled_by (graph h)) (regions s) + pages_owned s w 0 ≡ s.pages
unfolding owned_one
all-pages s w h to st =
    ap (λ (n : ℕ). n + pages_owned s w 0)
    (sum_same _ _ (regions s) (λ i l. ap pages_of (objects-agree s w h to st (suc i) (omega arith)) ∙ sym (region-pages s w st.whole (suc i) (omega arith))))
    ∙ count-owners (owner_in s w) (regions s) s.pages (owner-low s w st.whole)

-- what grows and what shrinks make up for one another
balance : (a b : ℕ → ℕ) (n : ℕ) → sum b n + sum (λ i. a i - b i) n ≡ sum a n + sum (λ i. b i - a i) n
balance a b n = sym (sum-plus b (λ i. a i - b i) n) ∙ sum_same _ _ n (λ i l. omega arith) ∙ sum-plus a (λ i. b i - a i) n

module _ (s : Sizes) (w w' : Words) (h h' : Regioned) (to to' : ℕ → ℕ) (st : StandsFor s w h to) (st' : StandsFor s w' h' to') where
  balanced : pages_owned s w' 0 + new_pages s (graph h) (graph h') ≡ pages_owned s w 0 + new_pages s (graph h') (graph h)
  unfolding new_pages
  balanced =
      omega (arith, all-pages s w h to st, all-pages s w' h' to' st', balance (filled_by (graph h)) (filled_by (graph h')) (regions s))

-- THE PACKING TAKES JUST THE PAGES THAT 13 COUNTS
pub pages-taken : (s : Sizes) (w : Words) (m : Command) (w' : Words) (a : Answer) → WholeFor s w → DidHere s w m w' a
    → let h = heap_of s w in
    let h' = (ru.step s h m).next in
    pages_owned s w' 0 + new_pages s (graph h) (graph h') ≡ pages_owned s w 0 + new_pages s (graph h') (graph h)
pages-taken s w m w' a k d = balanced s w w' (heap_of s w) (ru.step s (heap_of s w) m).next (λ c. c) d.next.cell (heap-stands s w k) d.next.stands
