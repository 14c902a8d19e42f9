-- A command need only be shown right of the heap that the words themselves make, whose objects are the cells: then it is right of every heap that they stand for.
use Rattle.std.specs.Prelude.{ℕ, ◌<◌, ◌≡◌}
use Rattle.std.proofs.Common.{sym, ap, subst, ◌∙◌}
use Rattle.rules.specs.declared.Sizes.{Sizes}
use Rattle.rules.specs.declared.Command.{Command}
use Rattle.rules.specs.declared.Answer.{Answer}
use Rattle.rules.specs.Terms.{limits}
use Rattle.rules.specs.NeverFreeing.{Object, depth_of, var_of, meaning_of}
use Rattle.laws.specs.GraphLaws.{Alive}
use Rattle.rules.specs.Rules as ru
use Rattle.rules.specs.Rules.{Regioned, graph}
use Rattle.lists.specs.Listed.{get_d-listed}
use Rattle.layout.specs.Words.{Words, cell_count, heap_of, depth_in, var_in}
use Rattle.promises.specs.StandsFor.{StandsFor}
use Rattle.promises.specs.Promises.{Slides, Became, DidHere, Did}
use Rattle.promises.specs.Reading.{var-at, depth-at, words-closed}
use Rattle.promises.specs.Agreed.{home-at, object-at, partners-trans, heap-stands, there, cell-alive}
use Rattle.promises.proofs.Laid.{stands-laid}
use Rattle.laws.specs.LikeCells.{Apart}
use Rattle.laws.specs.LikeHeaps.{Like}
use Rattle.laws.specs.LikeSteps.{step-like}

-- words that stand for h: h corresponds to the heap that they make
stands-like : (s : Sizes) (w : Words) (h : Regioned) (cell_of : ℕ → ℕ) → StandsFor s w h cell_of → Like cell_of h (heap_of s w)
unfolding heap_of
stands-like s w h cell_of st =
    record {
      sound = st.sound;
      sound' = (heap-stands s w st.whole).sound;
      depths = sym st.depths;
      partners = record {
        home = λ x a. home-at s w st.whole (cell_of x) ∙ st.partners.home x a;
        apart = st.partners.apart;
        onto = λ y a. st.partners.onto y (there s w st.whole y a);
        refs = λ x a. ap (λ (o : Object). o.refs) (object-at s w st.whole (cell_of x) (cell-alive s w h cell_of st x a)) ∙ st.partners.refs x a;
        vars = st.partners.vars;
      };
      nums = λ x a. ap (λ (o : Object). o.nums) (object-at s w st.whole (cell_of x) (cell-alive s w h cell_of st x a)) ∙ sym (st.nums x a);
      counters = sym st.counters;
      occupancy = record {
        pages = sym st.occupies.pages;
        cells = λ x a. get_d-listed (λ c. c) (cell_count s) (cell_of x) 0 ((words-closed s w st.whole).below (cell_of x) (cell-alive s w h cell_of st x a)) ∙ sym (st.occupies.cells x a);
      };
    }

-- and its objects lie in different cells
stands-apart : (s : Sizes) (w : Words) (h : Regioned) (cell_of : ℕ → ℕ) → StandsFor s w h cell_of → Apart h
stands-apart s w h cell_of st x y a b e = st.partners.apart x y a b (sym (st.occupies.cells x a) ∙ e ∙ st.occupies.cells y b)

-- words that stand for a heap stand for each that corresponds to it
like-stands : (s : Sizes) (w : Words) (to : ℕ → ℕ) (h k : Regioned) (cell : ℕ → ℕ) → Like to h k → StandsFor s w k cell → StandsFor s w h (λ x. cell (to x))
like-stands s w to h k cell l st =
    record {
      whole = st.whole;
      sound = l.sound;
      depths = sym l.depths ∙ st.depths;
      partners = partners-trans l.partners st.partners;
      nums = λ x a. sym (l.nums x a) ∙ st.nums (to x) (λ z. a (sym (l.partners.home x a) ∙ z));
      counters = sym l.counters ∙ st.counters;
      occupies = record {
        cells = λ x a. sym (l.occupancy.cells x a) ∙ st.occupies.cells (to x) (λ z. a (sym (l.partners.home x a) ∙ z));
        pages = sym l.occupancy.pages ∙ st.occupies.pages;
      };
    }

pub did-anywhere : (s : Sizes) (w : Words) (m : Command) (w' : Words) (a : Answer) → DidHere s w m w' a → Did s w m w' a
did-anywhere s w m w' a d =
    record {
      answer = λ h cell_of st. d.answer ∙ (step-like s cell_of h (heap_of s w) (stands-like s w h cell_of st) (stands-apart s w h cell_of st) m).answers;
      words = λ h cell_of st. let b = next h cell_of st in stands-laid s w' (ru.step s h m).next b.cell b.stands w d.beyond;
      next = next;
      freed = d.freed;
      refused = d.refused;
      beyond = d.beyond;
    }
  where
    next : (h : Regioned) (cell_of : ℕ → ℕ) → StandsFor s w h cell_of → Became s h cell_of m w' (ru.step s h m).next
    next h cell_of st =
        let l = stands-like s w h cell_of st in
        let n = (step-like s cell_of h (heap_of s w) l (stands-apart s w h cell_of st) m).next in
        let b = d.next in
        record {
          cell = λ x. b.cell (n.to' x);
          stands = like-stands s w' n.to' (ru.step s h m).next (ru.step s (heap_of s w) m).next b.cell n.like b.stands;
          stays = λ x a e n'.
              let a₁ : Alive (graph (ru.step s h m).next) x = λ z. a (sym e ∙ z) in
              ap b.cell (n.keeps x a)
              ∙ b.stays (cell_of x) (λ z. a (sym (l.partners.home x a) ∙ z))
              (ap (graph (ru.step s (heap_of s w) m).next).home (sym (n.keeps x a)) ∙ n.like.partners.home x a₁ ∙ e ∙ sym (l.partners.home x a))
              (subst (λ (q : ℕ). Slides (meaning_of m).effect q → ⊥) (sym (l.partners.home x a)) n');
        }

-- what the questions read of that heap, in words
module _ (s : Sizes) (w : Words) where
  pub here-depth : (t : ℕ) → t < s.threads → depth_of (heap_of s w).heap t ≡ depth_in w t
  unfolding heap_of
  here-depth t l = depth-at s w t l

  pub here-var : (t a : ℕ) → t < s.threads → a < s.variables → var_of (limits s) (heap_of s w).heap t a ≡ var_in s w t a
  unfolding heap_of
  here-var t a l m = var-at s w t a l m
