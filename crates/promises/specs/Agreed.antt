-- Whole words stand for the heap that they make; and whatever heap they stand for, the rules say the same of it and of the words.
use Rattle.std.specs.Prelude.{ℕ, zero, suc, ◌<◌, ◌≡◌, List, [], ◌∷◌, map, get_or}
use Rattle.std.proofs.Common.{arith, ◌∙◌}
use Rattle.std.proofs.Math.Decide.{dec_lt}
use Rattle.std.proofs.Math.Logic.{by_cases}
use Rattle.std.proofs.Math.Path.{refl, sym, ap, subst}
use Rattle.rules.specs.declared.Sizes.{Sizes}
use Rattle.lists.specs.Members.{In}
use Rattle.rules.specs.NeverFreeing.{Object, no_object}
use Rattle.rules.specs.Graph.{Graph, target, crossing, objects_in, free_pages}
use Rattle.laws.specs.GraphLaws.{Alive, Closed}
use Rattle.laws.specs.Counts.{same-free}
use Rattle.laws.specs.SameRules.{renamed, Partners, same_target, same-objects, same-crossing}
use Rattle.rules.specs.Rules.{Regioned, graph}
use Rattle.layout.specs.Words.{Words, BeginsIn, cell_count, sizes_in, home_in, vars_in, object_in, graph_of, heap_of}
use Rattle.promises.specs.Whole.{WholeFor, WholeWords}
use Rattle.promises.specs.StandsFor.{StandsFor}
use Rattle.lists.specs.Listed.{length-listed, get_d-listed, listed-past}
use Rattle.promises.specs.Reading.{alive-used, no-home, cell-low, words-closed}

pub renamed-id : (l : List ℕ) → map (renamed (λ x. x)) l ≡ l
renamed-id [] = refl
renamed-id (zero ∷ l) = ap (λ (k : List ℕ). 0 ∷ k) (renamed-id l)
renamed-id (suc x ∷ l) = ap (λ (k : List ℕ). suc x ∷ k) (renamed-id l)

renamed-twice : (f g : ℕ → ℕ) (l : List ℕ) → map (renamed g) (map (renamed f) l) ≡ map (renamed (λ x. g (f x))) l
renamed-twice f g [] = refl
renamed-twice f g (zero ∷ l) = ap (λ (k : List ℕ). 0 ∷ k) (renamed-twice f g l)
renamed-twice f g (suc x ∷ l) = ap (λ (k : List ℕ). suc (g (f x)) ∷ k) (renamed-twice f g l)

-- partners of partners
pub partners-trans : {to cell : ℕ → ℕ} {f g h : Graph} → Partners to f g → Partners cell g h → Partners (λ x. cell (to x)) f h
partners-trans {to} {cell} {f} {g} p q =
    record {
      home = λ x a. q.home (to x) (alive x a) ∙ p.home x a;
      apart = λ x y a b e. p.apart x y a b (q.apart (to x) (to y) (alive x a) (alive y b) e);
      onto = λ y a. let z = q.onto y a in let x = p.onto z.0 z.1 in (x.0, x.1, ap cell x.2 ∙ z.2);
      refs = λ x a. q.refs (to x) (alive x a) ∙ ap (map (renamed cell)) (p.refs x a) ∙ renamed-twice to cell (f.refs x);
      vars = q.vars ∙ ap (map (renamed cell)) p.vars ∙ renamed-twice to cell f.vars;
    }
  where
    alive : (x : ℕ) → Alive f x → Alive g (to x)
    alive x a z = a (sym (p.home x a) ∙ z)

module _ (s : Sizes) (w : Words) (k : WholeFor s w) where
  pub home-at : (x : ℕ) → (graph (heap_of s w)).home x ≡ home_in s w x
  unfolding heap_of
  home-at x =
      by_cases (dec_lt x (cell_count s)) (get_d-listed (home_in s w) (cell_count s) x 0)
      (λ l. listed-past (home_in s w) (cell_count s) x 0 (omega arith) ∙ sym (no-home s w x (λ u. l (cell-low s w k x u))))

  pub there : (x : ℕ) → Alive (graph (heap_of s w)) x → Alive (graph_of s w) x
  there x a z = a (home-at x ∙ z)

  pub back : (x : ℕ) → Alive (graph_of s w) x → Alive (graph (heap_of s w)) x
  back x a z = a (sym (home-at x) ∙ z)

  pub object-at : (x : ℕ) → Alive (graph_of s w) x → get_or (heap_of s w).heap.objects x no_object ≡ object_in w x
  unfolding heap_of
  object-at x a = get_d-listed (object_in w) (cell_count s) x no_object ((words-closed s w k).below x a)

  heap-closed : Closed (graph (heap_of s w))
  unfolding heap_of
  heap-closed =
      record {
        below = λ x a. subst (λ (n : ℕ). x < n) (sym (length-listed (object_in w) (cell_count s))) ((words-closed s w k).below x (there x a));
        vars = λ i x e. back x ((words-closed s w k).vars i x e);
        refs = λ x y a i. back y ((words-closed s w k).refs x y (there x a) (subst (λ (o : Object). In (suc y) o.refs) (object-at x (there x a)) i));
      }

  pub heap-stands : StandsFor s w (heap_of s w) (λ x. x)
  unfolding heap_of
  heap-stands =
      record {
        whole = k;
        sound = record { aligned = length-listed (home_in s w) (cell_count s) ∙ sym (length-listed (object_in w) (cell_count s)); celled = length-listed (λ c. c) (cell_count s) ∙ sym (length-listed (home_in s w) (cell_count s)); closed = heap-closed };
        depths = refl;
        partners = record {
          home = λ x a. sym (home-at x);
          apart = λ x y a b e. e;
          onto = λ y a. (y, back y a, refl);
          refs = λ x a. sym (renamed-id _ ∙ ap (λ (o : Object). o.refs) (object-at x (there x a)));
          vars = sym (renamed-id (vars_in s w));
        };
        nums = λ x a. ap (λ (o : Object). o.nums) (object-at x (there x a));
        counters = refl;
        occupies = record { cells = λ x a. get_d-listed (λ c. c) (cell_count s) x 0 ((words-closed s w k).below x (there x a)); pages = refl };
      }

pub whole_words : (s : Sizes) (w : Words) → WholeFor s w → WholeWords w
whole_words s w k = subst (λ (z : Sizes). WholeFor z w) (sym k.sized.sizes) k

-- so no promise about the heap that words stand for is empty
pub heap_of-stands : (w : Words) → WholeWords w → StandsFor (sizes_in w) w (heap_of (sizes_in w) w) (λ x. x)
heap_of-stands w k = heap-stands (sizes_in w) w k

module _ (s : Sizes) (w : Words) (h : Regioned) (cell_of : ℕ → ℕ) (st : StandsFor s w h cell_of) where
  -- an object that is there begins at its cell
  pub cell-alive : (x : ℕ) → Alive (graph h) x → Alive (graph_of s w) (cell_of x)
  cell-alive x a z = a (sym (st.partners.home x a) ∙ z)

  pub cell-used : (x : ℕ) → Alive (graph h) x → BeginsIn s w (cell_of x)
  cell-used x a = alive-used s w (cell_of x) (cell-alive x a)

  -- ---- the rules say the same of the words and of the heap

  pub targets-agree : (r : ℕ) → 0 < r → (x : ℕ) → Alive (graph h) x → target s (graph_of s w) r (cell_of x) ≡ target s (graph h) r x
  targets-agree = same_target s cell_of (graph h) (graph_of s w) st.sound.closed (words-closed s w st.whole) st.partners

  pub objects-agree : (q : ℕ) → 0 < q → objects_in (graph h) q ≡ objects_in (graph_of s w) q
  objects-agree = same-objects s cell_of (graph h) (graph_of s w) st.sound.closed (words-closed s w st.whole) st.partners

  pub crossing-agree : crossing (graph h) ≡ crossing (graph_of s w)
  crossing-agree = same-crossing s cell_of (graph h) (graph_of s w) st.sound.closed (words-closed s w st.whole) st.partners

  pub free-agree : free_pages s (graph h) ≡ free_pages s (graph_of s w)
  free-agree = same-free s (graph h) (graph_of s w) objects-agree
