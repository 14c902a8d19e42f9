-- Two regioned heaps whose objects correspond do the same at every command.
use Rattle.std.specs.Prelude.{ℕ, zero, suc, ◌+◌, ◌-◌, ◌<◌, ◌≡◌, ◌⊎◌, Bool, cond, not, length, replicate, ltb}
use Rattle.std.proofs.Common.{arith, add-one, ap₂, subst₂, ◌∙◌, inl, inr, length-append, get_or-set_same, get_or-set_other, eq-eqb, ne_eqb}
use Rattle.std.proofs.Math.Nat.{suc_inj}
use Rattle.std.proofs.Math.Decide.{ℕ_discrete, dec_lt}
use Rattle.std.proofs.Math.Path.{refl, sym, ap, subst}
use mathlib.Core.List.{List, [], ◌∷◌, ◌++◌, map}
use Rattle.std.proofs.Math.ListN.{get_or, set, get_or-map, get_or-append, get_or-eq_default}
use Rattle.std.proofs.lemmas.List.{length-map, get_or_at}
use Rattle.std.proofs.Math.Dec.{eqb, eqb-zero-suc, eqb-suc-zero}
use Rattle.lists.specs.Counting.{bit}
use Rattle.rules.specs.declared.Sizes.{Sizes}
use Rattle.rules.specs.declared.Command.{Command}
use Rattle.rules.specs.Terms.{decode, ask, limits}
use Rattle.lists.specs.Members.{In, map_same, in_place}
use Rattle.lists.specs.Stores.{map-set}
use Rattle.rules.specs.NeverFreeing as nf
use Rattle.rules.specs.NeverFreeing.{Object, no_object, depth_of, var_of, object_of, place, used_then, accessed, nested, referred, meaning_of}
use Rattle.rules.specs.NeverFreeing.{Access, no_field, references, numbers, Source, null, held, loaded, Result, no_value, is_object, the_number, are_same}
use Rattle.rules.specs.NeverFreeing.{Assignment, nothing, variable, reference, number, Effect, opens, ends, collects, makes, assigns}
use Rattle.rules.specs.Regions.{control, region_at, only}
use Rattle.rules.specs.Pages.{Pages, take}
use Rattle.rules.specs.Graph.{Graph, freed_by}
use Rattle.laws.specs.GraphLaws.{Alive}
use Rattle.laws.specs.EndLaws.{was-alive}
use Rattle.laws.specs.SameRules.{renamed, renamed-zeros, Partners, partners-ended, same-freed}
use Rattle.rules.specs.Rules as ru
use Rattle.rules.specs.Rules.{Occupancy, Regioned, graph, object_cell, innermost, one_made, more_freed}
use Rattle.laws.specs.RulesLaws.{Sound, region-pos, control-pos, graph-ended, after_effect}
use Rattle.laws.specs.LikeCells.{Apart, SameOccupancy, vacated-pages, vacated-cells, slid-pages, slid-cells}

-- `to` leads each object of h that is there to one of k, one to one and onto, with its home, references, numbers and the variables;
-- depths and counters are the same, and so are the cells of partners and the pages
pub record Like (to : ℕ → ℕ) (h k : Regioned) : Type 0 where
  pub sound : Sound h
  pub sound' : Sound k
  pub depths : k.heap.depths ≡ h.heap.depths
  pub partners : Partners to (graph h) (graph k)
  pub nums : (x : ℕ) → Alive (graph h) x → (get_or k.heap.objects (to x) no_object).nums ≡ (get_or h.heap.objects x no_object).nums
  pub counters : k.counters ≡ h.counters
  pub occupancy : SameOccupancy to h k

-- ---- lists

null-like : (to : ℕ → ℕ) (v : ℕ) → eqb (renamed to v) 0 ≡ eqb v 0
null-like to zero = refl
null-like to (suc x) = eqb-suc-zero (to x) ∙ sym (eqb-suc-zero x)

-- a heap after the end of region r, with its objects where o says, and one with a new object in region q and variable p
abbrev over : Sizes → ℕ → Regioned → List ℕ → Occupancy → Regioned
over s r g ds o = record { heap = record { depths = ds; vars = g.heap.vars; objects = g.heap.objects }; homes = ru.ended s g r; counters = more_freed (freed_by s (graph g) r) g.counters; occupancy = o }

abbrev vacated_of : Sizes → ℕ → Regioned → Occupancy
vacated_of s r g = ru.vacated s g (only r) (ru.ended s g r)

abbrev slid_of : Sizes → ℕ → Regioned → Occupancy
slid_of s r g = ru.slid s g r (ru.ended s g r)

abbrev grown_by : ℕ → ℕ → List ℕ → ℕ → Regioned → Regioned
grown_by q b ns p g =
    record { heap = record { depths = g.heap.depths; vars = set g.heap.vars p (length g.heap.objects + 1); objects = g.heap.objects ++ record { refs = replicate b 0; nums = ns } ∷ [] }; homes = g.homes ++ q ∷ []; counters = one_made g.counters; occupancy = ru.taken_by g.occupancy q }

module _ (s : Sizes) (to : ℕ → ℕ) (h k : Regioned) (l : Like to h k) where
  -- a reference that is null or names an object that is there
  abbrev Live : ℕ → Type 0
  Live v = (y : ℕ) → v ≡ suc y → Alive (graph h) y

  var-like : (i : ℕ) → get_or k.heap.vars i 0 ≡ renamed to (get_or h.heap.vars i 0)
  var-like i = ap (λ (vs : List ℕ). get_or vs i 0) l.partners.vars ∙ get_or-map (renamed to) h.heap.vars i 0

  var-live : (i : ℕ) → Live (get_or h.heap.vars i 0)
  var-live i y e = l.sound.closed.vars i y e

  refs-like : (v : ℕ) → Live v → (object_of k.heap (renamed to v)).refs ≡ map (renamed to) (object_of h.heap v).refs
  refs-like zero f = refl
  refs-like (suc x) f = l.partners.refs x (f x refl)

  nums-like : (v : ℕ) → Live v → (object_of k.heap (renamed to v)).nums ≡ (object_of h.heap v).nums
  nums-like zero f = refl
  nums-like (suc x) f = l.nums x (f x refl)

  -- of the object in the variable at i
  var-refs : (i : ℕ) → (object_of k.heap (get_or k.heap.vars i 0)).refs ≡ map (renamed to) (object_of h.heap (get_or h.heap.vars i 0)).refs
  var-refs i = ap (λ (v : ℕ). (object_of k.heap v).refs) (var-like i) ∙ refs-like (get_or h.heap.vars i 0) (var-live i)

  var-nums : (i : ℕ) → (object_of k.heap (get_or k.heap.vars i 0)).nums ≡ (object_of h.heap (get_or h.heap.vars i 0)).nums
  var-nums i = ap (λ (v : ℕ). (object_of k.heap v).nums) (var-like i) ∙ nums-like (get_or h.heap.vars i 0) (var-live i)

  var-ref : (i c : ℕ) → get_or (object_of k.heap (get_or k.heap.vars i 0)).refs c 0 ≡ renamed to (get_or (object_of h.heap (get_or h.heap.vars i 0)).refs c 0)
  var-ref i c = ap (λ (vs : List ℕ). get_or vs c 0) (var-refs i) ∙ get_or-map (renamed to) (object_of h.heap (get_or h.heap.vars i 0)).refs c 0

  used-like : (i f m n rest rest' : ℕ) → m ≡ n → rest ≡ rest' → used_then (get_or k.heap.vars i 0) f m rest ≡ used_then (get_or h.heap.vars i 0) f n rest'
  used-like i f m n rest rest' e r =
      ap₂ (λ (b : Bool) (q : ℕ). ask (not b) 9 q) (ap (λ (v : ℕ). eqb v 0) (var-like i) ∙ null-like to (get_or h.heap.vars i 0)) (ap₂ (λ (x q : ℕ). ask (ltb f x) 10 q) e r)

  refs-count : (i : ℕ) → length (object_of k.heap (get_or k.heap.vars i 0)).refs ≡ length (object_of h.heap (get_or h.heap.vars i 0)).refs
  refs-count i = ap (λ (vs : List ℕ). length vs) (var-refs i) ∙ length-map (object_of h.heap (get_or h.heap.vars i 0)).refs (renamed to)

  nums-count : (i : ℕ) → length (object_of k.heap (get_or k.heap.vars i 0)).nums ≡ length (object_of h.heap (get_or h.heap.vars i 0)).nums
  nums-count i = ap (λ (vs : List ℕ). length vs) (var-nums i)

  accessed-like : (t : ℕ) (x : Access) (rest rest' : ℕ) → rest ≡ rest' → accessed (limits s) k.heap t x rest ≡ accessed (limits s) h.heap t x rest'
  accessed-like t no_field rest rest' r = r
  accessed-like t (references a f) rest rest' r = used-like (place (limits s) t a) f _ _ rest rest' (refs-count (place (limits s) t a)) r
  accessed-like t (numbers a f) rest rest' r = used-like (place (limits s) t a) f _ _ rest rest' (nums-count (place (limits s) t a)) r

  nested-like : (t : ℕ) (e : Effect) → nested (limits s) k.heap t e ≡ nested (limits s) h.heap t e
  nested-like t opens = ap (λ (ds : List ℕ). ask (ltb (get_or ds t 0) s.depth) 11 0) l.depths
  nested-like t ends = ap (λ (ds : List ℕ). ask (ltb 0 (get_or ds t 0)) 12 0) l.depths
  nested-like t collects = refl
  nested-like t (makes a b c) = refl
  nested-like t (assigns x) = refl

  pub question-like : (m : Command) → nf.question (limits s) k.heap m ≡ nf.question (limits s) h.heap m
  unfolding nf.question nf.state
  question-like m =
      ap (λ (q : ℕ). ask (nf.known (decode m.code)) 6 (ask (ltb m.thread s.threads) 7 (ask (nf.operands (limits s) (decode m.code) m.a m.b m.c) 8 q)))
      (accessed-like m.thread (meaning_of m).access _ _ (nested-like m.thread (meaning_of m).effect))

  same_object : (v u : ℕ) → Live v → Live u → eqb (renamed to v) (renamed to u) ≡ eqb v u
  same_object zero zero f g = refl
  same_object zero (suc y) f g = eqb-zero-suc (to y) ∙ sym (eqb-zero-suc y)
  same_object (suc x) zero f g = eqb-suc-zero (to x) ∙ sym (eqb-suc-zero x)
  same_object (suc x) (suc y) f g = go (ℕ_discrete x y)
    where
      go : Dec (x ≡ y) → eqb (suc (to x)) (suc (to y)) ≡ eqb (suc x) (suc y)
      go (yes e) = eq-eqb (suc (to x)) (suc (to y)) (ap (λ (z : ℕ). suc (to z)) e) ∙ sym (eq-eqb (suc x) (suc y) (ap suc e))
      go (no n) =
          ne_eqb (suc (to x)) (suc (to y)) (λ e. n (l.partners.apart x y (f x refl) (g y refl) (suc_inj e))) ∙ sym (ne_eqb (suc x) (suc y) (λ e. n (suc_inj e)))

  source-like : (v : Source) → referred (limits s) k.heap v ≡ renamed to (referred (limits s) h.heap v)
  source-like null = refl
  source-like (held t a) = var-like (place (limits s) t a)
  source-like (loaded t a f) = var-ref (place (limits s) t a) f

  pub value-like : (t : ℕ) (x : Result) → nf.value (limits s) k.heap t x ≡ nf.value (limits s) h.heap t x
  unfolding nf.value
  value-like t no_value = refl
  value-like t (is_object v) = ap (λ (e : Bool). bit (not e)) (ap (λ (v : ℕ). eqb v 0) (source-like v) ∙ null-like to (referred (limits s) h.heap v))
  value-like t (the_number a f) = ap (λ (vs : List ℕ). get_or vs f 0) (var-nums (place (limits s) t a))
  value-like t (are_same a b) =
      ap bit (ap₂ eqb (var-like (place (limits s) t a)) (var-like (place (limits s) t b)) ∙ same_object _ _ (var-live (place (limits s) t a)) (var-live (place (limits s) t b)))

  -- ---- the heaps after a command

  pub record After (h₁ k₁ : Regioned) : Type 0 where
    pub to' : ℕ → ℕ
    pub like : Like to' h₁ k₁
    pub keeps : (x : ℕ) → Alive (graph h) x → to' x ≡ to x

  -- variable p becomes v here, and u there
  set-vars : (p v u : ℕ) → u ≡ renamed to v → set k.heap.vars p u ≡ map (renamed to) (set h.heap.vars p v)
  set-vars p v u e = ap₂ (λ (vs : List ℕ) (x : ℕ). set vs p x) l.partners.vars e ∙ sym (map-set (renamed to) h.heap.vars p v)

  -- the same objects with the same homes, with other variables
  vars-partners : (vs us : List ℕ) → us ≡ map (renamed to) vs
      → Partners to (record { count = (graph h).count; home = (graph h).home; refs = (graph h).refs; vars = vs }) (record { count = (graph k).count; home = (graph k).home; refs = (graph k).refs; vars = us })
  vars-partners vs us e = record { home = l.partners.home; apart = l.partners.apart; onto = l.partners.onto; refs = l.partners.refs; vars = e }

  -- object x becomes o here, and the one that corresponds becomes o' there
  module _ (x : ℕ) (a : Alive (graph h) x) (o o' : Object) (er : o'.refs ≡ map (renamed to) o.refs) (en : o'.nums ≡ o.nums) where
    here : get_or (set h.heap.objects x o) x no_object ≡ o
    here = get_or-set_same h.heap.objects x o no_object (l.sound.closed.below x a)

    there : get_or (set k.heap.objects (to x) o') (to x) no_object ≡ o'
    there = get_or-set_same k.heap.objects (to x) o' no_object (l.sound'.closed.below (to x) (λ z. a (sym (l.partners.home x a) ∙ z)))

    object-cases : (P : Object → Object → Type 0) → P o o' → ((y : ℕ) → Alive (graph h) y → P (get_or h.heap.objects y no_object) (get_or k.heap.objects (to y) no_object))
        → (y : ℕ) → Alive (graph h) y → P (get_or (set h.heap.objects x o) y no_object) (get_or (set k.heap.objects (to x) o') (to y) no_object)
    object-cases P p f y b = go (ℕ_discrete y x)
      where
        go : Dec (y ≡ x) → P (get_or (set h.heap.objects x o) y no_object) (get_or (set k.heap.objects (to x) o') (to y) no_object)
        go (yes e) = subst (λ (z : ℕ). P (get_or (set h.heap.objects x o) z no_object) (get_or (set k.heap.objects (to x) o') (to z) no_object)) (sym e) (subst₂ P (sym here) (sym there) p)
        go (no n) =
            subst₂ P (sym (get_or-set_other h.heap.objects x y o no_object n)) (sym (get_or-set_other k.heap.objects (to x) (to y) o' no_object (λ e. n (l.partners.apart y x b a e)))) (f y b)

    object-partners : Partners to (graph (record { heap = record { depths = h.heap.depths; vars = h.heap.vars; objects = set h.heap.objects x o }; homes = h.homes; counters = h.counters; occupancy = h.occupancy }))
        (graph (record { heap = record { depths = k.heap.depths; vars = k.heap.vars; objects = set k.heap.objects (to x) o' }; homes = k.homes; counters = k.counters; occupancy = k.occupancy }))
    object-partners =
        record {
          home = l.partners.home;
          apart = l.partners.apart;
          onto = l.partners.onto;
          refs = object-cases (λ (p q : Object). q.refs ≡ map (renamed to) p.refs) er l.partners.refs;
          vars = l.partners.vars;
        }

    object-nums : (y : ℕ) → Alive (graph h) y → (get_or (set k.heap.objects (to x) o') (to y) no_object).nums ≡ (get_or (set h.heap.objects x o) y no_object).nums
    object-nums = object-cases (λ (p q : Object). q.nums ≡ p.nums) en l.nums

  -- a new object in region q
  module _ (q b : ℕ) (ns : List ℕ) (p : ℕ) (pos : 0 < q) where
    abbrev n : ℕ
    n = length h.heap.objects

    abbrev n' : ℕ
    n' = length k.heap.objects

    abbrev fresh : Object
    fresh = record { refs = replicate b 0; nums = ns }

    abbrev grown : Regioned → Regioned
    grown = grown_by q b ns p

    abbrev to⁺ : ℕ → ℕ
    to⁺ x = cond (eqb x n) n' (to x)

    to-new : to⁺ n ≡ n'
    to-new = ap (λ (t : Bool). cond t n' (to n)) (eq-eqb n n refl)

    to-old : (x : ℕ) → x < n → to⁺ x ≡ to x
    to-old x m = ap (λ (t : Bool). cond t n' (to x)) (ne_eqb x n (λ e. omega arith))

    to-alive : (x : ℕ) → Alive (graph h) x → to⁺ x ≡ to x
    to-alive x a = to-old x (l.sound.closed.below x a)

    renamed-old : (vs : List ℕ) → ((y : ℕ) → In (suc y) vs → Alive (graph h) y) → map (renamed to⁺) vs ≡ map (renamed to) vs
    renamed-old vs f = map_same (renamed to⁺) (renamed to) vs go
      where
        go : (v : ℕ) → In v vs → renamed to⁺ v ≡ renamed to v
        go zero i = refl
        go (suc y) i = ap suc (to-alive y (f y i))

    -- an object of the grown heap is an old one, or the new one
    split : (g : Regioned) → Sound g → (x : ℕ) → Alive (graph (grown g)) x → Alive (graph g) x ⊎ (x ≡ length g.heap.objects)
    split g sg x a = go (dec_lt x (length g.homes)) (ℕ_discrete x (length g.heap.objects))
      where
        go : Dec (x < length g.homes) → Dec (x ≡ length g.heap.objects) → Alive (graph g) x ⊎ (x ≡ length g.heap.objects)
        go (yes m) d = inl (λ z. a (get_or-append g.homes (q ∷ []) 0 x m ∙ z))
        go (no m) (yes e) = inr e
        go (no m) (no e) = absurd (a (get_or-eq_default (g.homes ++ q ∷ []) 0 {n = x} (omega (arith, length-append g.homes (q ∷ []), sg.aligned))))

    home-old : (g : Regioned) → Sound g → (x : ℕ) → x < length g.heap.objects → (graph (grown g)).home x ≡ (graph g).home x
    home-old g sg x m = get_or-append g.homes (q ∷ []) 0 x (omega (arith, sg.aligned))

    home-new : (g : Regioned) → Sound g → (graph (grown g)).home (length g.heap.objects) ≡ q
    home-new g sg = get_or_at g.homes q [] 0 (length g.heap.objects) sg.aligned

    object-old : (g : Regioned) → (x : ℕ) → x < length g.heap.objects → get_or (grown g).heap.objects x no_object ≡ get_or g.heap.objects x no_object
    object-old g x m = get_or-append g.heap.objects (fresh ∷ []) no_object x m

    object-new : (g : Regioned) → get_or (grown g).heap.objects (length g.heap.objects) no_object ≡ fresh
    object-new g = get_or_at g.heap.objects fresh [] no_object (length g.heap.objects) refl

    -- the old ones keep their partners
    low : (x : ℕ) → Alive (graph h) x → x < n
    low x a = l.sound.closed.below x a

    low' : (x : ℕ) → Alive (graph h) x → to x < n'
    low' x a = l.sound'.closed.below (to x) (λ z. a (sym (l.partners.home x a) ∙ z))

    cases : (P : ℕ → ℕ → Type 0) → ((x : ℕ) → Alive (graph h) x → P x (to x)) → P n n' → (x : ℕ) → Alive (graph (grown h)) x → P x (to⁺ x)
    cases P f g x a = go (split h l.sound x a)
      where
        go : Alive (graph h) x ⊎ (x ≡ n) → P x (to⁺ x)
        go (inl b) = subst (P x) (sym (to-alive x b)) (f x b)
        go (inr e) = subst (λ (z : ℕ). P z (to⁺ z)) (sym e) (subst (P n) (sym to-new) g)

    new-partners : Partners to⁺ (graph (grown h)) (graph (grown k))
    new-partners =
        record {
          home = cases (λ x y. (graph (grown k)).home y ≡ (graph (grown h)).home x)
              (λ x a. home-old k l.sound' (to x) (low' x a) ∙ l.partners.home x a ∙ sym (home-old h l.sound x (low x a)))
              (home-new k l.sound' ∙ sym (home-new h l.sound));
          apart = λ x y a c e. one-to-one x y (split h l.sound x a) (split h l.sound y c) e;
          onto = λ y a. found y (split k l.sound' y a);
          refs = cases (λ x y. (graph (grown k)).refs y ≡ map (renamed to⁺) ((graph (grown h)).refs x))
              (λ x a. ap (λ (o : Object). o.refs) (object-old k (to x) (low' x a)) ∙ l.partners.refs x a ∙ sym (renamed-old ((graph h).refs x) (λ y i. l.sound.closed.refs x y a i))
              ∙ ap (λ (o : Object). map (renamed to⁺) o.refs) (sym (object-old h x (low x a))))
              (ap (λ (o : Object). o.refs) (object-new k) ∙ sym (ap (λ (o : Object). map (renamed to⁺) o.refs) (object-new h) ∙ renamed-zeros b to⁺));
          vars = sym (map-set (renamed to⁺) h.heap.vars p (n + 1) ∙ ap₂ (λ (vs : List ℕ) (v : ℕ). set vs p v) old-vars (ap (renamed to⁺) (add-one n) ∙ ap suc to-new ∙ sym (add-one n')));
        }
      where
        one-to-one : (x y : ℕ) → Alive (graph h) x ⊎ (x ≡ n) → Alive (graph h) y ⊎ (y ≡ n) → to⁺ x ≡ to⁺ y → x ≡ y
        one-to-one x y (inl a) (inl c) e = l.partners.apart x y a c (sym (to-alive x a) ∙ e ∙ to-alive y c)
        one-to-one x y (inl a) (inr f) e = absurd (omega (arith, low' x a, sym (to-alive x a) ∙ e ∙ ap to⁺ f ∙ to-new))
        one-to-one x y (inr f) (inl c) e = absurd (omega (arith, low' y c, sym (to-alive y c) ∙ sym e ∙ ap to⁺ f ∙ to-new))
        one-to-one x y (inr f) (inr g) e = f ∙ sym g

        found : (y : ℕ) → Alive (graph k) y ⊎ (y ≡ n') → (x : ℕ) × Alive (graph (grown h)) x × (to⁺ x ≡ y)
        found y (inl c) = let o = l.partners.onto y c in (o.0, λ z. o.1 (sym (home-old h l.sound o.0 (low o.0 o.1)) ∙ z), to-alive o.0 o.1 ∙ o.2)
        found y (inr e) = (n, λ z. omega (arith, home-new h l.sound), to-new ∙ sym e)

        old-vars : map (renamed to⁺) h.heap.vars ≡ k.heap.vars
        old-vars = renamed-old h.heap.vars (λ y i. let j = in_place h.heap.vars (suc y) i in l.sound.closed.vars j.0 y j.2) ∙ sym l.partners.vars

    new-nums : (x : ℕ) → Alive (graph (grown h)) x → (get_or (grown k).heap.objects (to⁺ x) no_object).nums ≡ (get_or (grown h).heap.objects x no_object).nums
    new-nums = cases (λ x y. (get_or (grown k).heap.objects y no_object).nums ≡ (get_or (grown h).heap.objects x no_object).nums)
        (λ x a. ap (λ (o : Object). o.nums) (object-old k (to x) (low' x a)) ∙ l.nums x a ∙ ap (λ (o : Object). o.nums) (sym (object-old h x (low x a))))
        (ap (λ (o : Object). o.nums) (object-new k) ∙ sym (ap (λ (o : Object). o.nums) (object-new h)))

    new-occupancy : SameOccupancy to⁺ (grown h) (grown k)
    unfolding ru.taken_by
    new-occupancy =
        record {
          pages = ap (λ (ps : Pages). (take ps q).pages) l.occupancy.pages;
          cells = cases (λ x y. object_cell (grown k) y ≡ object_cell (grown h) x)
              (λ x a. get_or-append k.occupancy.cells ((take k.occupancy.pages q).cell ∷ []) 0 (to x) (omega (arith, low' x a, l.sound'.celled, l.sound'.aligned)) ∙ l.occupancy.cells x a
              ∙ sym (get_or-append h.occupancy.cells ((take h.occupancy.pages q).cell ∷ []) 0 x (omega (arith, low x a, l.sound.celled, l.sound.aligned))))
              (get_or_at k.occupancy.cells (take k.occupancy.pages q).cell [] 0 n' (l.sound'.celled ∙ l.sound'.aligned) ∙ ap (λ (ps : Pages). (take ps q).cell) l.occupancy.pages
              ∙ sym (get_or_at h.occupancy.cells (take h.occupancy.pages q).cell [] 0 n (l.sound.celled ∙ l.sound.aligned)));
        }

    new-after : Sound (grown h) → Sound (grown k) → After (grown h) (grown k)
    new-after sh sk =
        record { to' = to⁺; like = record { sound = sh; sound' = sk; depths = l.depths; partners = new-partners; nums = new-nums; counters = ap one_made l.counters; occupancy = new-occupancy }; keeps = to-alive }

  -- ---- every command

  pub same_after : After h k
  same_after = record { to' = to; like = l; keeps = λ x a. refl }

  -- the object that a reference v here, and the one that corresponds there, becomes o and o'
  object-after : (v u : ℕ) → Live v → u ≡ renamed to v → (o o' : Object) → o'.refs ≡ map (renamed to) o.refs → o'.nums ≡ o.nums
      → Sound (record { heap = nf.with_object h.heap v o; homes = h.homes; counters = h.counters; occupancy = h.occupancy }) → Sound (record { heap = nf.with_object k.heap u o'; homes = k.homes; counters = k.counters; occupancy = k.occupancy })
      → After (record { heap = nf.with_object h.heap v o; homes = h.homes; counters = h.counters; occupancy = h.occupancy }) (record { heap = nf.with_object k.heap u o'; homes = k.homes; counters = k.counters; occupancy = k.occupancy })
  object-after zero zero f e o o' er en sh sk = same_after
  object-after zero (suc y) f e o o' er en sh sk = absurd (let z : ⊥ = omega arith in z)
  object-after (suc x) zero f e o o' er en sh sk = absurd (let z : ⊥ = omega arith in z)
  object-after (suc x) (suc y) f e o o' er en sh sk =
      let p : y ≡ to x = suc_inj e in
      record {
        to' = to;
        like = record { sound = sh; sound' = sk; depths = l.depths; partners = rw p (object-partners x (f x refl) o o' er en); nums = rw p (object-nums x (f x refl) o o' er en); counters = l.counters; occupancy = record { pages = l.occupancy.pages; cells = l.occupancy.cells } };
        keeps = λ y b. refl;
      }

  -- the objects and homes stay, and the variables follow
  vars-after : (p v u : ℕ) → u ≡ renamed to v
      → Sound (record { heap = record { depths = h.heap.depths; vars = set h.heap.vars p v; objects = h.heap.objects }; homes = h.homes; counters = h.counters; occupancy = h.occupancy })
      → Sound (record { heap = record { depths = k.heap.depths; vars = set k.heap.vars p u; objects = k.heap.objects }; homes = k.homes; counters = k.counters; occupancy = k.occupancy })
      → After (record { heap = record { depths = h.heap.depths; vars = set h.heap.vars p v; objects = h.heap.objects }; homes = h.homes; counters = h.counters; occupancy = h.occupancy })
      (record { heap = record { depths = k.heap.depths; vars = set k.heap.vars p u; objects = k.heap.objects }; homes = k.homes; counters = k.counters; occupancy = k.occupancy })
  vars-after p v u e sh sk =
      record {
        to' = to;
        like = record { sound = sh; sound' = sk; depths = l.depths; partners = vars-partners (set h.heap.vars p v) (set k.heap.vars p u) (set-vars p v u e); nums = l.nums; counters = l.counters; occupancy = record { pages = l.occupancy.pages; cells = l.occupancy.cells } };
        keeps = λ x a. refl;
      }

  innermost-like : (t : ℕ) → innermost s k t ≡ innermost s h t
  innermost-like t = ap (λ (ds : List ℕ). region_at s t (get_or ds t 0)) l.depths

  -- the end of the region r
  module _ (r : ℕ) (pos : 0 < r) where
    end_after : (ds es : List ℕ) → es ≡ ds → (o o' : Occupancy) → o'.pages ≡ o.pages → ((x : ℕ) → Alive (graph h) x → get_or o'.cells (to x) 0 ≡ get_or o.cells x 0)
        → Sound (over s r h ds o) → Sound (over s r k es o') → After (over s r h ds o) (over s r k es o')
    end_after ds es e o o' pages cells sh sk =
        record {
          to' = to;
          like = record {
            sound = sh;
            sound' = sk;
            depths = e;
            partners = subst₂ (Partners to) (sym (graph-ended s h r pos ds)) (sym (graph-ended s k r pos es))
                (partners-ended s to (graph h) (graph k) l.sound.closed l.sound'.closed l.partners r pos);
            nums = λ x a. l.nums x (before x a);
            counters = ap₂ more_freed (sym (same-freed s to (graph h) (graph k) l.sound.closed l.sound'.closed l.partners r pos)) l.counters;
            occupancy = record {
              pages = pages;
              cells = λ x a. cells x (before x a);
            };
          };
          keeps = λ x a. refl;
        }
      where
        before : (x : ℕ) → Alive (graph (over s r h ds o)) x → Alive (graph h) x
        before x a = was-alive s (graph h) r pos l.sound.closed x (subst (λ (g : Graph). Alive g x) (graph-ended s h r pos ds) a)

    -- survivors are copied, and the region's pages go back
    vacated-after : Apart h → (ds es : List ℕ) → es ≡ ds → Sound (over s r h ds (vacated_of s r h)) → Sound (over s r k es (vacated_of s r k))
        → After (over s r h ds (vacated_of s r h)) (over s r k es (vacated_of s r k))
    vacated-after apart ds es e =
        end_after ds es e (vacated_of s r h) (vacated_of s r k) (vacated-pages s to h k l.sound l.sound' l.partners l.occupancy apart r pos)
        (vacated-cells s to h k l.sound l.sound' l.partners l.occupancy apart r pos)

    -- they slide together on its pages
    slid-after : Apart h → Sound (over s r h h.heap.depths (slid_of s r h)) → Sound (over s r k k.heap.depths (slid_of s r k))
        → After (over s r h h.heap.depths (slid_of s r h)) (over s r k k.heap.depths (slid_of s r k))
    slid-after apart =
        end_after h.heap.depths k.heap.depths l.depths (slid_of s r h) (slid_of s r k) (slid-pages s to h k l.sound l.sound' l.partners l.occupancy apart r pos)
        (slid-cells s to h k l.sound l.sound' l.partners l.occupancy apart r pos)

  assigned-after : (t : ℕ) (x : Assignment) → Sound (after_effect s h t (assigns x)) → Sound (after_effect s k t (assigns x)) → After (after_effect s h t (assigns x)) (after_effect s k t (assigns x))
  unfolding nf.effect ru.homes_after ru.counters_after ru.occupancy_after
  assigned-after t nothing sh sk = same_after
  assigned-after t (variable a v) sh sk = vars-after (place (limits s) t a) _ _ (source-like v) sh sk
  assigned-after t (reference a f v) sh sk =
      object-after (var_of (limits s) h.heap t a) _ (var-live (place (limits s) t a)) (var-like (place (limits s) t a)) _ _
      (ap₂ (λ (vs : List ℕ) (i : ℕ). set vs f i) (var-refs (place (limits s) t a)) (source-like v) ∙ sym (map-set (renamed to) (object_of h.heap (var_of (limits s) h.heap t a)).refs f (referred (limits s) h.heap v)))
      (var-nums (place (limits s) t a)) sh sk
  assigned-after t (number a f v) sh sk =
      object-after (var_of (limits s) h.heap t a) _ (var-live (place (limits s) t a)) (var-like (place (limits s) t a)) _ _ (var-refs (place (limits s) t a))
      (ap (λ (vs : List ℕ). set vs f v) (var-nums (place (limits s) t a))) sh sk

  pub after-like : Apart h → (t : ℕ) (e : Effect) → Sound (after_effect s h t e) → Sound (after_effect s k t e) → After (after_effect s h t e) (after_effect s k t e)
  unfolding nf.effect ru.homes_after ru.counters_after ru.occupancy_after
  after-like apart t opens sh sk =
      record {
        to' = to;
        like = record { sound = sh; sound' = sk; depths = ap (λ (ds : List ℕ). set ds t (get_or ds t 0 + 1)) l.depths; partners = l.partners; nums = l.nums; counters = l.counters; occupancy = record { pages = l.occupancy.pages; cells = l.occupancy.cells } };
        keeps = λ x d. refl;
      }
  after-like apart t ends sh sk =
      let q = innermost-like t in
      let ds = ap (λ (ds : List ℕ). set ds t (get_or ds t 0 - 1)) l.depths in
      subst (λ (r : ℕ). Sound (over s r k (set k.heap.depths t (depth_of k.heap t - 1)) (vacated_of s r k)) → After (over s (innermost s h t) h (set h.heap.depths t (depth_of h.heap t - 1)) (vacated_of s (innermost s h t) h)) (over s r k (set k.heap.depths t (depth_of k.heap t - 1)) (vacated_of s r k)))
      (sym q) (λ sk'. vacated-after (innermost s h t) (region-pos s t (depth_of h.heap t)) apart _ _ ds sh sk') sk
  after-like apart t collects sh sk = slid-after control control-pos apart sh sk
  after-like apart t (makes a b c) sh sk =
      subst (λ (r : ℕ). Sound (grown_by r b (replicate c 0) (place (limits s) t a) k) → After (grown_by (innermost s h t) b (replicate c 0) (place (limits s) t a) h) (grown_by r b (replicate c 0) (place (limits s) t a) k)) (sym (innermost-like t))
      (λ sk'. new-after (innermost s h t) b (replicate c 0) (place (limits s) t a) (region-pos s t (depth_of h.heap t)) sh sk') sk
  after-like apart t (assigns x) sh sk = assigned-after t x sh sk
