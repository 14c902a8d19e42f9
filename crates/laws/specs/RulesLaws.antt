-- What the rules keep: no variable and no slot of an object that is there names an object that is not (01, "every reference is null or names a cell in use").
use Prim.Native.Nat.{ℕ, zero, suc, ◌+◌, ◌*◌, ◌<◌}
use Rattle.std.proofs.Common.{arith, zero-add, add-zero, ◌∙◌, inl, inr, length-set, length-append, ne_eqb}
use Rattle.std.proofs.Math.Decide.{dec_lt}
use Rattle.std.specs.Prelude.{◌≡◌, refl, ◌⊎◌, List, [], ◌∷◌, ◌++◌, Bool, cond, get_or, set, replicate, eqb}
use Rattle.std.proofs.Math.Path.{sym, ap, subst}
use Rattle.std.proofs.Math.ListN.{length, get_or-append}
use Rattle.std.proofs.lemmas.List.{length-map, get_or_at}
use Rattle.lists.specs.Members.{In, get_d-in, in_bounds}
use Rattle.rules.specs.declared.Sizes.{Sizes}
use Rattle.rules.specs.declared.Command.{Command}
use Rattle.rules.specs.Terms.{limits}
use Rattle.rules.specs.NeverFreeing as nf
use Rattle.rules.specs.NeverFreeing.{Object, no_object, depth_of, var_of, object_of, place, referred, assigned, meaning_of}
use Rattle.rules.specs.NeverFreeing.{Source, null, held, loaded, Assignment, nothing, variable, reference, number, Effect, opens, ends, collects, makes, assigns}
use Rattle.rules.specs.Regions.{control, region_at, only}
use Rattle.rules.specs.Pages.{new_cell}
use Rattle.rules.specs.Graph.{target, ended, freed_by}
use Rattle.laws.specs.GraphLaws.{Alive, Closed}
use Rattle.laws.specs.EndLaws.{closed-ended}
use Rattle.rules.specs.Rules as ru
use Rattle.rules.specs.Rules.{Regioned, graph, innermost, one_made, more_freed}

pub record Sound (h : Regioned) : Type 0 where
  pub aligned : length h.homes ≡ length h.heap.objects
  pub celled : length h.occupancy.cells ≡ length h.homes
  pub closed : Closed (graph h)

-- ---- lists

module _ {A : Type 0} where
  set_cases : (l : List A) (i j : ℕ) (a d : A) → (get_or (set l i a) j d ≡ a) ⊎ (get_or (set l i a) j d ≡ get_or l j d)
  set_cases [] i j a d = inr refl
  set_cases (x ∷ l) zero zero a d = inl refl
  set_cases (x ∷ l) zero (suc j) a d = inr refl
  set_cases (x ∷ l) (suc i) zero a d = inr refl
  set_cases (x ∷ l) (suc i) (suc j) a d = set_cases l i j a d

  in-set : (l : List A) (i : ℕ) (a z : A) → In z (set l i a) → (z ≡ a) ⊎ In z l
  in-set [] i a z x' = elim x' [ ]
  in-set (x ∷ l) zero a z (inl e) = inl e
  in-set (x ∷ l) zero a z (inr k) = inr (inr k)
  in-set (x ∷ l) (suc i) a z (inl e) = inr (inl e)
  in-set (x ∷ l) (suc i) a z (inr k) = go (in-set l i a z k)
    where
      go : (z ≡ a) ⊎ In z l → (z ≡ a) ⊎ In z (x ∷ l)
      go (inl e) = inl e
      go (inr j) = inr (inr j)

no-refs : (b y : ℕ) → In (suc y) (replicate b 0) → ⊥
no-refs zero y x' = elim x' [ ]
no-refs (suc b) y (inl e) = omega arith
no-refs (suc b) y (inr i) = no-refs b y i

-- the refs of the object that a variable names
object-refs : (h : Regioned) → Closed (graph h) → (i y : ℕ) → In (suc y) (object_of h.heap (get_or h.heap.vars i 0)).refs → Alive (graph h) y
object-refs h k i y = go (get_or h.heap.vars i 0) refl
  where
    go : (v : ℕ) → get_or h.heap.vars i 0 ≡ v → In (suc y) (object_of h.heap v).refs → Alive (graph h) y
    go zero e j = absurd j
    go (suc x) e j = k.refs x y (k.vars i x e) j

-- ---- a variable gets what names an object that is there, or null

sound-var : (h : Regioned) → Sound h → (p v : ℕ) → ((x : ℕ) → v ≡ suc x → Alive (graph h) x)
    → Sound (record { heap = record { depths = h.heap.depths; vars = set h.heap.vars p v; objects = h.heap.objects }; homes = h.homes; counters = h.counters; occupancy = h.occupancy })
sound-var h k p v ok =
    record { aligned = k.aligned; celled = k.celled; closed = record { below = k.closed.below; vars = λ i x. go i x (set_cases h.heap.vars p i v 0); refs = k.closed.refs } }
  where
    go : (i x : ℕ) → (get_or (set h.heap.vars p v) i 0 ≡ v) ⊎ (get_or (set h.heap.vars p v) i 0 ≡ get_or h.heap.vars i 0)
        → get_or (set h.heap.vars p v) i 0 ≡ suc x → Alive (graph h) x
    go i x (inl e) q = ok x (sym e ∙ q)
    go i x (inr e) q = k.closed.vars i x (sym e ∙ q)

-- ---- an object gets fields that name objects that are there, or null

sound-object : (h : Regioned) → Sound h → (v : ℕ) (o : Object) → ((y : ℕ) → In (suc y) o.refs → Alive (graph h) y) → Sound (record { heap = nf.with_object h.heap v o; homes = h.homes; counters = h.counters; occupancy = h.occupancy })
sound-object h k zero o ok = k
sound-object h k (suc p) o ok =
    let l = k.aligned ∙ sym (length-set h.heap.objects p o) in
    record { aligned = l; celled = k.celled; closed = record { below = λ x a. subst (λ (n : ℕ). x < n) l (in_bounds h.homes x a); vars = k.closed.vars; refs = λ x y a i. go x y a i (set_cases h.heap.objects p x o no_object) } }
  where
    go : (x y : ℕ) → Alive (graph h) x → In (suc y) (get_or (set h.heap.objects p o) x no_object).refs
        → (get_or (set h.heap.objects p o) x no_object ≡ o) ⊎ (get_or (set h.heap.objects p o) x no_object ≡ get_or h.heap.objects x no_object) → Alive (graph h) y
    go x y a i (inl e) = ok y (subst (λ (u : Object). In (suc y) u.refs) e i)
    go x y a i (inr e) = k.closed.refs x y a (subst (λ (u : Object). In (suc y) u.refs) e i)

-- ---- a new object

module _ (h : Regioned) (k : Sound h) (p q b : ℕ) (ns : List ℕ) (pos : 0 < q) where
  abbrev made : Object
  made = record { refs = replicate b 0; nums = ns }

  abbrev grown : Regioned
  grown =
      record { heap = record { depths = h.heap.depths; vars = set h.heap.vars p (length h.heap.objects + 1); objects = h.heap.objects ++ made ∷ [] }; homes = h.homes ++ q ∷ []; counters = one_made h.counters; occupancy = ru.taken_by h.occupancy q }

  -- what was there is there
  old : (x : ℕ) → x < length h.homes → get_or (h.homes ++ q ∷ []) x 0 ≡ get_or h.homes x 0
  old x l = get_or-append h.homes (q ∷ []) 0 x l

  still : (x : ℕ) → Alive (graph h) x → Alive (graph grown) x
  still x a z = a (sym (old x (in_bounds h.homes x a)) ∙ z)

  new-var : (i x : ℕ) → get_or grown.heap.vars i 0 ≡ suc x
      → (get_or grown.heap.vars i 0 ≡ length h.heap.objects + 1) ⊎ (get_or grown.heap.vars i 0 ≡ get_or h.heap.vars i 0) → Alive (graph grown) x
  new-var i x e (inl c) z = omega (arith, get_or_at h.homes q [] 0 x (omega (arith, k.aligned)))
  new-var i x e (inr c) z = still x (k.closed.vars i x (sym c ∙ e)) z

  new-ref : (x y : ℕ) → Alive (graph grown) x → x < length (h.homes ++ q ∷ []) → In (suc y) (get_or (h.heap.objects ++ made ∷ []) x no_object).refs
      → Dec (x < length h.homes) → Alive (graph grown) y
  new-ref x y a l i (yes m) =
      still y (k.closed.refs x y (λ z. a (old x m ∙ z))
      (subst (λ (u : Object). In (suc y) u.refs) (get_or-append h.heap.objects (made ∷ []) no_object x (subst (λ (n : ℕ). x < n) k.aligned m)) i))
  new-ref x y a l i (no m) =
      let e : length h.heap.objects ≡ x = omega (arith, length-append h.homes (q ∷ []), k.aligned) in
      absurd (no-refs b y (subst (λ (u : Object). In (suc y) u.refs) (get_or_at h.heap.objects made [] no_object x e) i))

  sound-new : Sound grown
  sound-new =
      let l = length-append h.homes (q ∷ []) ∙ ap (λ (n : ℕ). n + 1) k.aligned ∙ sym (length-append h.heap.objects (made ∷ [])) in
      record {
        aligned = l;
        celled = unfold ru.taken_by in (length-append h.occupancy.cells (_ ∷ []) ∙ ap (λ (n : ℕ). n + 1) k.celled ∙ sym (length-append h.homes (q ∷ [])));
        closed = record {
          below = λ x a. subst (λ (n : ℕ). x < n) l (in_bounds (h.homes ++ q ∷ []) x a);
          vars = λ i x e. new-var i x e (set_cases h.heap.vars p i (length h.heap.objects + 1) 0);
          refs = λ x y a i. new-ref x y a (in_bounds (h.homes ++ q ∷ []) x a) i (dec_lt x (length h.homes));
        };
      }

-- ---- the end of a region

homes-moved : (goes : ℕ → ℕ) (r : ℕ) (qs : List ℕ) (i x : ℕ) → 0 < r → get_or (ru.moved goes r i qs) x 0 ≡ cond (eqb (get_or qs x 0) r) (goes (i + x)) (get_or qs x 0)
unfolding ru.moved
homes-moved goes r [] i x p = sym (ap (λ (b : Bool). cond b (goes (i + x)) 0) (ne_eqb 0 r (omega arith)))
homes-moved goes r (q ∷ qs) i zero p = ap (λ (n : ℕ). cond (eqb q r) (goes n) q) (sym (add-zero i))
homes-moved goes r (q ∷ qs) i (suc x) p =
    let e : suc i + x ≡ i + suc x = omega arith in
    homes-moved goes r qs (suc i) x p ∙ ap (λ (n : ℕ). cond (eqb (get_or qs x 0) r) (goes n) (get_or qs x 0)) e

length_moved : (goes : ℕ → ℕ) (r i : ℕ) (qs : List ℕ) → length (ru.moved goes r i qs) ≡ length qs
unfolding ru.moved
length_moved goes r i [] = refl
length_moved goes r i (q ∷ qs) = ap suc (length_moved goes r (suc i) qs)

module _ (s : Sizes) (h : Regioned) (r : ℕ) (pos : 0 < r) (ds : List ℕ) where
  abbrev pub over : Regioned
  over = record { heap = record { depths = ds; vars = h.heap.vars; objects = h.heap.objects }; homes = ru.ended s h r; counters = more_freed (freed_by s (graph h) r) h.counters; occupancy = ru.vacated s h (only r) (ru.ended s h r) }

  -- the heap after an end has the graph after that end
  pub graph-ended : graph over ≡ ended s (graph h) r
  unfolding ru.ended ended target
  graph-ended = λ i. record { count = length h.heap.objects; home = λ x. at x i; refs = (graph h).refs; vars = h.heap.vars }
    where
      goes : ℕ → ℕ
      goes = target s (graph h) r

      at : (x : ℕ) → get_or (ru.moved goes r 0 h.homes) x 0 ≡ cond (eqb (get_or h.homes x 0) r) (goes x) (get_or h.homes x 0)
      at x = homes-moved goes r h.homes 0 x pos ∙ ap (λ (n : ℕ). cond (eqb (get_or h.homes x 0) r) (goes n) (get_or h.homes x 0)) (zero-add x)

  length-ended : length (ru.ended s h r) ≡ length h.homes
  unfolding ru.ended target
  length-ended = length_moved (target s (graph h) r) r 0 h.homes

  sound-ended : Sound h → Sound over
  sound-ended k =
      record {
        aligned = length-ended ∙ k.aligned;
        celled = unfold ru.vacated in (length-map h.occupancy.cells (new_cell _) ∙ k.celled ∙ sym length-ended);
        closed = subst Closed (sym graph-ended) (closed-ended s (graph h) r pos k.closed);
      }

-- ---- a collection

pub control-pos : 0 < control
control-pos = omega arith

module _ (s : Sizes) (h : Regioned) where
  abbrev pub collected : Regioned
  collected = record { heap = h.heap; homes = ru.ended s h control; counters = more_freed (freed_by s (graph h) control) h.counters; occupancy = ru.slid s h control (ru.ended s h control) }

  pub graph-collected : graph collected ≡ ended s (graph h) control
  graph-collected = graph-ended s h control control-pos h.heap.depths

  sound-collected : Sound h → Sound collected
  sound-collected k =
      let e = sound-ended s h control control-pos h.heap.depths k in
      record {
        aligned = e.aligned;
        celled = unfold ru.slid in (length-map h.occupancy.cells (new_cell _) ∙ k.celled ∙ sym (length-ended s h control control-pos h.heap.depths));
        closed = e.closed;
      }

-- ---- every command

pub region-pos : (s : Sizes) (t d : ℕ) → 0 < region_at s t d
unfolding region_at
region-pos s t zero = omega arith
region-pos s t (suc d) = omega arith

sound-depth : (h : Regioned) → Sound h → (ds : List ℕ) → Sound (record { heap = record { depths = ds; vars = h.heap.vars; objects = h.heap.objects }; homes = h.homes; counters = h.counters; occupancy = h.occupancy })
sound-depth h k ds = record { aligned = k.aligned; celled = k.celled; closed = k.closed }

-- what a command reads is null or names an object that is there
pub source-alive : (s : Sizes) (h : Regioned) → Closed (graph h) → (v : Source) (x : ℕ) → referred (limits s) h.heap v ≡ suc x → Alive (graph h) x
source-alive s h k null x e = absurd (omega arith)
source-alive s h k (held t a) x e = k.vars (place (limits s) t a) x e
source-alive s h k (loaded t a f) x e = object-refs h k (place (limits s) t a) x (get_d-in (object_of h.heap (var_of (limits s) h.heap t a)).refs f x e)

sound-assigned : (s : Sizes) (h : Regioned) → Sound h → (t : ℕ) (x : Assignment) → Sound (record { heap = assigned (limits s) h.heap t x; homes = h.homes; counters = h.counters; occupancy = h.occupancy })
sound-assigned s h k t nothing = k
sound-assigned s h k t (variable a v) = sound-var h k (place (limits s) t a) _ (source-alive s h k.closed v)
sound-assigned s h k t (reference a f v) =
    sound-object h k (var_of (limits s) h.heap t a) _ (λ y i. go y (in-set (object_of h.heap (var_of (limits s) h.heap t a)).refs f (referred (limits s) h.heap v) (suc y) i))
  where
    go : (y : ℕ) → (suc y ≡ referred (limits s) h.heap v) ⊎ In (suc y) (object_of h.heap (var_of (limits s) h.heap t a)).refs → Alive (graph h) y
    go y (inl e) = source-alive s h k.closed v y (sym e)
    go y (inr i) = object-refs h k.closed (place (limits s) t a) y i
sound-assigned s h k t (number a f v) = sound-object h k (var_of (limits s) h.heap t a) _ (λ y i. object-refs h k.closed (place (limits s) t a) y i)

-- the heap after what a command of thread t does
abbrev pub after_effect : Sizes → Regioned → ℕ → Effect → Regioned
after_effect s h t e = record { heap = nf.effect (limits s) h.heap t e; homes = ru.homes_after s h t e; counters = ru.counters_after s h t e; occupancy = ru.occupancy_after s h t e }

sound-effect : (s : Sizes) (h : Regioned) → Sound h → (t : ℕ) (e : Effect) → Sound (after_effect s h t e)
unfolding nf.effect ru.homes_after ru.counters_after ru.occupancy_after
sound-effect s h k t opens = sound-depth h k _
sound-effect s h k t ends = sound-ended s h (innermost s h t) (region-pos s t (depth_of h.heap t)) _ k
sound-effect s h k t collects = sound-collected s h k
sound-effect s h k t (makes a b c) = sound-new h k (place (limits s) t a) (innermost s h t) b (replicate c 0) (region-pos s t (depth_of h.heap t))
sound-effect s h k t (assigns x) = sound-assigned s h k t x

pub sound-after : (s : Sizes) (h : Regioned) → Sound h → (m : Command) → Sound (ru.after s h m)
unfolding ru.after
sound-after s h k m = sound-effect s h k m.thread (meaning_of m).effect

pub no-dangling : (s : Sizes) (h : Regioned) (m : Command) → Sound h → Sound (ru.step s h m).next
unfolding ru.step ru.answered
no-dangling s h m k = go (ru.question s h m)
  where
    go : (q : ℕ) → Sound (ru.answered s h m q).next
    go zero = sound-after s h k m
    go (suc q) = k

pub sound-unused : (s : Sizes) → Sound (ru.unused s)
unfolding ru.unused nf.empty
sound-unused s =
    record {
      aligned = refl;
      celled = refl;
      closed = record {
        below = λ x a. absurd (a refl);
        vars = λ i x e. absurd (no-refs (s.threads * s.variables) x (get_d-in (replicate (s.threads * s.variables) 0) i x e));
        refs = λ x y a i. absurd (a refl);
      };
    }

pub sound-run : (s : Sizes) (h : Regioned) (ms : List Command) → Sound h → Sound (ru.run s h ms).last
unfolding ru.run
sound-run s h [] k = k
sound-run s h (m ∷ ms) k = sound-run s (ru.step s h m).next ms (no-dangling s h m k)
