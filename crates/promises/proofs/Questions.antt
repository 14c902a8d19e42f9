-- What every command shares: the questions in terms of the words, a refusal, and a command that is done.
use Prim.Native.Nat.{ℕ, zero, suc, ◌+◌, ◌-◌, ◌*◌, ◌<◌}
use native.Mathlib.Omega.{arith}
use Rattle.std.proofs.Math.Nat.{sub_self}
use Rattle.std.specs.Prelude.{◌≡◌, List, Bool, true, false, cond, get_or, leb}
use Rattle.std.proofs.Math.Path.{refl, sym, ap, ap₂, subst}
use Rattle.std.proofs.Common.{◌∙◌, le-leb}
use Rattle.std.proofs.Math.ListN.{length}
use Rattle.lists.specs.Counting.{sum-none}
use Rattle.lists.specs.Products.{flat-low}
use Rattle.rules.specs.declared.Sizes.{Sizes}
use Rattle.rules.specs.declared.Command.{Command}
use Rattle.rules.specs.Terms.{ask, refused, done, limits, first}
use Rattle.rules.specs.declared.Answer.{Answer}
use Rattle.rules.specs.NeverFreeing as nf
use Rattle.rules.specs.NeverFreeing.{Object, used, var_of, object_of, meaning_of}
use Rattle.rules.specs.Regions.{regions}
use Rattle.rules.specs.Graph.{Graph, crossing, new_pages, free_pages, objects_in, pages_of}
use Rattle.laws.specs.RulesLaws.{Sound, no-dangling}
use Rattle.rules.specs.Rules as ru
use Rattle.rules.specs.Rules.{Regioned, graph, asks_entries}
use Rattle.layout.specs.declared.Kind.{Kind}
use Rattle.layout.specs.declared.Kind.TheVariants.{Reference, Number}
use Rattle.layout.specs.Cells.{head_of, field_count, kind_at}
use Rattle.layout.specs.Words.{Words, BeginsIn, heap_of, var_in, fields_in, owner_in}
use Rattle.promises.specs.Whole.{WholeFor, IsRef}
use Rattle.promises.specs.StandsFor.{StandsFor, SameBeyond}
use Rattle.promises.specs.Promises.{Became, DidHere, Frees, Freed}
use Rattle.promises.specs.Reading.{used-alive, length_fields, get_d-fields, ref-begins}
use Rattle.promises.specs.Agreed.{heap-stands, object-at}
use Rattle.promises.proofs.Here.{here-var}
use Rattle.promises.specs.WordsOf.{laid}
use Rattle.promises.proofs.Laid.{stands-laid, whole-laid}
use Rattle.promises.specs.Areas.{same-beyond}

-- the same answer, as the code has it
pub did-answer : {s : Sizes} {w w' : Words} {m : Command} {a r : Answer} → r ≡ a → DidHere s w m w' a → DidHere s w m w' r
did-answer {s} {w} {w'} {m} e d = subst (DidHere s w m w') (sym e) d

-- command m frees the pages of no region
abbrev pub FreesNone : Sizes → Words → Command → Type 0
FreesNone s w m = (r : ℕ) → Frees s w m.thread (meaning_of m).effect r → ⊥

module _ (s : Sizes) (w : Words) (k : WholeFor s w) (m : Command) where
  abbrev H : Regioned
  H = heap_of s w

  -- a question says no
  pub did-refused : (q : ℕ) → 0 < q → ru.question s H m ≡ q → DidHere s w m w (refused q)
  unfolding ru.step ru.answered
  did-refused zero z e = absurd (let o : ⊥ = omega arith in o)
  did-refused (suc q) z e =
      record {
        answer = sym (ap (λ (n : ℕ). (ru.answered s H m n).answer) e);
        words = whole-laid s w k ∙ sym (ap (λ (n : ℕ). laid s (ru.answered s H m n).next w) e);
        next = subst (λ (h : Regioned). Became s H (λ c. c) m w h) (sym (ap (λ (n : ℕ). (ru.answered s H m n).next) e))
            (record { cell = λ c. c; stands = heap-stands s w k; stays = λ x a z n. refl });
        freed = λ z. absurd (let o : ⊥ = omega arith in o);
        refused = λ n. refl;
        beyond = same-beyond s w;
      }

  -- one of the questions 6 to 12
  pub did-asked : (q : ℕ) → 0 < q → nf.question (limits s) H.heap m ≡ q → DidHere s w m w (refused q)
  unfolding ru.question
  did-asked zero z e = absurd (let o : ⊥ = omega arith in o)
  did-asked (suc q) z e = did-refused (suc q) z (ap (λ (n : ℕ). first n (ru.room s H m (ru.after s H m))) e)

  -- 13 or 14
  pub did-lacked : (q : ℕ) → 0 < q → nf.question (limits s) H.heap m ≡ 0 → ru.room s H m (ru.after s H m) ≡ q → DidHere s w m w (refused q)
  unfolding ru.question
  did-lacked q z e f = did-refused q z (ap₂ first e f)

  module _ (w' : Words) (h' : Regioned) (v : ℕ) (e : ru.question s H m ≡ 0) (n : ru.after s H m ≡ h') (f : nf.value_of (limits s) H.heap m ≡ v)
      (b : SameBeyond s w w') where
    -- all say yes; the objects whose home stays keep their cells
    pub did-freed : Freed s w m w' → (Sound h' → Became s H (λ c. c) m w' h') → DidHere s w m w' (done v)
    unfolding ru.step ru.answered
    did-freed r st =
        let next : (ru.step s H m).next ≡ h' = ap (λ (q : ℕ). (ru.answered s H m q).next) e ∙ n in
        let became = st (subst Sound next (no-dangling s H m (heap-stands s w k).sound)) in
        record {
          answer = sym (ap (λ (q : ℕ). (ru.answered s H m q).answer) e ∙ ap done f);
          words = stands-laid s w' h' became.cell became.stands w b ∙ sym (ap (λ (h : Regioned). laid s h w) next);
          next = subst (λ (h : Regioned). Became s H (λ c. c) m w' h) (sym next) became;
          freed = λ z. r;
          refused = λ z. absurd (z refl);
          beyond = b;
        }

    module _ (keeps : FreesNone s w m) where
      pub did-moved : (Sound h' → Became s H (λ c. c) m w' h') → DidHere s w m w' (done v)
      did-moved = did-freed (record { pages = λ page l f. absurd (keeps (owner_in s w page) f) })

      -- all objects keep their cells
      pub did-done : (Sound h' → StandsFor s w' h' (λ c. c)) → DidHere s w m w' (done v)
      did-done st = did-moved (λ so. record { cell = λ c. c; stands = st so; stays = λ x a z n. refl })

-- ---- questions 13 and 14

no-new-pages : (s : Sizes) (g h : Graph) → g.count ≡ h.count → g.home ≡ h.home → new_pages s g h ≡ 0
unfolding new_pages objects_in
no-new-pages s g h c e =
    sum-none _ (regions s) (λ i l. ap₂ (λ (n : ℕ) (f : ℕ → ℕ). pages_of (objects_in (record { count = n; home = f; refs = h.refs; vars = h.vars }) (suc i)) - pages_of (objects_in g (suc i))) (sym c) (sym e) ∙ sub_self _)

module _ (s : Sizes) (h h' : Regioned) (m : Command) (n : ru.after s h m ≡ h') (count : (graph h).count ≡ (graph h').count) (home : (graph h).home ≡ (graph h').home) where
  -- where no object comes or moves, 13 does not say no
  pub pages-fine : leb (new_pages s (graph h) (graph (ru.after s h m))) (free_pages s (graph h)) ≡ true
  pages-fine =
      let z : new_pages s (graph h) (graph (ru.after s h m)) ≡ 0 = ap (λ (g : Regioned). new_pages s (graph h) (graph g)) n ∙ no-new-pages s (graph h) (graph h') count home in
      le-leb (new_pages s (graph h) (graph (ru.after s h m))) (free_pages s (graph h)) (omega arith)

  -- 14, asked of a store and an end, is then the only one
  pub room-crossing : asks_entries (meaning_of m).effect ≡ true → ru.room s h m (ru.after s h m) ≡ ask (leb (crossing (graph h')) s.entries) 14 0
  unfolding ru.room ask
  room-crossing e =
      ap₂ (λ (b c : Bool). ask b 13 (cond c (ask (leb (crossing (graph (ru.after s h m))) s.entries) 14 0) 0)) pages-fine e
      ∙ ap (λ (g : Regioned). ask (leb (crossing (graph g)) s.entries) 14 0) n

  -- and of other commands there is none
  pub question-fine : nf.question (limits s) h.heap m ≡ 0 → asks_entries (meaning_of m).effect ≡ false → ru.question s h m ≡ 0
  unfolding ru.question ru.room ask
  question-fine ok e =
      ap₂ first ok (ap₂ (λ (b c : Bool). ask b 13 (cond c (ask (leb (crossing (graph (ru.after s h m))) s.entries) 14 0) 0)) pages-fine e)

-- ---- questions 9 and 10: a variable, its object and a field, in words; over the kind of field

abbrev pub fields_of : Kind → Object → List ℕ
fields_of Reference o = o.refs
fields_of Number o = o.nums

module _ (s : Sizes) (w : Words) (k : WholeFor s w) where
  -- every variable is null or names an object
  pub var-ref : (t a : ℕ) → t < s.threads → a < s.variables → IsRef s w.cells w.tables (var_in s w t a)
  var-ref t a l n = k.variables (t * s.variables + a) (flat-low l n)

  fields-heap : (d : Kind) (y : ℕ) → BeginsIn s w y → fields_of d (object_of (heap_of s w).heap (suc y)) ≡ fields_in d w y
  fields-heap Reference y u = ap (fields_of Reference) (object-at s w k y (used-alive s w k y u))
  fields-heap Number y u = ap (fields_of Number) (object-at s w k y (used-alive s w k y u))

  -- a reference v that is null or names an object, and field f of it
  module _ (d : Kind) (f : ℕ) where
    pub used-fields : (v : ℕ) → IsRef s w.cells w.tables v
        → used v f (length (fields_of d (object_of (heap_of s w).heap v))) ≡ used v f (field_count d (head_of w.cells (v - 1)))
    unfolding ask
    used-fields zero r = refl
    used-fields (suc y) r =
        let u = ref-begins s w.cells w.tables (suc y) y r refl in
        rw (let e : suc y - 1 ≡ y = omega arith in e) (ap (used (suc y) f) (ap length (fields-heap d y u) ∙ length_fields s w k d y u))

    -- the field's word
    pub field-word : (v : ℕ) → IsRef s w.cells w.tables v → 0 < v → f < field_count d (head_of w.cells (v - 1))
        → get_or (fields_of d (object_of (heap_of s w).heap v)) f 0 ≡ get_or w.cells (kind_at d w.cells (v - 1) f) 0
    field-word zero r p l = absurd (let o : ⊥ = omega arith in o)
    field-word (suc y) r p l =
        let e : suc y - 1 ≡ y = omega arith in
        rw e (ap (λ (vs : List ℕ). get_or vs f 0) (fields-heap d y (ref-begins s w.cells w.tables (suc y) y r refl)) ∙ get_d-fields d w y f (subst (λ (z : ℕ). f < field_count d (head_of w.cells z)) e l))

    -- the questions of variable a of thread t
    pub asked-field : (t a : ℕ) → t < s.threads → a < s.variables
        → used (var_of (limits s) (heap_of s w).heap t a) f (length (fields_of d (object_of (heap_of s w).heap (var_of (limits s) (heap_of s w).heap t a)))) ≡ used (var_in s w t a) f (field_count d (head_of w.cells (var_in s w t a - 1)))
    asked-field t a l n =
        ap (λ (v : ℕ). used v f (length (fields_of d (object_of (heap_of s w).heap v)))) (here-var s w t a l n) ∙ used-fields (var_in s w t a) (var-ref t a l n)
