-- Codes 6, 8 and 9 do what the rules say: a field of the object that a variable names.
use Rattle.std.specs.Prelude.{◌≡◌, ℕ, suc, ◌+◌, ◌-◌, ◌<◌, Bool, true, not, ◌&&◌, List, length, get_or, set, ◌==◌, ◌≢◌, nat_lt, slice_index, slice_index_or, slice_set}
use Rattle.std.proofs.Common.{arith, ◌∙◌, length-set, lt-ltb}
use Rattle.std.proofs.Math.Path.{refl, sym, ap, ap₂, subst}
use Rattle.lists.specs.Counting.{bit}
use Rattle.rules.specs.declared.Sizes.{Sizes}
use Rattle.rules.specs.Terms.{ask, refused, done, limits}
use Rattle.rules.specs.NeverFreeing as nf
use Rattle.rules.specs.NeverFreeing.{no_object, used, var_of, object_of, place}
use Rattle.rules.specs.Rules as ru
use Rattle.rules.specs.Rules.{Regioned}
use Rattle.layout.specs.declared.Kind.{Kind}
use Rattle.layout.specs.declared.Kind.TheVariants.{Reference, Number}
use Rattle.layout.specs.Cells.{head_of, field_at, field_count, kind_at, kind-low, first-number, cell_named}
use Rattle.layout.specs.Objects.{begins-page}
use Rattle.layout.specs.Words.{Words, words, heap_of, BeginsIn, ref_count}
use Rattle.promises.specs.Whole.{WholeFor, IsRef}
use Rattle.promises.specs.Reading.{used-alive, cell_in}
use Rattle.promises.specs.Agreed.{heap-stands, back}
use Rattle.promises.proofs.Here.{here-var}
use Rattle.promises.proofs.Questions.{did-asked, did-done, question-fine, fields_of, var-ref, asked-field, field-word}
use Rattle.promises.specs.Changes.{with_cells, with_variable, with_object, with_field}
use Rattle.promises.proofs.FrameNumber.{number-stands, number-only}
use Rattle.commands.specs.declared.Decoded.TheVariants.{Load, Read, Write}
use Rattle.commands.specs.Decoding.{command_for}
use Rattle.commands.specs.ThreadVariables.{variable, variable_at}
use Rattle.commands.specs.Fields.{NamesCell, Field, used-both}
use Rattle.commands.specs.Does.{Does}
use Rattle.commands.specs.Variables.{variable-did, unchanged-did}

-- x is what variable a of thread u holds
module _ (p : Sizes) (c m t : List ℕ) (k : WholeFor p (words c m t)) (u a : ℕ) (l : u < p.threads) (n : a < p.variables) (x : ℕ) (e : x ≡ variable p t u a) where
  abbrev s : Sizes
  s = p

  abbrev w : Words
  w = words c m t

  abbrev H : Regioned
  H = heap_of s w

  pub is-ref : IsRef s c t x
  is-ref = subst (IsRef s c t) (sym e) (var-ref s w k u a l n)

  pub heap-var : var_of (limits s) H.heap u a ≡ x
  heap-var = here-var s w u a l n ∙ sym e

  pub names-cell : NamesCell x (length c)
  names-cell h = cell_in s w k (cell_named x) (begins-page s c t (cell_named x) (is-ref h))

  -- q is the answer to questions 9 and 10 of field f
  module _ (d : Kind) (f q : ℕ) (g : q ≡ used x f (field_count d (head_of c (x - 1)))) where
    pub asked_is : used (var_of (limits s) H.heap u a) f (length (fields_of d (object_of H.heap (var_of (limits s) H.heap u a)))) ≡ q
    asked_is = asked-field s w k d f u a l n ∙ ap (λ (z : ℕ). used z f (field_count d (head_of c (z - 1)))) (sym e) ∙ sym g

    module _ (z : q ≡ 0) where
      pub within : (0 < x) × (f < field_count d (head_of c (x - 1)))
      within = used-both x f (field_count d (head_of c (x - 1))) (sym g ∙ z)

      pub in_use : BeginsIn s w (x - 1)
      in_use = is-ref within.0

      pub is_field : Field d c x f
      is_field =
          record { real = within.0; inside = names-cell within.0; field = kind-low d c (x - 1) f (k.objects (x - 1) in_use).head within.1 }

      pub heap-word : get_or (fields_of d (object_of H.heap (var_of (limits s) H.heap u a))) f 0 ≡ slice_index c (kind_at d c (x - 1) f)
      heap-word =
          ap (λ (v : ℕ). slice_index (fields_of d (object_of H.heap v)) f) heap-var ∙ field-word s w k d f x is-ref within.0 within.1

  -- ---- code 8

  module _ (b q : ℕ) (g : q ≡ used x b (field_count Number (head_of c (x - 1)))) where
    read_asked : nf.question (limits s) H.heap (command_for (Read u a b)) ≡ q
    unfolding nf.question nf.operands nf.state ask
    read_asked =
        ap₂ (λ (i j : Bool). ask i 7 (ask (j && true) 8 (used (var_of (limits s) H.heap u a) b (length (object_of H.heap (var_of (limits s) H.heap u a)).nums)))) (lt-ltb u p.threads l) (lt-ltb a p.variables n)
        ∙ asked_is Number b q g

    pub read-refused : (q ≢ 0) → Does p c m t (Read u a b) c m t (refused q)
    read-refused z = did-asked s w k (command_for (Read u a b)) q (omega arith) read_asked

    pub read_done : q ≡ 0 → (v : ℕ) → v ≡ slice_index c (kind_at Number c (x - 1) b) → Does p c m t (Read u a b) c m t (done v)
    unfolding nf.value ru.after ru.homes_after ru.counters_after ru.occupancy_after nf.effect
    read_done z v f = unchanged-did s w k (command_for (Read u a b)) (λ g z. z) v (read_asked ∙ z) refl refl (heap-word Number b q g z ∙ sym f)

  -- ---- code 9

  module _ (b v q : ℕ) (g : q ≡ used x b (field_count Number (head_of c (x - 1)))) where
    write-asked : nf.question (limits s) H.heap (command_for (Write u a b v)) ≡ q
    unfolding nf.question nf.operands nf.state ask
    write-asked =
        ap₂ (λ (i j : Bool). ask i 7 (ask j 8 (used (var_of (limits s) H.heap u a) b (length (object_of H.heap (var_of (limits s) H.heap u a)).nums)))) (lt-ltb u p.threads l) (lt-ltb a p.variables n)
        ∙ asked_is Number b q g

    pub write-refused : (q ≢ 0) → Does p c m t (Write u a b v) c m t (refused q)
    write-refused z = did-asked s w k (command_for (Write u a b v)) q (omega arith) write-asked

    module _ (z : q ≡ 0) where
      abbrev y : ℕ
      y = x - 1

      abbrev h' : Regioned
      h' = with_object H y (with_field Number (slice_index_or H.heap.objects y no_object) b v)

      write-after : ru.after s H (command_for (Write u a b v)) ≡ h'
      unfolding ru.after ru.homes_after ru.counters_after ru.occupancy_after nf.effect
      write-after =
          let i : var_of (limits s) H.heap u a ≡ suc y = heap-var ∙ (let o : x ≡ suc y = omega (arith, within Number b q g z) in o) in
          ap (λ (j : ℕ). record { heap = nf.with_object H.heap j (record { refs = (object_of H.heap j).refs; nums = slice_set (object_of H.heap j).nums b v }); homes = H.homes; counters = H.counters; occupancy = H.occupancy }) i

      pub write_done : {c' : List ℕ} → c' ≡ slice_set c (kind_at Number c (x - 1) b) v → Does p c m t (Write u a b v) c' m t (done 0)
      unfolding nf.value
      write_done f =
          let i = in_use Number b q g z in
          let o = (within Number b q g z).1 in
          subst (λ (i : List ℕ). Does p c m t (Write u a b v) i m t (done 0)) (sym (f ∙ ap (λ (n : ℕ). set c (field_at y (n + b)) v) (first-number (head_of c y))))
          (did-done s w k (command_for (Write u a b v)) (with_cells w (slice_set c (field_at y (ref_count w y + b)) v)) h' 0
          (question-fine s H h' (command_for (Write u a b v)) write-after (sym (length-set H.heap.objects y _)) refl (write-asked ∙ z) refl) write-after refl
          (number-only s w k y b v i o).beyond (λ g z. z)
          (λ so. number-stands s w H (λ i. i) (heap-stands s w k) y (back s w k y (used-alive s w k y i)) b v o so))

  -- ---- code 6, into variable a'

  module _ (a' : ℕ) (n' : a' < p.variables) (f q : ℕ) (g : q ≡ used x f (field_count Reference (head_of c (x - 1)))) where
    load-asked : nf.question (limits s) H.heap (command_for (Load u a' a f)) ≡ q
    unfolding nf.question nf.operands nf.state ask
    load-asked =
        ap (λ (i : Bool). ask i 7 (ask (nat_lt a' p.variables && nat_lt a p.variables) 8 (used (var_of (limits s) H.heap u a) f (length (object_of H.heap (var_of (limits s) H.heap u a)).refs)))) (lt-ltb u p.threads l)
        ∙ ap₂ (λ (i j : Bool). ask (i && j) 8 (used (var_of (limits s) H.heap u a) f (length (object_of H.heap (var_of (limits s) H.heap u a)).refs))) (lt-ltb a' p.variables n') (lt-ltb a p.variables n)
        ∙ asked_is Reference f q g

    pub load-refused : (q ≢ 0) → Does p c m t (Load u a' a f) c m t (refused q)
    load-refused z = did-asked s w k (command_for (Load u a' a f)) q (omega arith) load-asked

    pub load-done : q ≡ 0 → (v : ℕ) → v ≡ slice_index c (kind_at Reference c (x - 1) f) → (i : ℕ) → i ≡ bit (not (v == 0)) → {t' : List ℕ} → t' ≡ slice_set t (variable_at p u a') v → Does p c m t (Load u a' a f) c m t' (done i)
    unfolding nf.value ru.after ru.homes_after ru.counters_after ru.occupancy_after nf.effect
    load-done z v d i o h =
        let word = heap-word Reference f q g z ∙ sym d in
        subst (λ (t' : List ℕ). Does p c m t (Load u a' a f) c m t' (done i)) (sym h)
        (variable-did s w k u a' v l n' (command_for (Load u a' a f)) (λ g z. z) i (load-asked ∙ z) refl (ap (λ (j : ℕ). with_variable H (place (limits s) u a') j) word)
        (ap (λ (j : ℕ). bit (not (j == 0))) word ∙ sym o))
