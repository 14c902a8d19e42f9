-- Codes 1, 4, 5 and 10 do what the rules say.
use Rattle.std.specs.Prelude.{◌≡◌, ℕ, ◌+◌, ◌<◌, ◌≤◌, Bool, true, false, ◌&&◌, List, ◌==◌, nat_lt, slice_set}
use Rattle.std.proofs.Common.{arith, ◌∙◌, lt-ltb, le-ltb}
use Rattle.std.proofs.Math.Path.{refl, sym, ap, ap₂, subst}
use Rattle.lists.specs.Counting.{bit}
use Rattle.lists.specs.Products.{flat-low}
use Rattle.rules.specs.declared.Command.{Command}
use Rattle.rules.specs.declared.Sizes.{Sizes}
use Rattle.rules.specs.Terms.{ask, refused, done, limits}
use Rattle.rules.specs.NeverFreeing as nf
use Rattle.rules.specs.NeverFreeing.{place}
use Rattle.rules.specs.Rules as ru
use Rattle.rules.specs.Rules.{Regioned, asks_entries}
use Rattle.layout.specs.Places.{depth_at, depth_of, var_at}
use Rattle.layout.specs.Words.{Words, words, heap_of}
use Rattle.promises.specs.Whole.{WholeFor}
use Rattle.promises.specs.Promises.{DidHere}
use Rattle.promises.specs.Agreed.{heap-stands}
use Rattle.promises.proofs.Here.{here-depth, here-var}
use Rattle.promises.proofs.Questions.{FreesNone, did-asked, did-done, question-fine}
use Rattle.promises.specs.Areas.{same-beyond}
use Rattle.promises.specs.Changes.{with_tables, with_variable, with_depth, renamed-same}
use Rattle.promises.proofs.FrameVariable.{variable-stands, variable-only}
use Rattle.promises.proofs.FrameDepth.{depth-stands, depth-only, raised-open}
use Rattle.commands.specs.declared.Decoded.TheVariants.{Start, Copy, Clear, Same}
use Rattle.commands.specs.Decoding.{command_for}
use Rattle.commands.specs.ThreadVariables.{variable, variable_at}
use Rattle.commands.specs.Does.{Does}

-- a variable gets a reference that the rules give it
pub variable-did : (s : Sizes) (w : Words) (k : WholeFor s w) (t a v : ℕ) → t < s.threads → a < s.variables → (m : Command) → FreesNone s w m → (x : ℕ) → nf.question (limits s) (heap_of s w).heap m ≡ 0
    → asks_entries (nf.meaning_of m).effect ≡ false → ru.after s (heap_of s w) m ≡ with_variable (heap_of s w) (place (limits s) t a) v → nf.value_of (limits s) (heap_of s w).heap m ≡ x
    → DidHere s w m (with_tables w (slice_set w.tables (var_at s (place (limits s) t a)) v)) (done x)
variable-did s w k t a v l n m keeps x q e f y =
    let h = with_variable (heap_of s w) (place (limits s) t a) v in
    did-done s w k m (with_tables w (slice_set w.tables (var_at s (place (limits s) t a)) v)) h x (question-fine s (heap_of s w) h m f refl refl q e) f y
    (variable-only s w k (place (limits s) t a) v (flat-low l n)).beyond keeps
    (λ so. variable-stands s w (heap_of s w) (λ c. c) (heap-stands s w k) (place (limits s) t a) v v (flat-low l n) (sym (renamed-same v)) so)

-- a command that changes nothing
pub unchanged-did : (s : Sizes) (w : Words) (k : WholeFor s w) (m : Command) → FreesNone s w m → (x : ℕ) → nf.question (limits s) (heap_of s w).heap m ≡ 0
    → asks_entries (nf.meaning_of m).effect ≡ false → ru.after s (heap_of s w) m ≡ heap_of s w → nf.value_of (limits s) (heap_of s w).heap m ≡ x → DidHere s w m w (done x)
unchanged-did s w k m keeps x q e f y =
    did-done s w k m w (heap_of s w) x (question-fine s (heap_of s w) (heap_of s w) m f refl refl q e) f y (same-beyond s w) keeps (λ so. heap-stands s w k)

module _ (p : Sizes) (c m t : List ℕ) (k : WholeFor p (words c m t)) where
  abbrev s : Sizes
  s = p

  abbrev w : Words
  w = words c m t

  abbrev H : Regioned
  H = heap_of s w

  -- ---- code 1

  module _ (u : ℕ) (l : u < p.threads) (d : ℕ) (e : d ≡ depth_of t u) where
    start-asked : nf.question (limits s) H.heap (command_for (Start u)) ≡ ask (nat_lt d p.depth) 11 0
    unfolding nf.question nf.operands nf.state ask
    start-asked =
        ap (λ (x : Bool). ask x 7 (ask (nat_lt (nf.depth_of H.heap u) p.depth) 11 0)) (lt-ltb u p.threads l)
        ∙ ap (λ (x : ℕ). ask (nat_lt x p.depth) 11 0) (here-depth s w u l ∙ sym e)

    pub start-refused : p.depth ≤ d → Does p c m t (Start u) c m t (refused 11)
    unfolding ask
    start-refused h =
        did-asked s w k (command_for (Start u)) 11 (omega arith) (start-asked ∙ ap (λ (x : Bool). ask x 11 0) (le-ltb d p.depth h))

    start-after : ru.after s H (command_for (Start u)) ≡ with_depth H u (d + 1)
    unfolding ru.after ru.homes_after ru.counters_after ru.occupancy_after nf.effect
    start-after = ap (λ (x : ℕ). with_depth H u (x + 1)) (here-depth s w u l ∙ sym e)

    pub start-done : d < p.depth → {t' : List ℕ} → t' ≡ slice_set t (depth_at u) (d + 1) → Does p c m t (Start u) c m t' (done 0)
    unfolding nf.value ask
    start-done h g =
        subst (λ (z : List ℕ). Does p c m t (Start u) c m z (done 0)) (sym g)
        (did-done s w k (command_for (Start u)) (with_tables w (slice_set t (depth_at u) (d + 1))) (with_depth H u (d + 1)) 0
        (question-fine s H (with_depth H u (d + 1)) (command_for (Start u)) start-after refl refl (start-asked ∙ ap (λ (x : Bool). ask x 11 0) (lt-ltb d p.depth h)) refl)
        start-after refl (depth-only s w k u (d + 1) l).beyond (λ g z. z)
        (λ so. depth-stands s w H (λ c. c) (heap-stands s w k) u (d + 1) l (omega arith) (raised-open s w k u (d + 1) l (omega (arith, e))) so))

  -- ---- code 4

  module _ (u a b v : ℕ) (l : u < p.threads) (n : a < p.variables) (o : b < p.variables) (q : v < p.threads) where
    copy-asked : nf.question (limits s) H.heap (command_for (Copy u a b v)) ≡ 0
    unfolding nf.question nf.operands nf.state ask
    copy-asked =
        ap₂ (λ (x y : Bool). ask x 7 (ask (y && nat_lt b p.variables && nat_lt v p.threads) 8 0)) (lt-ltb u p.threads l) (lt-ltb a p.variables n)
        ∙ ap₂ (λ (x y : Bool). ask (x && y) 8 0) (lt-ltb b p.variables o) (lt-ltb v p.threads q)

    pub copy_done : (x : ℕ) → x ≡ variable p t v b → {t' : List ℕ} → t' ≡ slice_set t (variable_at p u a) x → Does p c m t (Copy u a b v) c m t' (done 0)
    unfolding nf.value ru.after ru.homes_after ru.counters_after ru.occupancy_after nf.effect
    copy_done x e g =
        subst (λ (z : List ℕ). Does p c m t (Copy u a b v) c m z (done 0)) (sym g)
        (variable-did s w k u a x l n (command_for (Copy u a b v)) (λ g z. z) 0 copy-asked refl
        (ap (λ (z : ℕ). with_variable H (place (limits s) u a) z) (here-var s w v b q o ∙ sym e)) refl)

  -- ---- code 5

  module _ (u a : ℕ) (l : u < p.threads) (n : a < p.variables) where
    clear-asked : nf.question (limits s) H.heap (command_for (Clear u a)) ≡ 0
    unfolding nf.question nf.operands nf.state ask
    clear-asked = ap₂ (λ (x y : Bool). ask x 7 (ask (y && true && true) 8 0)) (lt-ltb u p.threads l) (lt-ltb a p.variables n)

    pub clear-done : {t' : List ℕ} → t' ≡ slice_set t (variable_at p u a) 0 → Does p c m t (Clear u a) c m t' (done 0)
    unfolding nf.value ru.after ru.homes_after ru.counters_after ru.occupancy_after nf.effect
    clear-done g =
        subst (λ (z : List ℕ). Does p c m t (Clear u a) c m z (done 0)) (sym g) (variable-did s w k u a 0 l n (command_for (Clear u a)) (λ g z. z) 0 clear-asked refl refl refl)

  -- ---- code 10

  module _ (u a b : ℕ) (l : u < p.threads) (n : a < p.variables) (o : b < p.variables) where
    same_asked : nf.question (limits s) H.heap (command_for (Same u a b)) ≡ 0
    unfolding nf.question nf.operands nf.state ask
    same_asked =
        ap₂ (λ (x y : Bool). ask x 7 (ask (y && nat_lt b p.variables && true) 8 0)) (lt-ltb u p.threads l) (lt-ltb a p.variables n)
        ∙ ap (λ (x : Bool). ask (x && true) 8 0) (lt-ltb b p.variables o)

    pub same-done : (x y : ℕ) → x ≡ variable p t u a → y ≡ variable p t u b → (v : ℕ) → v ≡ bit (x == y) → Does p c m t (Same u a b) c m t (done v)
    unfolding nf.value ru.after ru.homes_after ru.counters_after ru.occupancy_after nf.effect
    same-done x y e f v g =
        unchanged-did s w k (command_for (Same u a b)) (λ g z. z) v same_asked refl refl
        (ap₂ (λ (i j : ℕ). bit (i == j)) (here-var s w u a l n ∙ sym e) (here-var s w u b l o ∙ sym f) ∙ sym g)
