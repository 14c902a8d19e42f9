-- The numbers at which f is not 0 come into the table as they rise, each with what f gives. Then the table is exact for f.
use Rattle.std.specs.Prelude.{◌≡◌, refl, ◌⊎◌, List, ℕ, ◌+◌, ◌-◌, ◌≤◌, ◌<◌, length}
use Rattle.std.proofs.Common.{sym, ap, ◌∙◌, inl, inr, ⊎_elim, arith}
use Rattle.std.proofs.Math.Decide.{dec_lt}
use Rattle.layout.specs.Places.{entries_used, slot_in, entries_words}
use Rattle.remember.specs.Entries.{EntryOf, RestZero, Exact, Edited, entered}
use Rattle.remember.specs.Stretches.{Added, added_none, added-one, added-join, added-like, slot-below, EndsAfter}
use Rattle.remember.specs.Appending.{AtMost, at-most-rest}
use Rattle.remember.specs.Renewed.{Renewed, appended, appended-all, renewed-exact}

-- an entry of f's, of a number from a on, before b
pub record Given (f : ℕ → ℕ) (a b x h : ℕ) : Type 0 where
  pub from : a ≤ x
  pub entry : EntryOf f b x h

-- such a number
abbrev pub Counts : (ℕ → ℕ) → ℕ → ℕ → ℕ → Type 0
Counts f a b x = Given f a b x (f x)

given-counts : {f : ℕ → ℕ} {a b x h : ℕ} → Given f a b x h → Counts f a b x
given-counts g = let e = g.entry in record { from = g.from; entry = record { slot = e.slot; region = omega (arith, e.region, e.right); right = refl } }

given-in : {f : ℕ → ℕ} {a b c d x h : ℕ} → c ≤ a → b ≤ d → Given f a b x h → Given f c d x h
given-in l m g = let e = g.entry in record { from = omega (arith, g.from); entry = record { slot = omega (arith, e.slot); region = e.region; right = e.right } }

-- f's entries of the numbers from a to before b are those from entry j up to entry i, by rising number
pub record Retold (f : ℕ → ℕ) (n a b : ℕ) (M : List ℕ) (j : ℕ) (M' : List ℕ) (i : ℕ) : Type 0 where
  pub added : Added n (Given f a b) j i M M'
  pub rising : (y z : ℕ) → j ≤ y → y < z → z < i → slot_in M' y < slot_in M' z

-- they can come: there is room for them after j entries
pub record Retelling (f : ℕ → ℕ) (n a b : ℕ) (M : List ℕ) (j : ℕ) : Type 0 where
  pub long : entries_words n ≤ length M
  pub low : j ≤ n
  pub space : AtMost (Counts f a b) (n - j)

-- ---- none, one, and one stretch after another

pub told_none : (f : ℕ → ℕ) (n a b : ℕ) (M : List ℕ) (j : ℕ) → j ≤ n → ((x : ℕ) → a ≤ x → x < b → f x ≡ 0) → Retold f n a b M j M j
told_none f n a b M j l zero =
    record {
      added = added_none (Given f a b) j M l (λ x h g. let e = g.entry in omega (arith, e.region, e.right, zero x g.from e.slot));
      rising = λ y z u v w. absurd (let e : ⊥ = omega arith in e);
    }

-- h is what f gives, as the code has it
pub told-one : {f : ℕ → ℕ} {n x y b i : ℕ} {M : List ℕ} → Retelling f n x b M i → y ≡ x + 1 → i < n → (h : ℕ) → h ≡ f x → 0 < h → Retold f n x y M i (entered n M i x h) (i + 1)
told-one {f} {n} {x} {i = i} {M = M} t after l h e pos =
    record {
      added =
          added-like (added-one i x h M l t.long)
          (λ v g q. let k = q.entry in let z : v ≡ x = omega (arith, q.from, k.slot) in (z, sym k.right ∙ ap f z ∙ sym e))
          (λ v g q. record { from = omega (arith, q.0); entry = record { slot = omega (arith, q.0); region = omega (arith, q.1); right = ap f q.0 ∙ sym e ∙ sym q.1 } });
      rising = λ y z u v w. absurd (let d : ⊥ = omega arith in d);
    }

pub told-fits : {f : ℕ → ℕ} {n x b i : ℕ} {M : List ℕ} → Retelling f n x b M i → x < b → (h : ℕ) → h ≡ f x → 0 < h → i < n
told-fits {f} {x = x} t l h e pos =
    omega (
      arith,
      t.space.few 1 (λ a. x) (λ a m. record { from = omega arith; entry = record { slot = l; region = omega arith; right = refl } }) (λ a b u v. absurd (let z : ⊥ = omega arith in z)),
      t.low,
    )

module _ {f : ℕ → ℕ} {n a b j i : ℕ} {M M' : List ℕ} (h : Retold f n a b M j M' i) where
  pub told-on : {c k : ℕ} {M'' : List ℕ} → a ≤ b → b ≤ c → Retold f n b c M' i M'' k → Retold f n a c M j M'' k
  told-on {c} {k} {M''} l m t =
      record {
        added =
            added-join h.added t.added (λ x g g' q q'. omega (arith, q.entry.slot, q'.from)) (λ x g q. part x g q (dec_lt x b))
            (λ x g. ⊎_elim (given-in (omega arith) m) (given-in l (omega arith)));
        rising = λ y z u v w. rise y z u v w (dec_lt y i) (dec_lt z i);
      }
    where
      part : (x g : ℕ) → Given f a c x g → Dec (x < b) → Given f a b x g ⊎ Given f b c x g
      part x g q (yes z) = let e = q.entry in inl (record { from = q.from; entry = record { slot = z; region = e.region; right = e.right } })
      part x g q (no z) = inr (record { from = omega arith; entry = q.entry })

      rise : (y z : ℕ) → j ≤ y → y < z → z < k → Dec (y < i) → Dec (z < i) → slot_in M'' y < slot_in M'' z
      rise y z u v w (yes d) (yes e) = omega (arith, h.rising y z u v e, slot-below t.added y d, slot-below t.added z e)
      rise y z u v w (yes d) (no e) =
          omega (arith, slot-below t.added y d, (h.added.named y u d).entry.slot, (t.added.named z (omega arith) w).from)
      rise y z u v w (no d) (yes e) = absurd (let q : ⊥ = omega arith in q)
      rise y z u v w (no d) (no e) = t.rising y z (omega arith) v w

  -- the next can come
  pub telling-rest : {c d : ℕ} → Retelling f n a d M j → a ≤ b → b ≤ c → c ≤ d → Retelling f n b c M' i
  telling-rest {c} {d} t l m o =
      record {
        long = omega (arith, t.long, h.added.size);
        low = h.added.low;
        space =
            at-most-rest {Q = Counts f a b} (i - j) (n - i) (λ y. slot_in M' (j + y)) (omega (arith, h.added.grows, h.added.low)) t.space
            (λ y u. given-counts (h.added.named (j + y) (omega arith) (omega arith)))
            (λ y z u v e. h.added.once (j + y) (j + z) (omega arith) (omega arith) (omega arith) e)
            (λ x. given-in (omega arith) (omega arith)) (λ x. given-in l o) (λ x q q'. omega (arith, q.entry.slot, q'.from));
      }

-- nothing is told yet
pub told-start : (f : ℕ → ℕ) (n a : ℕ) (M : List ℕ) (j : ℕ) → j ≤ n → Retold f n a a M j M j
told-start f n a M j l = told_none f n a a M j l (λ x u v. absurd (let z : ⊥ = omega arith in z))

-- ---- the whole table: k entries, then zeros; e of them were used before, as the code read it

module _ {f : ℕ → ℕ} {n N k e : ℕ} {M M' M'' : List ℕ} (h : Retold f N 0 n M 0 M' k) (c : EndsAfter N k e M' M'') (was : e ≡ entries_used M)
    (few : entries_used M ≤ N) (rest : RestZero N M) (long : entries_words N ≤ length M) where
  told-renewed : Renewed (Given f 0 n) N M M''
  told-renewed =
      appended-all
      (appended h.added c (omega arith) (λ y l m. rest y (omega arith) m) long (omega arith) (λ y z l m. h.rising y z (omega arith) l m))
      (omega (arith, c.used))

  pub told-exact : Exact f n N M'' × Edited N M M''
  told-exact = (
    renewed-exact f n (λ x g q. q.entry) (λ x l pos. record { from = omega arith; entry = record { slot = l; region = pos; right = refl } }) told-renewed,
    told-renewed.edited,
  )
