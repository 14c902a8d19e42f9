-- The remember table after an end: the entries that stay and those of the crossing slots of the copies, by rising slot, then zeros.
use Rattle.std.specs.Prelude.{◌≡◌, ◌≢◌, ◌⊎◌, List, ℕ, ◌-◌, ◌<◌, get_or}
use Rattle.std.proofs.Common.{sym, subst, inl, inr, ⊎_elim, arith}
use Rattle.rules.specs.declared.Sizes.{Sizes}
use Rattle.layout.specs.Places.{entries_used, slot_in, slot_region_in}
use Rattle.layout.specs.Words.{Names}
use Rattle.remember.specs.Table.{Table}
use Rattle.remember.specs.Entries.{Rising, ZeroBetween}
use Rattle.remember.specs.Stretches.{Added, added-join, slot-below, EndsAfter}
use Rattle.remember.specs.Filtered.{Stays}
use Rattle.remember.specs.Appending.{Crossing, crossing-in, AtMost, at-most-rest}
use Rattle.remember.specs.Renewed.{Renewed, Appended, appended, appended-all}
use Rattle.remember.specs.Staying.{new_region, Entries, stays-read}
use Rattle.sorting.specs.Sorting.{sorted_from}
use Rattle.sorting.specs.SortedIn.{sorted-renewed}
use Rattle.settle.specs.Rewrite.{forwarded}
use Rattle.settle.specs.RewriteCopies.{CopySlot, Wiring, OnPages, slot-now, slot-then}
use Rattle.settle.specs.Settle.{cross_later, Settled, Settling}

abbrev pub Copies : (p : Sizes) (W T : List ℕ) → ℕ → Type 0
Copies p W T = CopySlot p (OnPages p.pages) W T

-- the slots that are to have entries: those of entries that stay, and the copies' that will cross
abbrev Due : (p : Sizes) (r n m : ℕ) (W M T : List ℕ) → ℕ → Type 0
Due p r n m W M T x = ((h : ℕ) × Stays (new_region p r W T) n M m x h) ⊎ (Copies p W T x × (cross_later p W T x ≢ 0))

-- The copies can be settled and the table made anew. m entries of n are in use; none is of a copy's slot.
pub record Settles (p : Sizes) (r n m : ℕ) (W M T : List ℕ) : Type 0 where
  pub entries : Entries p r n m W M
  pub wiring : Wiring p (OnPages p.pages) W T
  pub old : (i : ℕ) → i < m → Copies p W T (slot_in M i) → ⊥
  pub names : (x : ℕ) → Copies p W T x → Names p (get_or W x 0) × Names p (forwarded W (get_or W x 0))
  pub space : AtMost (Due p r n m W M T) n
  pub rest : ZeroBetween n M m n

pub settles-table : {p : Sizes} {r n : ℕ} {W M T : List ℕ} → Settles p r n (entries_used M) W M T → Table n M
settles-table u = record { long = u.entries.long; few = omega arith; room = u.entries.few; rest = u.rest; rising = u.entries.rising }

-- an entry that stays, or a crossing slot of a copy
abbrev pub NewEntry : (p : Sizes) (r n m : ℕ) (W M T : List ℕ) → ℕ → ℕ → Type 0
NewEntry p r n m W M T x h = Stays (new_region p r W T) n M m x h ⊎ Crossing p (Copies p W T) W T x h

abbrev pub Updated : (p : Sizes) (r n m : ℕ) (W M T M' : List ℕ) → Type 0
Updated p r n m W M T M' = Renewed (NewEntry p r n m W M T) n M M'

module _ {p : Sizes} {r n m j : ℕ} {W M T M₁ : List ℕ} (u : Settles p r n m W M T) (a : Added n (Stays (new_region p r W T) n M m) 0 j M M₁) where
  stays-apart : (x h : ℕ) → Stays (new_region p r W T) n M m x h → Copies p W T x → ⊥
  stays-apart x h q z = u.old q.entry q.low (subst (Copies p W T) (sym q.slot) z)

  pub settle-asks : Settling p n (Copies p W T) W M₁ T j
  settle-asks =
      record {
        long = omega (arith, u.entries.long, a.size);
        low = a.low;
        names = u.names;
        space =
            at-most-rest {Q = λ x. (h : ℕ) × Stays (new_region p r W T) n M m x h} j (n - j) (slot_in M₁) (omega (arith, a.low)) u.space (λ y l. (slot_region_in n M₁ y, a.named y (omega arith) l)) (λ y z. a.once y z (omega arith))
            (λ x. inl) (λ x. inr) (λ x q z. stays-apart x q.0 q.1 z.0);
      }

  -- j entries stay, in their order; k are used in the end
  module _ (rise : Rising M₁ j) {k : ℕ} {W' M₂ M₃ : List ℕ} (h : Settled p n (Copies p W T) W M₁ T j W' M₂ k) (c : EndsAfter n k m M₂ M₃) where
    pub settles-appended : Appended (NewEntry p r n m W' M T) n j M M₃
    settles-appended =
        appended both c u.entries.few u.rest u.entries.long h.added.grows
        (λ y z l q. omega (arith, rise y z l q, slot-below h.added y (omega arith), slot-below h.added z q))
      where
        same : (i : ℕ) → i < m → get_or W' (slot_in M i) 0 ≡ get_or W (slot_in M i) 0
        same i l = h.rewritten.same (slot_in M i) (u.old i l)

        both : Added n (NewEntry p r n m W' M T) 0 k M M₂
        both =
            added-join a h.added (λ x g g' s q. stays-apart x g s q.at)
            (λ x g. ⊎_elim (λ s. inl (stays-read p r W' W T (λ i l. sym (same i l)) x g s)) (λ q. inr (crossing-in (slot-then h.rewritten) x g q)))
            (λ x g. ⊎_elim (λ s. inl (stays-read p r W W' T same x g s)) (λ q. inr (crossing-in (slot-now h.rewritten) x g q)))

    -- those of the copies are sorted in
    pub settles-updated : {M₄ : List ℕ} → M₄ ≡ sorted_from n j M₃ → Updated p r n m W' M T M₄
    settles-updated = sorted-renewed settles-appended

    -- there are none
    pub settles-kept : k ≡ j → Updated p r n m W' M T M₃
    settles-kept e = appended-all settles-appended (omega (arith, c.used))
