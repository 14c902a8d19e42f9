-- The remembered slots are pushed along the chain of r: the entries that it passes over are of other regions, and their slots hold nothing for
-- an end of r.
use Rattle.std.specs.Prelude.{◌≡◌, List, ℕ, ◌+◌, ◌-◌, ◌≤◌, ◌<◌}
use Rattle.std.proofs.Common.{sym, ap, ap₂, subst, ◌∙◌, arith}
use Rattle.rules.specs.declared.Sizes.{Sizes}
use Rattle.rules.specs.Regions.{regions}
use Rattle.layout.specs.Places.{entries_used, slot_region_in, first_in, next_in}
use Rattle.chains.specs.Chains.{ChainsWhole}
use Rattle.chains.proofs.Walking.{Leads, first-leads, next-leads}
use Rattle.mark.specs.Holders.{slot_held, slot-elsewhere}
use Rattle.mark.specs.Pushes.{Pushing, Pushing.none, pushing-nulls}

-- what the slots of the entries before a place hold for g is pushed, and x leads on from there
pub record Along (p : Sizes) (r g : ℕ) (m W T : List ℕ) (top : ℕ) (W' T' : List ℕ) (t x : ℕ) : Type 0 where
  pub place : ℕ
  pub low : place ≤ entries_used m
  pub pushed : Pushing p r (slot_held p W m T r g) W T top W' T' t place
  pub leads : Leads r p.entries m place x

module _ {p : Sizes} {r g : ℕ} {m W T : List ℕ} {top : ℕ} {W' T' : List ℕ} {t x : ℕ} (a : Along p r g m W T top W' T' t x) where
  -- also up to a later place b, if the slots between hold nothing
  up_to : (b : ℕ) → a.place ≤ b → ((j : ℕ) → a.place ≤ j → j < b → slot_held p W m T r g j ≡ 0) → Pushing p r (slot_held p W m T r g) W T top W' T' t b
  up_to b l nulls =
      let e : a.place + (b - a.place) ≡ b = omega arith in
      subst (Pushing p r (slot_held p W m T r g) W T top W' T' t) e
      (pushing-nulls a.pushed (b - a.place) (λ i h k. nulls i h (omega arith)))

  -- the entry that x leads to, w being x
  module _ (l : 0 < x) {w : ℕ} (e : w ≡ x) where
    pub along-low : w - 1 < entries_used m
    along-low = omega (arith, a.leads.low)

    pub along-region : slot_region_in p.entries m (w - 1) ≡ r
    along-region = ap (λ (n : ℕ). slot_region_in p.entries m (n - 1)) e ∙ a.leads.region l

    pub along-here : Pushing p r (slot_held p W m T r g) W T top W' T' t (w - 1)
    along-here =
        up_to (w - 1) (omega (arith, a.leads.later l))
        (λ j h k. sym (slot-elsewhere p W m T r g j (a.leads.between l j h (omega arith))))

  -- no entry is left
  pub along-all : x ≡ 0 → Pushing p r (slot_held p W m T r g) W T top W' T' t (entries_used m)
  along-all z = up_to (entries_used m) a.low (λ j h k. sym (slot-elsewhere p W m T r g j (a.leads.none z j h k)))

-- by the words of the chains
module _ {p : Sizes} {m k : List ℕ} (room : entries_used m ≤ p.entries) (whole : ChainsWhole p m k) {r g : ℕ} {W T : List ℕ} {top : ℕ} where
  pub along-start : 1 ≤ r → r ≤ regions p → {f x : ℕ} → f ≡ r → x ≡ first_in k f → Along p r g m W T top W T top x
  along-start l h {f} e q =
      record { place = 0; low = omega arith; pushed = none; leads = first-leads room whole r l h (q ∙ ap (first_in k) e) }

  -- from the entry that x leads to, w being x
  module _ {W' T' : List ℕ} {t x : ℕ} (a : Along p r g m W T top W' T' t x) (l : 0 < x) {w : ℕ} (ew : w ≡ x) {last y : ℕ} (el : last ≡ regions p)
      (e : y ≡ next_in last k (w - 1)) where
    pub leads-on : Leads r p.entries m x y
    leads-on = next-leads room whole a.leads l (e ∙ ap₂ (λ (n i : ℕ). next_in n k (i - 1)) el ew)

    -- after its push
    pub along-next : {W'' T'' : List ℕ} {u : ℕ} → Pushing p r (slot_held p W m T r g) W T top W'' T'' u (w - 1 + 1) → Along p r g m W T top W'' T'' u y
    along-next {W''} {T''} {u} h =
        let z : w - 1 + 1 ≡ x = omega (arith, ew, l) in
        record { place = x; low = a.leads.low; pushed = subst (Pushing p r (slot_held p W m T r g) W T top W'' T'' u) z h; leads = leads-on }
