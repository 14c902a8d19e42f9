-- The end of one region r, as the crate settle tests it.
use Rattle.std.specs.Prelude.{◌≡◌, refl, ◌≢◌, List, ℕ, ◌<◌, get_or}
use Rattle.std.proofs.Common.{sym, ap, ◌∙◌, ⊎_elim, arith}
use Rattle.std.proofs.Math.Decide.{ℕ_discrete}
use Rattle.rules.specs.declared.Sizes.{Sizes}
use Rattle.layout.specs.Places.{owner_of, entries_used}
use Rattle.layout.specs.Cells.{page_of, page_at, cell_on, page-on}
use Rattle.layout.specs.Objects.{begins-page, begins-there}
use Rattle.layout.specs.Words.{Words, words, owner_in}
use Rattle.promises.specs.Whole.{WholeFor}
use Rattle.promises.specs.Ends.{part_of, Lives, outside-lives, lives-how}
use Rattle.remember.specs.Entries.{NamedWith}
use Rattle.remember.specs.Staying.{new_region, new-gone, new-stays, new-moved}
use Rattle.remember.specs.Crossing.{crosses_from}
use Rattle.settle.specs.Rewrite.{forwarded}
use Rattle.ended.specs.Living.{KeepsNamed}
use Rattle.ending.specs.Placing.{OutsideSlot, HoldingSlots, outside-home, outside-live, live-page}
use Rattle.ending.specs.Copied.{HasMoved, placed, placing, page-kept, placed-only}
use Rattle.ending.specs.Rewriting.{cross-live}
use Rattle.promises.specs.EntrySays.{entry-says}
use Rattle.ending.specs.Remembering.{OfRegions, remembered-holding, Renews}

-- the remembered slots that point into r
abbrev pub Held : Sizes → Words → ℕ → ℕ → Type 0
Held s w r = NamedWith r s.entries (entries_used w.remember) w.remember

module _ {s : Sizes} {w : Words} {r : ℕ} (high : 1 < r) where
  pub of-region : OfRegions s w (part_of s w r) (λ g. g ≡ r)
  of-region = record { test = λ g. ℕ_discrete g r; high = λ g z. omega arith; ends = λ page l z. z; owner = λ page l z. z }

  pub holding : WholeFor s w → KeepsNamed s w (part_of s w r) → HoldingSlots s w (part_of s w r) (Held s w r)
  holding whole keeps =
      remembered-holding whole keeps of-region
      (λ x q.
      let y = entry-says whole q.entry q.low in
      (q.entry, q.low, q.slot, λ z. y.other (sym y.region ∙ q.region ∙ sym z ∙ ap (owner_in s w) (ap page_at (sym q.slot) ∙ y.page))))
      (λ i l z n. record { entry = i; low = l; region = z; slot = refl })

module _ {s : Sizes} {w w₁ : Words} {r : ℕ} {W T : List ℕ} (pos : 0 < r) (h : HasMoved s w w₁ (part_of s w r) W T) where
  -- no object that lives on lies in r
  home_out : (c : ℕ) → Lives s w (part_of s w r) c → owner_of s T (page_of (placed W c)) ≢ r
  home_out c l z =
      ⊎_elim (λ o. o.out (sym (outside-home (placing h) c o) ∙ z))
      (λ v. h.sends.away c (page_of c) v (begins-page _ _ _ _ v.used) v.within (v.within ∙ sym z ∙ (placing h).placement.went c v)) (lives-how l)

  -- so its pages afterwards are its pages
  pub page-was : (page : ℕ) → page < s.pages → owner_of s T page ≡ r → owner_in s w page ≡ r
  page-was page l z = go (ℕ_discrete (owner_in s w page) r)
    where
      here : page_of (cell_on page 0) ≡ page
      here = page-on page 0 (omega arith)

      go : Dec (owner_in s w page ≡ r) → owner_in s w page ≡ r
      go (yes y) = y
      go (no n) =
          let u = begins-there s W T page 0 l (omega arith) ((h.ready.regular.pages page l).taken (omega arith)) in
          let o = placed-only h (cell_on page 0) u (λ y. n (ap (owner_in s w) (sym here) ∙ y)) in
          absurd (home_out o.0 o.1 (ap (λ (d : ℕ). owner_of s T (page_of d)) o.2 ∙ ap (owner_of s T) here ∙ z))

  -- X reads at the slots outside r what the forward references lead to
  pub renews : (X : List ℕ) → ((x : ℕ) → OutsideSlot s w (part_of s w r) x → get_or X x 0 ≡ forwarded W (get_or W x 0))
      → Renews s w (part_of s w r) (λ g. g ≡ r) (words W w.remember T) (placed W) (new_region s r X T)
  renews X reads =
      record {
        gone = λ x g l z. new-gone s r X T x g (page-kept h (page_at x) l z ∙ z);
        stays = λ x g q m. new-stays s r X T x g (out x q) m;
        moves = λ x g q m.
            sym (cross-live h x (outside-live (placing h) x q)) ∙ ap (λ (y : ℕ). crosses_from s T (owner_of s T (page_at x)) y) (sym (reads x q))
            ∙ new-moved s r X T x g (out x q) m;
      }
    where
      out : (x : ℕ) → OutsideSlot s w (part_of s w r) x → owner_of s T (page_at x) ≢ r
      out x q z = home_out q.object (outside-lives q.outside) (ap (owner_of s T) (sym (live-page (placing h) x (outside-live (placing h) x q))) ∙ z)
