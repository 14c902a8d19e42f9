-- What goes back is zero (02, W1): a page without an owner holds zero words, and so does every page that a command frees.
use Rattle.std.specs.Prelude.{ℕ, ◌<◌, ◌≡◌, get_or}
use Rattle.std.proofs.Common.{arith}
use Rattle.rules.specs.declared.Sizes.{Sizes}
use Rattle.rules.specs.declared.Command.{Command}
use Rattle.rules.specs.declared.Answer.{Answer}
use Rattle.rules.specs.NeverFreeing.{meaning_of}
use Rattle.layout.specs.Places.{cells_words}
use Rattle.layout.specs.Cells.{page_at, at-page}
use Rattle.layout.specs.Words.{Words, owner_in}
use Rattle.promises.specs.Whole.{WholeFor}
use Rattle.promises.specs.Promises.{Frees, DidHere}

module _ {s : Sizes} {w : Words} where
  pub free-zero : WholeFor s w → (q : ℕ) → q < cells_words s → owner_in s w (page_at q) ≡ 0 → get_or w.cells q 0 ≡ 0
  free-zero k q l e =
      k.unused q (record { low = l; unused = λ u. omega (arith, u.place, (k.pages (page_at q) (at-page s q l)).filled.free e) })

-- FREED PAGES ARE ZERO
pub freed-zero : {s : Sizes} {w : Words} {m : Command} {w' : Words} {a : Answer} → DidHere s w m w' a → a.number ≡ 0
    → (q : ℕ) → q < cells_words s → Frees s w m.thread (meaning_of m).effect (owner_in s w (page_at q)) → get_or w'.cells q 0 ≡ 0
freed-zero {s} d z q l f = free-zero d.next.stands.whole q l ((d.freed z).pages (page_at q) (at-page s q l) f)
