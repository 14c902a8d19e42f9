-- NO PAGE MAY GO BACK THAT IS STILL LED TO (02, W5), of every command and of every list of blocks.
use Rattle.std.specs.Prelude.{ℕ, suc, ◌*◌, ◌+◌, ◌<◌, ◌≡◌, List}
use Rattle.lists.specs.Products.{flat-low}
use Rattle.rules.specs.declared.Sizes.{Sizes}
use Rattle.rules.specs.declared.Command.{Command}
use Rattle.rules.specs.declared.Answer.{Answer}
use Rattle.rules.specs.Rules as ru
use Rattle.layout.specs.Cells.{field_of, page_of}
use Rattle.layout.specs.Words.{Words, BeginsIn, var_in, owner_in, ref_count}
use Rattle.promises.specs.Whole.{WholeFor}
use Rattle.promises.specs.Slices.{Slices}
use Rattle.promises.specs.Promises.{DidHere, Prepared}
use Rattle.promises.specs.Reading.{ref-begins, used-owned}
use Rattle.promises.proofs.Preparing.{prepared-is}
use Rattle.demand.specs.DemandThree.{Block, Runs}
use Rattle.demand.proofs.Demand.{all_runs}

-- no variable, and no slot of an object that is there, names a cell of a page without an owner
pub record NoneLeadsToFree (s : Sizes) (w : Words) : Type 0 where
  pub variables : (t a c : ℕ) → t < s.threads → a < s.variables → var_in s w t a ≡ suc c → owner_in s w (page_of c) ≡ 0 → ⊥
  pub slots : (x f c : ℕ) → BeginsIn s w x → f < ref_count w x → field_of w.cells x f ≡ suc c → owner_in s w (page_of c) ≡ 0 → ⊥

-- a reference of whole words names an object, and an object lies on a page with an owner
whole-none-leads : (s : Sizes) (w : Words) → WholeFor s w → NoneLeadsToFree s w
whole-none-leads s w k =
    record {
      variables = λ t a c l m e.
          used-owned s w k c (ref-begins s w.cells w.tables (var_in s w t a) c (k.variables (t * s.variables + a) (flat-low l m)) e);
      slots = λ x f c u l e. used-owned s w k c (ref-begins s w.cells w.tables (field_of w.cells x f) c ((k.objects x u).references f l) e);
    }

-- AFTER EVERY COMMAND, an end and a collection among them
pub none-leads-to-free : (s : Sizes) (w w' : Words) (m : Command) (a : Answer) → DidHere s w m w' a → NoneLeadsToFree s w'
none-leads-to-free s w w' m a d = whole-none-leads s w' d.next.stands.whole

-- AFTER EVERY LIST OF BLOCKS on slices that prepare wrote
pub blocks-none-lead : (s : Sizes) (lent l : Slices) → Prepared s lent 0 l → (bs : List Block) (l' : Slices) → Runs l bs l'
    → NoneLeadsToFree s l'.words
blocks-none-lead s lent l p bs l' runs =
    let is = prepared-is s lent l p in
    let all = all_runs s runs (ru.unused s) (λ x. x) (record { stands = is.stands; chains = is.chains }) in
    whole-none-leads s l'.words all.holds.stands.whole
