-- Whole words in which survivors are marked: pages and counts are regular, as the copy asks.
use Rattle.std.specs.Prelude.{ℕ, ◌+◌, ◌<◌, length}
use Rattle.std.proofs.Common.{arith}
use Rattle.lists.specs.Bits.{none-high}
use Rattle.rules.specs.declared.Sizes.{Sizes}
use Rattle.layout.specs.Places.{Room, mark_of}
use Rattle.layout.specs.Cells.{page_of, place_of, page_cells}
use Rattle.layout.specs.Words.{Words}
use Rattle.promises.specs.Whole.{WholeFor}
use Rattle.promises.specs.Regular.{SamePage, whole-regular, regular-same}
use Rattle.promises.specs.Ends.{Part}
use Rattle.mark.specs.Marks.{kept-in-use}
use Rattle.mark.specs.Survivors.{Marked}
use Rattle.copy.specs.Taking.{room-same}
use Rattle.copy.specs.Passing.{Ready}
use Rattle.mark.specs.MarkedWords.{owner-same, used-same, count_same}

module _ (s : Sizes) (w : Words) (k : WholeFor s w) (space : Room s (length w.tables)) (e : Part) (w₁ : Words) (M : Marked s w e w₁) where
  pub pages-same : (page : ℕ) → page < s.pages → SamePage s w.tables w₁.tables page
  pages-same page l = record { owner = owner-same M space page l; used = used-same M space page l }

  pub ready : Ready s w₁.cells w₁.tables
  ready =
      record {
        room = room-same M.kept.tables-length space;
        regular = regular-same pages-same (λ g pos low. count_same M space g) (whole-regular k);
        cells-long = omega (arith, k.sized.cells, M.kept.cells-length);
        used = λ c l on. kept-in-use M.kept space c (M.only c l on).0;
        waits = λ c l on. none-high page_cells (mark_of s w₁.tables (page_of c)) (page_cells + place_of c) (M.small (page_of c) l) (omega arith);
      }
