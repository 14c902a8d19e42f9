-- A cell is taken: three stores, one after the other.
use Rattle.std.proofs.Common.{arith, refl}
use Rattle.pages.specs.Pages.{took}
use Rattle.pages.proofs.take_cell.Goals as goal

pub returns : goal.returns
returns c =
    let args = c.args in
    let used = c.used-place in (
      omega (arith, c.cell_on.ensures, used.ensures),
      took args.p args.tables.now args.page refl used.ensures c.count-objects.ensures c.set_owner.ensures c.set_used.ensures c.set_count.ensures,
    )
