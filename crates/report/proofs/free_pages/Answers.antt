-- The pages that no region owns.
use Rattle.std.proofs.Common.{arith}
use Rattle.promises.specs.OwnedPages.{owned-few}
use Rattle.report.specs.Tables.{tables-room-of}
use Rattle.report.proofs.free_pages.Goals as goal

pub owned_pages-requires : goal.owned_pages-requires
owned_pages-requires c =
    let a = c.args in
    tables-room-of a.p a.tables.now c.requires (omega arith)

pub overflow_cast-result : goal.overflow_cast-result
overflow_cast-result c =
    let a = c.args in
    omega (arith, c.owned_pages.ensures, owned-few a.p a.tables.now 0 a.p.pages, (tables-room-of a.p a.tables.now c.requires (omega arith)).few)
