-- The search for a page. Invariant: below `page` the region has no partly filled page, and `last` is the last free page passed.
use Rattle.std.proofs.Common.{◌<◌}
use Rattle.std.specs.Prelude.{IfSome}
use Rattle.pages.specs.Pages.{page_or, Fresh}
use Rattle.pages.proofs.find_page.Given as goal

abbrev pub invariant-loop-page : goal.invariant-loop-page
invariant-loop-page l = record {
  fresh : Fresh l.p l.tables l.region l.page (page_or l.p l.last);
  low : IfSome l.last (λ page. page < l.p.pages);
}
