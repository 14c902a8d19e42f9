-- The page that the pass is at has room and is next, or another is found.
use Rattle.std.proofs.Common.{arith, refl, ℕ, ◌<◌, Option, Some, None, IsSome}
use Rattle.rules.specs.declared.Sizes.{Sizes}
use Rattle.pages.specs.Pages.{page_or, regular-filled}
use Rattle.copy.specs.Cursor.{found-next, points-next}
use Rattle.copy.proofs.next_page.Goals as goal

-- a page was found
is_found : (p : Sizes) (r : Option ℕ) → page_or p r < p.pages → IsSome r
is_found p (Some x) l = refl
is_found p None l = absurd (omega arith)

pub returns-then-used-clause-next : goal.returns-then-used-clause-next
returns-then-used-clause-next c = points-next c.requires.seeking (omega (arith, c.used.ensures))

pub page_for-requires-clause-le_region : goal.page_for-requires-clause-le_region
page_for-requires-clause-le_region c =
    let a = c.requires.seeking in
    (a.real, a.low, regular-filled a.regular c.args.region a.real a.low)

pub unwrap-requires : goal.unwrap-requires
unwrap-requires c =
    is_found c.args.p _ (found-next c.requires.seeking.regular c.requires.seeking.usable c.page_for.ensures.found).low
