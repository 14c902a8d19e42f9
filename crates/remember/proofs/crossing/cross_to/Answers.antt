-- The word at a position is a slot where its cell is in use and the word is one of its references.
use Rattle.lists.specs.Says.{said-no}
use Rattle.remember.proofs.Crosses.{cross-unused, cross-other, cross-read}
use Rattle.remember.proofs.crossing.cross_to.Goals as goal

pub returns-then-used-place_of : goal.returns-then-used-place_of
returns-then-used-place_of c =
    let args = c.args in
    let cell-of = c.cell_of-cell in
    cross-unused args.p args.cells.now args.tables.now args.at cell-of.result cell-of.ensures c.page_of-page.ensures c.place_of.ensures c.used-used.ensures c.if-used-place_of.true

pub returns-then-not-is_reference : goal.returns-then-not-is_reference
returns-then-not-is_reference c =
    let args = c.args in
    let cell-of = c.cell_of-cell in
    cross-other args.p args.cells.now args.tables.now args.at cell-of.result cell-of.ensures c.word_of.ensures c.head-head.ensures (said-no _ c.is_reference.ensures c.if-not-is_reference.true)

pub returns : goal.returns
returns c =
    let page-of = c.page_of-page in
    let used = c.used-used in
    let place_of = c.place_of in
    let if1 = c.if-used-place_of in
    let head = c.head-head in
    let word_of = c.word_of in
    let is-reference = c.is_reference in
    let if2 = c.if-not-is_reference in
    let owner = c.owner-owner in
    let args = c.args in
    let cell-of = c.cell_of-cell in
    cross-read args.p args.cells.now args.tables.now args.at cell-of.result cell-of.ensures page-of.ensures place_of.ensures used.ensures word_of.ensures head.ensures
    owner.ensures c.region_of.ensures c.other_region.ensures c.requires.at_bound if1.false (is-reference.ensures.0 if2.false)
