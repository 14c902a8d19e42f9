-- A page is found, its first unused cell taken and written, and the variable names it.
use Rattle.std.proofs.Common.{◌≡◌, ◌<◌, ℕ, set, sym, ap, ◌∙◌, subst, arith}
use Rattle.std.specs.Prelude.{Some, None}
use Rattle.std.proofs.lemmas.Result.{err_from_is_err_and}
use Rattle.rules.specs.declared.Refusal.TheVariants.{Pages}
use Rattle.pages.specs.Pages.{Found}
use Rattle.layout.specs.Places.{Room}
use Rattle.layout.specs.Cells.{head_at}
use Rattle.layout.specs.Words.{words}
use Rattle.promises.specs.Reading.{whole_room}
use Rattle.commands.specs.ThreadVariables.{variable_at}
use Rattle.commands.specs.Making.{region-real, region-filled, can-take, new-refused, new-noted, new-done}
use Rattle.commands.proofs.new.new_object.Goals as goal
use Rattle.commands.proofs.new.new_object.Goals.{In_ok-page}

pub innermost-region-requires-clause-room : goal.innermost-region-requires-clause-room
innermost-region-requires-clause-room c =
    let args = c.args in
    whole_room args.p (words args.cells.now args.remember.now args.tables.now) c.requires.whole_for (omega arith)

pub page_for-requires-clause-room : goal.page_for-requires-clause-room
page_for-requires-clause-room c =
    let args = c.args in
    whole_room args.p (words args.cells.now args.remember.now args.tables.now) c.requires.whole_for (omega arith)

pub page_for-requires-clause-le_region : goal.page_for-requires-clause-le_region
page_for-requires-clause-le_region c =
    let args = c.args in
    let innermost = c.innermost-region in
    let real = region-real args.p args.cells.now args.remember.now args.tables.now c.requires.whole_for args.t c.requires.t_lt_threads.0 innermost.result innermost.ensures in
    (real.0, real.1, region-filled args.p args.cells.now args.remember.now args.tables.now c.requires.whole_for args.t c.requires.t_lt_threads.0 innermost.result innermost.ensures)

pub returns-in_err-page-clause-does : goal.returns-in_err-page-clause-does
returns-in_err-page-clause-does c =
    let args = c.args in
    let innermost = c.innermost-region in
    let none : c.page_for.result ≡ None = grind arith in
    let exit = err_from_is_err_and c.from_residual.result c.from_residual.ensures.1 in
    let pages : c.in_err-page.field-0.0 ≡ Pages = grind arith in
    let found = rw none at c.page_for.ensures.found in
    rw (exit.1, exit.2, pages)
    (new-refused args.p args.cells.now args.remember.now args.tables.now c.requires.whole_for args.t c.requires.t_lt_threads.0 innermost.result
    innermost.ensures args.a args.b args.c c.requires.t_lt_threads.1 c.requires.t_lt_threads.2 args.p.pages found (omega arith))

-- the page that was found
there : (c : In_ok-page) → (let a = c.args in Found a.p a.tables.now c.innermost-region.result c.in_ok-page.page × (c.in_ok-page.page < a.p.pages))
there c =
    let some : c.page_for.result ≡ Some c.in_ok-page.page = grind arith in
    (rw some at c.page_for.ensures.found, rw some at c.page_for.ensures.page)

pub take_cell-cell-requires-clause-room : goal.take_cell-cell-requires-clause-room
take_cell-cell-requires-clause-room c =
    let args = c.args in
    whole_room args.p (words args.cells.now args.remember.now args.tables.now) c.requires.whole_for (omega (arith, c.well_formed.1.1.1.0))

pub take_cell-cell-requires-clause-le_region : goal.take_cell-cell-requires-clause-le_region
take_cell-cell-requires-clause-le_region c =
    let args = c.args in
    let innermost = c.innermost-region in
    let page = there (goal.at.take_cell-cell-requires-clause-le_region c).In_ok-page in
    let real = region-real args.p args.cells.now args.remember.now args.tables.now c.requires.whole_for args.t c.requires.t_lt_threads.0 innermost.result innermost.ensures in
    let take =
    can-take args.p args.cells.now args.remember.now args.tables.now c.requires.whole_for args.t c.requires.t_lt_threads.0 innermost.result innermost.ensures
    c.in_ok-page.page page.0 page.1 in
    (real.0, real.1, take.1)

pub count_made-requires : goal.count_made-requires
count_made-requires c =
    let args = c.args in
    subst (Room args.p) (sym c.take_cell-cell.auto.tables)
    (whole_room args.p (words args.cells.now args.remember.now args.tables.now) c.requires.whole_for (omega (arith, c.well_formed.1.1.1.0)))

pub write_var-requires-clause-room : goal.write_var-requires-clause-room
write_var-requires-clause-room c =
    let args = c.args in
    subst (Room args.p) (sym (c.count_made.auto.tables ∙ c.take_cell-cell.auto.tables))
    (whole_room args.p (words args.cells.now args.remember.now args.tables.now) c.requires.whole_for (omega (arith, c.well_formed.1.1.1.0)))

pub returns-clause-does : goal.returns-clause-does
returns-clause-does c =
    let args = c.args in
    let innermost = c.innermost-region in
    let page = there (goal.at.returns-clause-does c).In_ok-page in
    let take-cell = c.take_cell-cell in
    let count-made = c.count_made in
    let head-word = c.head_word in
    let set-head = c.set_head in
    let write-var = c.write_var in
    let named = write-var.ensures ∙ ap (λ (x : ℕ). set count-made.new.tables (variable_at args.p args.t args.a) x) c.ref_to.ensures in
    let head = set-head.ensures ∙ ap (λ (x : ℕ). set args.cells.now (head_at take-cell.result) x) head-word.ensures in
    new-done args.p args.cells.now args.remember.now args.tables.now c.requires.whole_for args.t c.requires.t_lt_threads.0 innermost.result
    innermost.ensures args.a args.b args.c c.requires.t_lt_threads.1 c.requires.t_lt_threads.2 c.in_ok-page.page page.0 page.1
    take-cell.result take-cell.ensures.0 take-cell.new.tables take-cell.ensures.1 count-made.new.tables count-made.ensures
    set-head.new.cells head named

pub returns-clause-noted_2 : goal.returns-clause-noted_2
returns-clause-noted_2 c =
    let args = c.args in
    let innermost = c.innermost-region in
    let page = there (goal.at.returns-clause-noted_2 c).In_ok-page in
    let take-cell = c.take_cell-cell in
    let count-made = c.count_made in
    let head-word = c.head_word in
    let set-head = c.set_head in
    let write-var = c.write_var in
    let named = write-var.ensures ∙ ap (λ (x : ℕ). set count-made.new.tables (variable_at args.p args.t args.a) x) c.ref_to.ensures in
    let head = set-head.ensures ∙ ap (λ (x : ℕ). set args.cells.now (head_at take-cell.result) x) head-word.ensures in
    new-noted args.p args.cells.now args.remember.now args.tables.now c.requires.whole_for args.t c.requires.t_lt_threads.0 innermost.result
    innermost.ensures args.a args.b args.c c.requires.t_lt_threads.1 c.requires.t_lt_threads.2 c.in_ok-page.page page.0 page.1
    take-cell.result take-cell.ensures.0 take-cell.new.tables take-cell.ensures.1 count-made.new.tables count-made.ensures
    set-head.new.cells head named c.page_for.ensures.noted_2
