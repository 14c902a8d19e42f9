-- Where ask does not refuse, the cells are zero, the tables but for the five sizes, and the remember table but for N, and the chains.
use Rattle.std.proofs.Common.{refl, arith}
use Rattle.prepare.specs.Prepare.{asked-range, asked-five, prepared-done}
use Rattle.prepare.proofs.taldreku_prepare.Goals as goal

pub clear-requires-2 : goal.clear-requires-2
clear-requires-2 c =
    let args = c.args in
    let asked = c.in_default.ensures args.cells.now args.remember.now args.tables.now args.chains.now refl refl refl refl in
    (omega arith, omega (arith, (asked-range asked refl).1.tables, c.tables_words.ensures))

pub write_sizes-requires : goal.write_sizes-requires
write_sizes-requires c =
    let args = c.args in
    let asked = c.in_default.ensures args.cells.now args.remember.now args.tables.now args.chains.now refl refl refl refl in
    omega (arith, asked-five asked refl, c.clear-2.ensures.long)

pub remember_words-requires : goal.remember_words-requires
remember_words-requires c =
    let args = c.args in
    let asked = c.in_default.ensures args.cells.now args.remember.now args.tables.now args.chains.now refl refl refl refl in
    (asked-range asked refl).0

pub clear-requires-3 : goal.clear-requires-3
clear-requires-3 c =
    let args = c.args in
    let asked = c.in_default.ensures args.cells.now args.remember.now args.tables.now args.chains.now refl refl refl refl in
    (omega arith, omega (arith, (asked-range asked refl).1.remember, c.remember_words.ensures))

pub set_entries-requires : goal.set_entries-requires
set_entries-requires c =
    let args = c.args in
    let asked = c.in_default.ensures args.cells.now args.remember.now args.tables.now args.chains.now refl refl refl refl in
    omega (arith, (asked-range asked refl).1.remember, c.clear-3.ensures.long)

pub chains_words-requires : goal.chains_words-requires
chains_words-requires c =
    let args = c.args in
    let asked = c.in_default.ensures args.cells.now args.remember.now args.tables.now args.chains.now refl refl refl refl in
    (asked-range asked refl).0

pub clear-requires-4 : goal.clear-requires-4
clear-requires-4 c =
    let args = c.args in
    let asked = c.in_default.ensures args.cells.now args.remember.now args.tables.now args.chains.now refl refl refl refl in
    (omega arith, omega (arith, (asked-range asked refl).1.chains, c.chains_words.ensures))

pub returns : goal.returns
returns c =
    let args = c.args in
    let asked = c.in_default.ensures args.cells.now args.remember.now args.tables.now args.chains.now refl refl refl refl in
    prepared-done refl asked refl c.clear.ensures c.cells_words.ensures c.clear-2.ensures c.tables_words.ensures c.write_sizes.ensures
    c.clear-3.ensures c.remember_words.ensures c.set_entries.ensures c.clear-4.ensures c.chains_words.ensures
