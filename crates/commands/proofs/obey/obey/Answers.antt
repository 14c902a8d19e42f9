-- Each arm by the promise of its command.
use Rattle.std.proofs.Common.{Ok, ap, ◌∙◌}
use Rattle.promises.proofs.Questions.{did-answer}
use Rattle.commands.specs.declared.Decoded.TheVariants.{Start, New, Copy, Clear, Load, Store, Read, Write, Same}
use Rattle.commands.specs.Obeys.{in-range, obeyed, ends, collects}
use Rattle.commands.proofs.NotObeyed.{not-obeyed}
use Rattle.commands.proofs.obey.obey.Goals as goal

pub start-requires-clause-t_lt_threads : goal.start-requires-clause-t_lt_threads
start-requires-clause-t_lt_threads c =
    let a = c.args in
    let arm = c.in-Ok-Start in
    in-range a.p a.cells.now a.remember.now a.tables.now a.m c.decode.result c.decode.ensures (Start arm.t) (arm.is ∙ ap Ok arm.field-0-is)

pub new_object-requires-clause-t_lt_threads : goal.new_object-requires-clause-t_lt_threads
new_object-requires-clause-t_lt_threads c =
    let a = c.args in
    let arm = c.in-Ok-New in
    in-range a.p a.cells.now a.remember.now a.tables.now a.m c.decode.result c.decode.ensures (New arm.t arm.a arm.b arm.c) (arm.is ∙ ap Ok arm.field-0-is)

pub copy-requires-clause-t_lt_threads : goal.copy-requires-clause-t_lt_threads
copy-requires-clause-t_lt_threads c =
    let a = c.args in
    let arm = c.in-Ok-Copy in
    in-range a.p a.cells.now a.remember.now a.tables.now a.m c.decode.result c.decode.ensures (Copy arm.t arm.a arm.b arm.c) (arm.is ∙ ap Ok arm.field-0-is)

pub clear-requires-clause-t_lt_threads : goal.clear-requires-clause-t_lt_threads
clear-requires-clause-t_lt_threads c =
    let a = c.args in
    let arm = c.in-Ok-Clear in
    in-range a.p a.cells.now a.remember.now a.tables.now a.m c.decode.result c.decode.ensures (Clear arm.t arm.a) (arm.is ∙ ap Ok arm.field-0-is)

pub load-requires-clause-t_lt_threads : goal.load-requires-clause-t_lt_threads
load-requires-clause-t_lt_threads c =
    let a = c.args in
    let arm = c.in-Ok-Load in
    in-range a.p a.cells.now a.remember.now a.tables.now a.m c.decode.result c.decode.ensures (Load arm.t arm.a arm.b arm.c) (arm.is ∙ ap Ok arm.field-0-is)

pub store-requires-clause-t_lt_threads : goal.store-requires-clause-t_lt_threads
store-requires-clause-t_lt_threads c =
    let a = c.args in
    let arm = c.in-Ok-Store in
    in-range a.p a.cells.now a.remember.now a.tables.now a.m c.decode.result c.decode.ensures (Store arm.t arm.a arm.b arm.c) (arm.is ∙ ap Ok arm.field-0-is)

pub read-requires-clause-t_lt_threads : goal.read-requires-clause-t_lt_threads
read-requires-clause-t_lt_threads c =
    let a = c.args in
    let arm = c.in-Ok-Read in
    in-range a.p a.cells.now a.remember.now a.tables.now a.m c.decode.result c.decode.ensures (Read arm.t arm.a arm.b) (arm.is ∙ ap Ok arm.field-0-is)

pub write-requires-clause-t_lt_threads : goal.write-requires-clause-t_lt_threads
write-requires-clause-t_lt_threads c =
    let a = c.args in
    let arm = c.in-Ok-Write in
    in-range a.p a.cells.now a.remember.now a.tables.now a.m c.decode.result c.decode.ensures (Write arm.t arm.a arm.b arm.c) (arm.is ∙ ap Ok arm.field-0-is)

pub same-requires-clause-t_lt_threads : goal.same-requires-clause-t_lt_threads
same-requires-clause-t_lt_threads c =
    let a = c.args in
    let arm = c.in-Ok-Same in
    in-range a.p a.cells.now a.remember.now a.tables.now a.m c.decode.result c.decode.ensures (Same arm.t arm.a arm.b) (arm.is ∙ ap Ok arm.field-0-is)

pub returns-in-Ok-Start-clause-obeys : goal.returns-in-Ok-Start-clause-obeys
returns-in-Ok-Start-clause-obeys c =
    let a = c.args in
    let arm = c.in-Ok-Start in
    obeyed a.p a.cells.now a.remember.now a.tables.now a.m c.decode.result c.decode.ensures (Start arm.t) (arm.is ∙ ap Ok arm.field-0-is)
    (did-answer c.into.ensures c.start.ensures.does)

pub returns-in-Ok-New-clause-obeys : goal.returns-in-Ok-New-clause-obeys
returns-in-Ok-New-clause-obeys c =
    let a = c.args in
    let arm = c.in-Ok-New in
    obeyed a.p a.cells.now a.remember.now a.tables.now a.m c.decode.result c.decode.ensures (New arm.t arm.a arm.b arm.c) (arm.is ∙ ap Ok arm.field-0-is)
    (did-answer c.into-in-Ok-New.ensures c.new_object.ensures.does)

pub returns-in-Ok-Copy-clause-obeys : goal.returns-in-Ok-Copy-clause-obeys
returns-in-Ok-Copy-clause-obeys c =
    let a = c.args in
    let arm = c.in-Ok-Copy in
    obeyed a.p a.cells.now a.remember.now a.tables.now a.m c.decode.result c.decode.ensures (Copy arm.t arm.a arm.b arm.c) (arm.is ∙ ap Ok arm.field-0-is)
    (did-answer c.into-in-Ok-Copy.ensures c.copy.ensures.does)

pub returns-in-Ok-Clear-clause-obeys : goal.returns-in-Ok-Clear-clause-obeys
returns-in-Ok-Clear-clause-obeys c =
    let a = c.args in
    let arm = c.in-Ok-Clear in
    obeyed a.p a.cells.now a.remember.now a.tables.now a.m c.decode.result c.decode.ensures (Clear arm.t arm.a) (arm.is ∙ ap Ok arm.field-0-is)
    (did-answer c.into-in-Ok-Clear.ensures c.clear.ensures.does)

pub returns-in-Ok-Load-clause-obeys : goal.returns-in-Ok-Load-clause-obeys
returns-in-Ok-Load-clause-obeys c =
    let a = c.args in
    let arm = c.in-Ok-Load in
    obeyed a.p a.cells.now a.remember.now a.tables.now a.m c.decode.result c.decode.ensures (Load arm.t arm.a arm.b arm.c) (arm.is ∙ ap Ok arm.field-0-is)
    (did-answer c.into-in-Ok-Load.ensures c.load.ensures.does)

pub returns-in-Ok-Store-clause-obeys : goal.returns-in-Ok-Store-clause-obeys
returns-in-Ok-Store-clause-obeys c =
    let a = c.args in
    let arm = c.in-Ok-Store in
    obeyed a.p a.cells.now a.remember.now a.tables.now a.m c.decode.result c.decode.ensures (Store arm.t arm.a arm.b arm.c) (arm.is ∙ ap Ok arm.field-0-is)
    (did-answer c.into-in-Ok-Store.ensures c.store.ensures.does)

pub returns-in-Ok-Read-clause-obeys : goal.returns-in-Ok-Read-clause-obeys
returns-in-Ok-Read-clause-obeys c =
    let a = c.args in
    let arm = c.in-Ok-Read in
    obeyed a.p a.cells.now a.remember.now a.tables.now a.m c.decode.result c.decode.ensures (Read arm.t arm.a arm.b) (arm.is ∙ ap Ok arm.field-0-is)
    (did-answer c.into-in-Ok-Read.ensures c.read.ensures)

pub returns-in-Ok-Write-clause-obeys : goal.returns-in-Ok-Write-clause-obeys
returns-in-Ok-Write-clause-obeys c =
    let a = c.args in
    let arm = c.in-Ok-Write in
    obeyed a.p a.cells.now a.remember.now a.tables.now a.m c.decode.result c.decode.ensures (Write arm.t arm.a arm.b arm.c) (arm.is ∙ ap Ok arm.field-0-is)
    (did-answer c.into-in-Ok-Write.ensures c.write.ensures)

pub returns-in-Ok-Same-clause-obeys : goal.returns-in-Ok-Same-clause-obeys
returns-in-Ok-Same-clause-obeys c =
    let a = c.args in
    let arm = c.in-Ok-Same in
    obeyed a.p a.cells.now a.remember.now a.tables.now a.m c.decode.result c.decode.ensures (Same arm.t arm.a arm.b) (arm.is ∙ ap Ok arm.field-0-is)
    (did-answer c.into-in-Ok-Same.ensures c.same.ensures)

pub returns-in-Ok-End-clause-obeys : goal.returns-in-Ok-End-clause-obeys
returns-in-Ok-End-clause-obeys c =
    let a = c.args in
    let arm = c.in-Ok-End in
    ends a.p a.cells.now a.remember.now a.tables.now a.m c.decode.result c.decode.ensures arm.t (arm.is ∙ ap Ok arm.field-0-is)

pub returns-in-Ok-Collect-clause-obeys : goal.returns-in-Ok-Collect-clause-obeys
returns-in-Ok-Collect-clause-obeys c =
    let a = c.args in
    let arm = c.in-Ok-Collect in
    collects a.p a.cells.now a.remember.now a.tables.now a.m c.decode.result c.decode.ensures arm.t (arm.is ∙ ap Ok arm.field-0-is)

pub returns-in-Err-clause-obeys : goal.returns-in-Err-clause-obeys
returns-in-Err-clause-obeys c =
    let a = c.args in
    not-obeyed a.p a.cells.now a.remember.now a.tables.now a.m c.decode.result c.decode.ensures c.requires.whole_for c.in-Err.refusal c.in-Err.is c.from.ensures
