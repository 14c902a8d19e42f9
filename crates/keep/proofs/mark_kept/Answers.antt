-- What all holders hold is pushed on an empty stack, and the stack is drained.
use Rattle.std.proofs.Common.{arith}
use Rattle.layout.specs.Words.{words}
use Rattle.mark.specs.Pushes.{pushing-kept, pushing-shaped}
use Rattle.mark.specs.Survivors.{shaped-at}
use Rattle.keep.specs.Others.{kept-used}
use Rattle.keep.specs.KeptByRules.{kept_refs, kept-pending, kept-marked}
use Rattle.keep.proofs.mark_kept.Goals as goal

pub push_variables-held-requires-clause-shaped : goal.push_variables-held-requires-clause-shaped
push_variables-held-requires-clause-shaped c =
    let args = c.args in
    let pre = c.requires in
    let w = words args.cells.now pre.0 args.tables.now in
    shaped-at args.p w pre.1 (omega arith)

pub push_others-top-requires : goal.push_others-top-requires
push_others-top-requires c =
    let args = c.args in
    let pre = c.requires in
    let s = shaped-at args.p (words args.cells.now pre.0 args.tables.now) pre.1 (omega arith) in
    let a = c.push_variables-held.ensures in record {
      shaped = pushing-shaped s a;
      by_index = λ page l. omega (arith, kept-used (pushing-kept s a) s.room page l, (pre.1.pages page l).filled.cells);
    }

pub drain-requires : goal.drain-requires
drain-requires c =
    let args = c.args in
    let pre = c.requires in
    let s = shaped-at args.p (words args.cells.now pre.0 args.tables.now) pre.1 (omega arith) in
    (args.cells.now, args.tables.now, kept_refs args.p args.cells.now args.tables.now, kept-pending s c.push_variables-held.ensures c.push_others-top.ensures)

pub returns : goal.returns
returns c =
    let args = c.args in
    let pre = c.requires in
    let s = shaped-at args.p (words args.cells.now pre.0 args.tables.now) pre.1 (omega arith) in
    let d = c.drain.ensures _ _ _ (kept-pending s c.push_variables-held.ensures c.push_others-top.ensures) in
    λ m k. kept-marked args.p (words args.cells.now m args.tables.now) k s d
