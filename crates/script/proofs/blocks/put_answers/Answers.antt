use Rattle.std.proofs.Common.{◌+◌, ◌*◌, ◌≤◌, ◌≡◌, ap, arith, length}
use Rattle.script.proofs.WritingLaws.{put-text}
use Rattle.script.specs.Blocks.{stacked, answer_line}
use Rattle.script.proofs.Stacked.{stack-none, stack-end, stack-answer}
use Rattle.script.proofs.blocks.put_answers.Goals as goal

pub loop-i-init : goal.loop-i-init
loop-i-init c = (omega arith, stack-none (answer_line c.args.answers.now) _ _)

pub loop-i-preserved : goal.loop-i-preserved
loop-i-preserved c =
    let i = c.loop-i.i in
    let number = (c.type_inv.answers (2 * i)).fits in
    let value = (c.type_inv.answers (2 * i + 1)).fits in
    let room : c.args.at + 22 * (i + 1) ≤ length c.args.out.now = omega arith in (
      stack-end c.args.answers.now i number value c.loop-i.invariant.0 room c.loop-i.invariant.1 c.put_row-end.ensures,
      stack-answer c.args.answers.now i number value c.loop-i.invariant.0 room c.loop-i.invariant.1 c.put_row-end.ensures,
    )

pub returns : goal.returns
returns c =
    let all : c.loop-i.i ≡ c.args.count = omega arith in
    (put-text (ap (stacked (answer_line c.args.answers.now)) all) c.loop-i.invariant.1, omega arith)
