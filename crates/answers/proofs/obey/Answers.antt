-- The block is what was read, and there is always room for another command.
use Rattle.std.proofs.Common.{ℕ, ◌+◌, ◌/◌, ◌<◌, ◌∙◌, arith}
use lib.ListN.{length-replicate}
use Rattle.lines.specs.Lines.{Holds}
use Rattle.answers.specs.Obeying.{was_read, was-few, few-counted, never, obeyed}
use Rattle.answers.proofs.obey.Goals as goal

pub answer-end-requires : goal.answer-end-requires
answer-end-requires c =
    let room = c.requires.room.0 in
    let read = was_read room c.read_block-filled.ensures (length-replicate {A = ℕ} 8200 0) in
    let few = was-few read c.words_in-used.ensures in record {
      counted = (few-counted few (c.read_block-filled.auto.block ∙ length-replicate {A = ℕ} 8200 0) room);
      here = c.requires.here;
    }

pub proceed-requires : goal.proceed-requires
proceed-requires c =
    let room = c.requires.room.0 in
    let read = was_read room c.read_block-filled.ensures (length-replicate {A = ℕ} 8200 0) in
    let few = was-few read c.words_in-used.ensures in
    omega (arith, few.few, c.words_in-used.ensures, c.answer-end.ensures.upper_bound, c.requires.room.1, room.piece, room.text-room)

pub returns : goal.returns
unfolding Holds
returns c =
    let args = c.args in
    let read-block = c.read_block-filled in
    let words-in = c.words_in-used in
    let answer = c.answer-end in
    let proceed = c.proceed in
    let room = c.requires.room.0 in
    let read = was_read room read-block.ensures (length-replicate {A = ℕ} 8200 0) in
    let few = was-few read words-in.ensures in
    let low : args.line + words-in.result / 5 < 18446744073709551616 = omega (arith, few.few, c.requires.room.1, room.piece) in record {
      feeds = λ s h l. obeyed read s h args.line words-in.result words-in.ensures (few-counted few (read-block.auto.block ∙ length-replicate {A = ℕ} 8200 0) room) (answer.ensures.by_index s h l.0 l.1 l.2) args.memory.now.lent (λ i n e. never room read-block.ensures (length-replicate {A = ℕ} 8200 0) e) (omega (arith, few.few, answer.ensures.upper_bound, room.text-room)) low proceed.ensures.proceeds;
      length_bound = omega (arith, few.few, answer.ensures.upper_bound, proceed.ensures.length_bound);
      same_lent = answer.ensures.same_lent;
    }
