-- The commands are obeyed, and their answers written.
use Rattle.std.proofs.Common.{ℕ, sym, arith, length-take-le}
use lib.ListN.{length-replicate}
use Rattle.lines.specs.Held.{same-kept}
use Rattle.answers.specs.Answering.{answered}
use Rattle.answers.proofs.answer.Goals as goal

pub returns : goal.returns
returns c =
    let args = c.args in
    let taldreku-run = c.taldreku_run in
    let put-answers = c.put_answers in record {
      by_index = answered args.used c.requires.counted (length-replicate {A = ℕ} 3278 0) taldreku-run.ensures put-answers.ensures.0;
      upper_bound = omega (arith, put-answers.ensures.1);
      same_lent = same-kept args.memory.now;
    }
