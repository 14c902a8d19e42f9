-- Each case of what was read goes its own way.
use Rattle.std.proofs.Common.{◌+◌, ◌/◌, ◌<◌, refl, arith}
use Rattle.stages.specs.Stages.{filled}
use Rattle.stages.specs.StagesLaws.{line-length, proceeds-on, proceeds-broken}
use Rattle.stages.proofs.proceed.Goals as goal

pub returns-in-Done : goal.returns-in-Done
returns-in-Done c = record { proceeds = proceeds-on _ _ c.words_in.ensures c.in-Done.is; length_bound = omega arith }

pub returns-in-Broken : goal.returns-in-Broken
returns-in-Broken c =
    let args = c.args in
    let words-in = c.words_in in
    let put-line = c.put_line in
    let low : args.line + words-in.result / 5 < 18446744073709551616 = omega (arith, words-in.ensures, c.requires.0) in record {
      proceeds = proceeds-broken _ _ words-in.ensures c.in-Broken.is put-line.ensures;
      length_bound = omega (arith, put-line.ensures.end_is, line-length _ low);
    }

pub returns-in-Full : goal.returns-in-Full
returns-in-Full c = record { proceeds = filled c.in-Full.is refl refl; length_bound = omega arith }
