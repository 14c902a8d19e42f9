-- A variable is held for g if g is what it calls for.
use Rattle.mark.specs.Holders.{var-none, var-some}
use Rattle.mark.proofs.holders.variable_for.Goals as goal

pub returns-then-variable_calls-g : goal.returns-then-variable_calls-g
returns-then-variable_calls-g c =
    let args = c.args in
    var-none args.p args.tables.now args.thread args.outer args.g args.i _ c.variable_calls.ensures c.if-variable_calls-g.true

pub returns : goal.returns
returns c =
    let args = c.args in
    var-some args.p args.tables.now args.thread args.outer args.g args.i _ _ c.variable_calls.ensures c.if-variable_calls-g.false c.var.ensures
