use Rattle.std.proofs.Common.{ℕ, ◌+◌, set, ap, ◌∙◌}
use Rattle.rules.specs.Rules.{counted}
use Rattle.layout.specs.Places.{made_at}
use Rattle.commands.proofs.new.count_made.Goals as goal

pub returns : goal.returns
unfolding counted
returns c =
    let args = c.args in
    c.set_made.ensures
    ∙ ap (λ (n : ℕ). set args.tables.now (made_at args.p) (counted (n + 1))) c.made-made.ensures
