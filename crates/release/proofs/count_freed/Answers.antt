use Rattle.std.proofs.Common.{ℕ, ◌+◌, set, ap, ◌∙◌}
use Rattle.rules.specs.Rules.{counted}
use Rattle.layout.specs.Places.{freed_at}
use Rattle.release.proofs.count_freed.Goals as goal

pub returns : goal.returns
unfolding counted
returns c =
    let a = c.args in
    c.set_freed.ensures ∙ ap (λ (x : ℕ). set a.tables.now (freed_at a.p) (counted (x + a.n))) c.freed-freed.ensures
