-- A line that has not begun leaves nothing.
use Rattle.stages.specs.StagesLaws.{told-begun}
use Rattle.stages.proofs.has_begun.Goals as goal

pub returns : goal.returns
returns c = let e = told-begun c.args.reader in cc
