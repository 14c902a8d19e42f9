use Rattle.std.proofs.Common.{rules}
use Rattle.layout.proofs.in_range.Goals as goal
use Rattle.layout.proofs.in_range.Goals.{then-contains, else-contains, then-contains-2, else-contains-2, then-contains-3, else-contains-3}

pub returns-then-contains-4 : goal.returns-then-contains-4
returns-then-contains-4 c =
    elim c.if-contains-3.branch [
      | then-contains-3 w ↦
          elim c.if-contains-2.branch [
            | then-contains-2 x ↦
                elim c.if-contains.branch [
                  | then-contains y ↦ search rules
                  | else-contains y ↦ search rules
                ]
            | else-contains-2 x ↦ search rules
          ]
      | else-contains-3 w ↦ search rules
    ]
