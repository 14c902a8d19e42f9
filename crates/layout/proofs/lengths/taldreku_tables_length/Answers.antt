use Rattle.std.proofs.Common.{arith}
use Rattle.std.proofs.lemmas.Grind.{common_steps}
use Rattle.layout.proofs.lengths.taldreku_tables_length.Goals as goal
use Rattle.layout.proofs.lengths.taldreku_tables_length.Goals.{else-contains-via-then-contains+then-contains-2+then-contains-3+else-contains-4, else-contains-via-then-contains+then-contains-2+else-contains-3, else-contains-via-then-contains+else-contains-2, else-contains-via-else-contains}

pub returns-else-contains : goal.returns-else-contains
returns-else-contains c =
    elim c.else-contains.branch [
      | else-contains-via-then-contains+then-contains-2+then-contains-3+else-contains-4 w ↦ grind (arith, common_steps)
      | else-contains-via-then-contains+then-contains-2+else-contains-3 w ↦ grind (arith, common_steps)
      | else-contains-via-then-contains+else-contains-2 w ↦ grind (arith, common_steps)
      | else-contains-via-else-contains w ↦ grind (arith, common_steps)
    ]
