-- The buffers are as long as the loop asks.
use Rattle.std.proofs.Common.{ℕ}
use Rattle.std.proofs.Math.ListN.{length-replicate}
use Rattle.stream.proofs.serve.Goals as goal

pub go_on-requires : goal.go_on-requires
go_on-requires g c = record { buffers = record { piece-room = length-replicate {A = ℕ} 16384 0; text-room = length-replicate {A = ℕ} 36084 0 } }
