-- The first entry of a region from a place on, and the next word of an entry.
use Prim.Native.Nat.{ℕ}
use Rattle.std.specs.Prelude.{List, drop}
use Rattle.std.proofs.Math.ListN.{get_or}
use Rattle.remember.specs.Table.{Entry}
use Rattle.chains.specs.Chains.{first_of, nexts_of}

-- the first entry of region g from place i on
abbrev pub first_from : ℕ → List Entry → ℕ → ℕ
first_from g es i = first_of g i (drop i es)

-- the next word of entry i
abbrev pub next_of : List Entry → ℕ → ℕ
next_of es i = get_or (nexts_of 0 es) i 0
