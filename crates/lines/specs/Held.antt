-- The program's memory as the four lent slices.
use Rattle.std.specs.Prelude.{◌≡◌, refl}
use Rattle.std.proofs.Common.{◌∙◌}
use Rattle.promises.specs.Slices.{Slices, slices}
use Rattle.lines.specs.declared.lent.Memory.{Memory}

abbrev pub held : Memory → Slices
held m = slices m.cells.now m.remember.now m.tables.now m.chains.now

-- a caller that lends slices of its own finds in them what became of the memory
abbrev pub SameLent : Memory → Memory → Type 0
SameLent m m' =
    (m'.cells.ghost_name ≡ m.cells.ghost_name)
    × (m'.remember.ghost_name ≡ m.remember.ghost_name)
    × (m'.tables.ghost_name ≡ m.tables.ghost_name)
    × (m'.chains.ghost_name ≡ m.chains.ghost_name)

pub same-kept : (m : Memory) → SameLent m m
same-kept m = (refl, refl, refl, refl)

pub same-after : (m m' m'' : Memory) → SameLent m m' → SameLent m' m'' → SameLent m m''
same-after m m' m'' f g = (g.0 ∙ f.0, g.1 ∙ f.1, g.2 ∙ f.2, g.3 ∙ f.3)
