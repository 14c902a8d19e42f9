-- Words with one list changed, and heaps with one thing changed: the terms in which the frame lemmas speak.
use Rattle.std.specs.Prelude.{ℕ, zero, suc, ◌≡◌, refl, List, [], ◌∷◌, ◌++◌, set}
use Rattle.rules.specs.NeverFreeing.{Object}
use Rattle.rules.specs.Rules.{Regioned, one_made, taken_by}
use Rattle.laws.specs.SameRules.{renamed}
use Rattle.layout.specs.declared.Kind.{Kind}
use Rattle.layout.specs.declared.Kind.TheVariants.{Reference, Number}
use Rattle.layout.specs.Words.{Words}

abbrev pub with_tables : Words → List ℕ → Words
with_tables w t = record { cells = w.cells; remember = w.remember; tables = t }

abbrev pub with_cells : Words → List ℕ → Words
with_cells w c = record { cells = c; remember = w.remember; tables = w.tables }

-- variable i, counted through all threads, becomes u
abbrev pub with_variable : Regioned → ℕ → ℕ → Regioned
with_variable h i u = record { heap = record { depths = h.heap.depths; vars = set h.heap.vars i u; objects = h.heap.objects }; homes = h.homes; counters = h.counters; occupancy = h.occupancy }

-- thread t gets depth d
abbrev pub with_depth : Regioned → ℕ → ℕ → Regioned
with_depth h t d = record { heap = record { depths = set h.heap.depths t d; vars = h.heap.vars; objects = h.heap.objects }; homes = h.homes; counters = h.counters; occupancy = h.occupancy }

-- object x becomes o
abbrev pub with_object : Regioned → ℕ → Object → Regioned
with_object h x o = record { heap = record { depths = h.heap.depths; vars = h.heap.vars; objects = set h.heap.objects x o }; homes = h.homes; counters = h.counters; occupancy = h.occupancy }

-- object o with field f of a kind changed to u
abbrev pub with_field : Kind → Object → ℕ → ℕ → Object
with_field Reference o f u = record { refs = set o.refs f u; nums = o.nums }
with_field Number o f u = record { refs = o.refs; nums = set o.nums f u }

-- object o is appended, in region g
abbrev pub with_new : Regioned → Object → ℕ → Regioned
with_new h o g = record { heap = record { depths = h.heap.depths; vars = h.heap.vars; objects = h.heap.objects ++ o ∷ [] }; homes = h.homes ++ g ∷ []; counters = one_made h.counters; occupancy = taken_by h.occupancy g }

-- ---- references, renamed

pub renamed-same : (u : ℕ) → renamed (λ x. x) u ≡ u
renamed-same zero = refl
renamed-same (suc x) = refl
