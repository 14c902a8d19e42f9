-- An end as a part of the words: the pages that go, and where the object in a cell of theirs goes. The end of one region is an instance, and
-- with the control space for the region a collection (02, W5).
use Rattle.std.specs.Prelude.{ℕ, ◌<◌, ◌≡◌, ◌⊎◌}
use Rattle.std.proofs.Math.Decide.{ℕ_discrete}
use Rattle.std.proofs.Common.{inl, inr}
use Rattle.std.proofs.Math.Logic.{by_cases}
use Rattle.rules.specs.declared.Sizes.{Sizes}
use Rattle.rules.specs.Graph.{target}
use Rattle.layout.specs.Cells.{page_of}
use Rattle.layout.specs.Words.{Words, BeginsIn, owner_in, graph_of}

-- `goes` is the region that the object in a cell of an ending page goes to, 0 if it is freed
pub record Part : Type 1 where
  pub ends : ℕ → Type 0
  pub ends? : (page : ℕ) → Dec (ends page)
  pub goes : ℕ → ℕ

-- the end of region r: its pages, and the targets of the rules
abbrev pub part_of : Sizes → Words → ℕ → Part
part_of s w r = record { ends = λ page. owner_in s w page ≡ r; ends? = λ page. ℕ_discrete (owner_in s w page) r; goes = target s (graph_of s w) r }

-- cell c holds an object outside the part
pub record Outside (s : Sizes) (w : Words) (e : Part) (c : ℕ) : Type 0 where
  pub used : BeginsIn s w c
  pub out : e.ends (page_of c) → ⊥

-- cell c holds an object of the part that goes to some region
pub record Survivor (s : Sizes) (w : Words) (e : Part) (c : ℕ) : Type 0 where
  pub used : BeginsIn s w c
  pub within : e.ends (page_of c)
  pub goes : 0 < e.goes c

-- cell c holds an object that is there after the end
pub record Lives (s : Sizes) (w : Words) (e : Part) (c : ℕ) : Type 0 where
  pub used : BeginsIn s w c
  pub goes : e.ends (page_of c) → 0 < e.goes c

module _ {s : Sizes} {w : Words} {e : Part} {c : ℕ} where
  pub outside-lives : Outside s w e c → Lives s w e c
  outside-lives o = record { used = o.used; goes = λ z. absurd (o.out z) }

  pub survivor-lives : Survivor s w e c → Lives s w e c
  survivor-lives v = record { used = v.used; goes = λ z. v.goes }

  pub lives-how : Lives s w e c → Outside s w e c ⊎ Survivor s w e c
  lives-how l =
      by_cases (e.ends? (page_of c)) (λ z. inr (record { used = l.used; within = z; goes = l.goes z })) (λ n. inl (record { used = l.used; out = n }))
