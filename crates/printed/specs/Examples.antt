-- What the program prints for 01's sample and for texts that stop it, computed from the definitions.
use Rattle.std.specs.Prelude.{ℕ, ◌≡◌, refl, List, [], ◌∷◌, ◌++◌, map}
use Rattle.lists.specs.Members as Members
use Rattle.lists.specs.Listed as Listed
use Rattle.rules.specs.Terms as Terms
use Rattle.rules.specs.NeverFreeing as nf
use Rattle.rules.specs.Flow as fl
use Rattle.rules.specs.Regions as rg
use Rattle.rules.specs.Graph as gr
use Rattle.rules.specs.Rules as ru
use Rattle.report.specs.Report as re
use Rattle.script.specs.Text as tx
use Rattle.script.specs.Writing as wr
use Rattle.script.specs.Writing.{row, sizes_line, line_line}
use Rattle.printed.specs.Printed as pt
use Rattle.printed.specs.Printed.{printed}

-- lines of numbers as text
unfoldable pub text : List (List ℕ) → List ℕ
text [] = []
text (l ∷ ls) = row l ++ text ls

abbrev pub line : ℕ → ℕ → ℕ → ℕ → ℕ → List ℕ
line a b c d e = a ∷ b ∷ c ∷ d ∷ e ∷ []

abbrev pub pair : ℕ → ℕ → List ℕ
pair a b = a ∷ b ∷ []

abbrev pub counters : ℕ → ℕ → ℕ → List ℕ
counters made freed total = made ∷ freed ∷ total ∷ []

abbrev pub table : List (List ℕ × List ℕ)
table =
    -- 01's sample
    (
      text (line 2 4 2 8 4 ∷ line 1 0 0 0 0 ∷ line 3 0 0 1 1 ∷ line 3 0 1 0 1 ∷ line 9 0 1 0 77 ∷ line 7 0 0 0 1 ∷ line 3 1 0 1 0 ∷ line 5 0 1 0 0 ∷ line 2 0 0 0 0 ∷ line 6 0 2 0 0 ∷ line 8 0 2 0 0 ∷ []),
      text (pair 0 0 ∷ pair 0 0 ∷ pair 0 0 ∷ pair 0 0 ∷ pair 0 0 ∷ pair 0 0 ∷ pair 0 0 ∷ pair 0 0 ∷ pair 0 1 ∷ pair 0 77 ∷ (0 ∷ 0 ∷ 3 ∷ 1 ∷ []) ∷ pair 7 0 ∷ counters 3 0 3 ∷ []),
    )
    -- nothing, four sizes, 33 pages, 1,025 remember entries
    ∷ ([], sizes_line)
    ∷ (text ((2 ∷ 4 ∷ 2 ∷ 8 ∷ []) ∷ []), sizes_line)
    ∷ (text (line 2 4 2 33 4 ∷ line 1 0 0 0 0 ∷ []), sizes_line)
    ∷ (text (line 2 4 2 32 1025 ∷ []), sizes_line)
    -- no command; a last line without its line feed
    ∷ (text (line 2 4 2 32 1024 ∷ []), text ((0 ∷ 0 ∷ 0 ∷ 0 ∷ []) ∷ pair 32 0 ∷ counters 0 0 0 ∷ []))
    ∷ (text (line 1 1 1 1 0 ∷ []) ++ (49 ∷ 32 ∷ 48 ∷ 32 ∷ 48 ∷ 32 ∷ 48 ∷ 32 ∷ 48 ∷ []), text (pair 0 0 ∷ (0 ∷ 0 ∷ 0 ∷ 0 ∷ []) ∷ (0 ∷ 1 ∷ 0 ∷ 0 ∷ []) ∷ pair 1 0 ∷ counters 0 0 0 ∷ []))
    -- of two objects the end of an epoch frees one
    ∷ (
      text (line 1 2 1 2 0 ∷ line 3 0 0 0 0 ∷ line 1 0 0 0 0 ∷ line 3 0 1 0 0 ∷ line 5 0 1 0 0 ∷ line 2 0 0 0 0 ∷ []),
      text (pair 0 0 ∷ pair 0 0 ∷ pair 0 0 ∷ pair 0 0 ∷ pair 0 0 ∷ (0 ∷ 0 ∷ 1 ∷ 1 ∷ []) ∷ pair 1 0 ∷ counters 2 1 1 ∷ []),
    )
    -- line 3 is malformed: the answer before it stands, no report follows
    ∷ (text (line 1 1 1 1 0 ∷ line 2 0 0 0 0 ∷ (1 ∷ 0 ∷ []) ∷ line 1 0 0 0 0 ∷ []), text (pair 12 0 ∷ []) ++ line_line 3)
    ∷ []

pub examples : map (λ (e : List ℕ × List ℕ). printed e.0) table ≡ map (λ (e : List ℕ × List ℕ). e.1) table
unfolding
    text Terms.ask nf.empty nf.most_fields nf.operands nf.state nf.question nf.effect nf.value
    fl.join_calls fl.called fl.rounds fl.flow
    rg.region_at rg.parent rg.join_case rg.join Members.keep Members.tally Listed.listed gr.slots_of gr.slots_below gr.slots gr.vars_from gr.calls gr.inside gr.remembered gr.crossing gr.objects_in gr.freed_by gr.free_pages gr.new_pages
    ru.counted ru.counters_after ru.unused ru.moved ru.ended ru.homes_after ru.after ru.room ru.question ru.answered ru.step ru.run
    re.is_open re.open_regions re.rows re.total_of
    tx.onto tx.lines tx.parts tx.digits_only tx.value_from tx.numbers_only wr.spelt wr.row
    pt.accepted pt.rows_text pt.reported pt.takes pt.prints pt.takes_all pt.prints_all pt.ends_with pt.printed
examples = refl
