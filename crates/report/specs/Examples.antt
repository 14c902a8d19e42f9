-- Reports that the checker computes: of 01's sample run, of its heap before the end of the epoch, of one in which a slot of an object
-- that nobody reaches is crossing, and of one after an end that frees two of three objects.
use Rattle.std.specs.Prelude.{◌≡◌, ℕ, List, [], ◌∷◌, map, length, refl}
use Rattle.lists.specs.Members
use Rattle.lists.specs.Listed
use Rattle.rules.specs.declared.Sizes.{Sizes}
use Rattle.rules.specs.declared.Command.{Command}
use Rattle.rules.specs.Terms
use Rattle.rules.specs.NeverFreeing as nf
use Rattle.rules.specs.Flow as fl
use Rattle.rules.specs.Regions as rg
use Rattle.rules.specs.Graph as gr
use Rattle.rules.specs.Rules as ru
use Rattle.report.specs.declared.Row.{Row}
use Rattle.report.specs.declared.Reported.{Reported}
use Rattle.report.specs.Report as re

-- what a report into a list without spare rows gives and leaves
pub record Outcome : Type 0 where
  pub result : Reported
  pub left : List Row

pub record Case : Type 0 where
  pub script : List Command
  pub expected : Outcome

abbrev small : Sizes
small = record { threads = 2; variables = 4; depth = 2; pages = 8; entries = 4 }

abbrev do' : ℕ → ℕ → ℕ → ℕ → ℕ → Command
do' k t a b c = record { code = k; thread = t; a = a; b = b; c = c }

abbrev row : ℕ → ℕ → ℕ → ℕ → Row
row t k n p = record { thread = t; level = k; objects = n; pages = p }

-- a script, the rows, and the five figures
abbrev case' : List Command → List Row → ℕ → ℕ → ℕ → ℕ → ℕ → Case
case' ms rs f x m d n =
    record {
      script = ms;
      expected = record {
        result = record { number = 0; rows = length rs; free_pages = f; crossing_slots = x; made = m; freed = d; total = n };
        left = rs;
      };
    }

abbrev cases : List Case
cases =
    -- the sample run
    case'
    (do' 1 0 0 0 0 ∷ do' 3 0 0 1 1 ∷ do' 3 0 1 0 1 ∷ do' 9 0 1 0 77 ∷ do' 7 0 0 0 1 ∷ do' 3 1 0 1 0 ∷ do' 5 0 1 0 0 ∷ do' 2 0 0 0 0 ∷ do' 6 0 2 0 0 ∷ do' 8 0 2 0 0 ∷ [])
    (row 0 0 3 1 ∷ []) 7 0 3 0 3
    -- before its epoch ends
    ∷ case'
    (do' 1 0 0 0 0 ∷ do' 3 0 0 1 1 ∷ do' 3 0 1 0 1 ∷ do' 9 0 1 0 77 ∷ do' 7 0 0 0 1 ∷ do' 3 1 0 1 0 ∷ do' 5 0 1 0 0 ∷ [])
    (row 0 0 1 1 ∷ row 0 1 2 1 ∷ []) 6 0 3 0 3
    -- an object of the control space points into an epoch and is dropped; two epochs of the other thread are open and empty
    ∷ case'
    (do' 3 0 0 1 0 ∷ do' 1 0 0 0 0 ∷ do' 3 0 1 0 0 ∷ do' 7 0 0 0 1 ∷ do' 5 0 0 0 0 ∷ do' 1 1 0 0 0 ∷ do' 1 1 0 0 0 ∷ [])
    (row 0 0 1 1 ∷ row 0 1 1 1 ∷ row 1 1 0 0 ∷ row 1 2 0 0 ∷ []) 6 1 2 0 2
    -- one object of the control space, and an epoch of two that nothing outside holds; it ends
    ∷ case'
    (do' 3 0 0 1 0 ∷ do' 1 0 0 0 0 ∷ do' 3 0 1 1 0 ∷ do' 3 0 2 0 0 ∷ do' 7 0 1 0 2 ∷ do' 5 0 1 0 0 ∷ do' 5 0 2 0 0 ∷ do' 2 0 0 0 0 ∷ [])
    (row 0 0 1 1 ∷ []) 7 0 3 2 1
    ∷ []

abbrev outcome : Case → Outcome
outcome k =
    let h = (ru.run small (ru.unused small) k.script).last in
    record { result = re.result_of small h 0; left = re.left_of small h [] 0 }

pub reports : map outcome cases ≡ map (λ k. k.expected) cases
unfolding
    Terms.ask nf.empty nf.most_fields nf.operands nf.state nf.question nf.effect nf.value
    fl.join_calls fl.called fl.rounds fl.flow
    rg.region_at rg.parent rg.join_case rg.join Members.keep Members.tally Listed.listed gr.slots_of gr.slots_below gr.slots gr.vars_from gr.calls gr.inside gr.remembered gr.crossing gr.objects_in gr.freed_by gr.free_pages gr.new_pages
    ru.counted ru.counters_after ru.unused ru.moved ru.ended ru.homes_after ru.after ru.room ru.question ru.answered ru.step ru.run
    re.is_open re.open_regions re.rows re.total_of
reports = refl
