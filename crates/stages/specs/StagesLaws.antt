-- From the stage to the machine; where the program starts, and that each byte ends a line at most.
use Rattle.std.specs.Prelude.{ℕ, ◌+◌, ◌/◌, ◌≤◌, ◌<◌, ◌≡◌, refl, List, [], ◌∷◌, Bool, true, false, cond, not, length}
use Rattle.std.proofs.Common.{arith, sym, ap, ap₂, subst, ◌∙◌, length-append}
use Rattle.rules.specs.declared.Sizes.{Sizes}
use Rattle.rules.specs.Rules.{Regioned, unused}
use Rattle.promises.specs.Slices.{Slices}
use Rattle.script.specs.Text.{Line}
use Rattle.std.specs.Prelude.{Ok, Err}
use Rattle.script.specs.declared.Reader.{Reader}
use Rattle.script.specs.Reading.{started, end_of, fresh, last_of}
use Rattle.script.specs.TextLaws.{found}
use Rattle.script.specs.declared.Filled.{Filled}
use Rattle.script.specs.declared.Filled.TheVariants.{Done, Broken}
use Rattle.std.specs.Prelude.{Option, None, Some, is_some}
use Rattle.script.specs.Writing.{row, line_line, Put}
use Rattle.script.specs.BlocksLaws.{used_in, length_found}
use Rattle.script.proofs.WritingLaws.{decimal-length}
use Rattle.printed.specs.Printed.{sizes_of, accepted, Session, opening, running, stopped, takes, takes_all}
use Rattle.printed.specs.Pieces.{Machine, machine, feed, first}
use Rattle.lines.specs.Lines.{Lent, Here, Holds}
use Rattle.stages.specs.declared.Stage.{Stage}
use Rattle.stages.specs.declared.Stage.TheVariants.{Opening, Running, Stopped}
use Rattle.stages.specs.declared.Fed.{Fed}
use Rattle.stages.specs.Stages.{stage_of, At, Placed, line_of, Feeds, Proceeds, onward, malformed}

-- ---- from the stage to the machine

pub at-opening : {m : Machine} {stage : Stage} {l : Slices} {r : Reader} → At m stage l → stage ≡ Opening r → m ≡ machine r opening
unfolding stage_of
at-opening {m} {stage} {l} {r} a e = go m.session refl (sym a.stage_is ∙ e)
  where
    go : (y : Session) → m.session ≡ y → stage_of m.reader y ≡ Opening r → m ≡ machine r opening
    go opening f q = ap₂ machine (let z : m.reader ≡ r = cc in z) f
    go (running s h k) f q = absurd (let z : ◌≡◌ {A = ℕ} 0 1 = cc in let o : ⊥ = omega arith in o)
    go stopped f q = absurd (let z : ◌≡◌ {A = ℕ} 0 1 = cc in let o : ⊥ = omega arith in o)

-- it is running, with the slices holding its heap
pub record AtRunning (m : Machine) (r : Reader) (k : ℕ) (l : Slices) : Type 0 where
  pub sizes-are : Sizes
  pub heap_is : Regioned
  pub machine-is : m ≡ machine r (running sizes-are heap_is k)
  pub holds : Holds (running sizes-are heap_is k) l

pub at-running : {m : Machine} {stage : Stage} {l : Slices} {r : Reader} {k : ℕ} → At m stage l → stage ≡ Running r k → AtRunning m r k l
unfolding stage_of
at-running {m} {stage} {l} {r} {k} a e = go m.session refl (sym a.stage_is ∙ e)
  where
    go : (y : Session) → m.session ≡ y → stage_of m.reader y ≡ Running r k → AtRunning m r k l
    go opening f q = absurd (let z : ◌≡◌ {A = ℕ} 0 1 = cc in let o : ⊥ = omega arith in o)
    go (running s h j) f q =
        let u : m.reader ≡ r = cc in
        let v : j ≡ k = cc in
        record {
          sizes-are = s;
          heap_is = h;
          machine-is = ap₂ machine u (f ∙ ap (running s h) v);
          holds = subst (λ (y : Session). Holds y l) (f ∙ ap (running s h) v) a.holds;
        }
    go stopped f q = absurd (let z : ◌≡◌ {A = ℕ} 0 1 = cc in let o : ⊥ = omega arith in o)

pub at-stopped : {m : Machine} {stage : Stage} {l : Slices} → At m stage l → stage ≡ Stopped → m.session ≡ stopped
unfolding stage_of
at-stopped {m} {stage} {l} a e = go m.session refl (sym a.stage_is ∙ e)
  where
    go : (y : Session) → m.session ≡ y → stage_of m.reader y ≡ Stopped → m.session ≡ stopped
    go opening f q = absurd (let z : ◌≡◌ {A = ℕ} 0 1 = cc in let o : ⊥ = omega arith in o)
    go (running s h j) f q = absurd (let z : ◌≡◌ {A = ℕ} 0 1 = cc in let o : ⊥ = omega arith in o)
    go stopped f q = f

pub placed-here : {stage : Stage} {l : Slices} {r : Reader} {k : ℕ} → Placed stage l → stage ≡ Running r k → Here l
unfolding Holds
placed-here p e =
    let a = at-running p.1 e in
    record { sizes = a.sizes-are; heap = a.heap_is; cell = a.holds.0; stands = a.holds.1; chains = a.holds.2 }

pub line_low : {stage : Stage} {r : Reader} {k : ℕ} (n most : ℕ) → stage ≡ Running r k → line_of stage + n < most → k + n < most
line_low n most e low = subst (λ (y : Stage). line_of y + n < most) e low

-- ---- a line that has begun

pub told-begun : (r : Reader) → is_some (last_of r) ≡ not (fresh r)
unfolding last_of
told-begun r = go (fresh r)
  where
    go : (t : Bool) → let o : Option Line = cond t None (Some (end_of r)) in is_some o ≡ not t
    go true = refl
    go false = refl

-- ---- from piece to piece

pub at_first : {stage : Stage} {l : Slices} → stage ≡ Opening started → Lent l → At first stage l
unfolding stage_of Holds
at_first e lent = record { stage_is = e; lent = lent; holds = tt }

-- the line that a session is at
abbrev line_in : Session → ℕ
line_in opening = 1
line_in (running s h k) = k
line_in stopped = 0

line-in : (r : Reader) (x : Session) → line_of (stage_of r x) ≡ line_in x
unfolding stage_of
line-in r opening = refl
line-in r (running s h k) = refl
line-in r stopped = refl

line-takes : (x : Session) (line : Line) → line_in (takes x line) ≤ line_in x + 1
unfolding takes
line-takes opening (Ok ns) = go (accepted (sizes_of ns))
  where
    go : (b : Bool) → line_in (cond b (running (sizes_of ns) (unused (sizes_of ns)) 2) stopped) ≤ 2
    go true = omega arith
    go false = omega arith
line-takes opening (Err e) = omega arith
line-takes (running s h k) (Ok ns) = omega arith
line-takes (running s h k) (Err e) = omega arith
line-takes stopped line = omega arith

line-takes-all : (ls : List Line) (x : Session) → line_in (takes_all x ls) ≤ line_in x + length ls
unfolding takes_all
line-takes-all [] x = omega arith
line-takes-all (line ∷ ls) x = omega (arith, line-takes-all ls (takes x line), line-takes x line)

pub line-fed : {m : Machine} {stage : Stage} {l l' : Slices} {bytes out after : List ℕ} {x : Fed} → At m stage l → Feeds m bytes l out x after l'
    → line_of x.stage ≤ line_of stage + length bytes
unfolding feed
line-fed {m} {stage} {l} {l'} {bytes} {out} {after} {x} a f =
    let ls = found m.reader bytes in
    omega (
      arith,
      ap line_of f.is_at.stage_is ∙ line-in (feed m bytes).reader (takes_all m.session ls),
      ap line_of a.stage_is ∙ line-in m.reader m.session,
      line-takes-all ls m.session,
      length_found bytes m.reader,
    )

-- a message is short
pub line-length : (k : ℕ) → k < 18446744073709551616 → length (line_line k) ≤ 26
unfolding row
line-length k h = simp length-append (omega (arith, decimal-length k h))

-- ---- after a block

-- with the number of the line to come as the code has it
module _ {x : Filled} (line used : ℕ) (u : used ≡ used_in x) {end : ℕ} {out : List ℕ} where
  pub proceeds-on : {rest : Reader} {n : ℕ} → x ≡ Done rest n
      → Proceeds x (line + used_in x / 5) end out (record { stage = Running rest (line + used / 5); length = end }) out
  proceeds-on {rest} e = onward e (ap {B = Fed} (λ (k : ℕ). record { stage = Running rest (line + k / 5); length = end }) u) refl

  pub proceeds-broken : {n stop : ℕ} {after : List ℕ} → x ≡ Broken n → Put out end (line_line (line + used / 5)) after stop
      → Proceeds x (line + used_in x / 5) end out (record { stage = Stopped; length = stop }) after
  proceeds-broken {n} {stop} {after} e p = malformed e refl (subst (λ (k : ℕ). Put out end (line_line (line + k / 5)) after stop) u p)
