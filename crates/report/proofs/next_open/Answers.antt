use Rattle.std.proofs.Common.{◌≡◌, ℕ, ◌+◌, ◌<◌, ◌≤◌, Bool, false, List, length, ◌∙◌, arith}
use Rattle.lists.specs.Says.{Says, said-no}
use Rattle.rules.specs.declared.Sizes.{Sizes}
use Rattle.rules.specs.Regions.{regions}
use Rattle.layout.specs.Places.{Room}
use Rattle.layout.specs.Words.{depths_at}
use Rattle.promises.specs.Whole.{Open}
use Rattle.report.specs.Opened.{NoneOpen, none-next, open-yes, open_no, last-region}
use Rattle.report.specs.Tables.{tables-room-of, threads-low}
use Rattle.report.proofs.next_open.Goals as goal
use Rattle.report.proofs.next_open.Goals.{After-region_at-last, else-loop-next-test, then-loop-next-test+else-is_open+else-next-last}

-- one more region that is not open, as the code tested it
passed : (p : Sizes) (t : List ℕ) (region next : ℕ) → Room p (length t) → 1 ≤ region → NoneOpen p (depths_at p t) region next → region < next → next ≤ regions p
    → (r : Bool) → Says r (Open p t next) → r ≡ false → NoneOpen p (depths_at p t) region (next + 1)
passed p t region next room low none above high r s e =
    none-next p (depths_at p t) region next none (open_no p t room.depth_low next (omega arith) high (said-no r s e))

room : (c : After-region_at-last) → Room c.args.p (length c.args.tables.now)
room c = tables-room-of c.args.p c.args.tables.now c.requires.whole_tables (omega arith)

last : (c : After-region_at-last) → c.region_at-last.result ≡ regions c.args.p
last c =
    let a = c.args in
    c.region_at-last.ensures ∙ last-region a.p (threads-low a.p a.tables.now c.requires.whole_tables) (room c).depth_low

pub is_open-requires : goal.is_open-requires
is_open-requires c = room (goal.at.is_open-requires c).After-region_at-last

pub returns-then-is_open : goal.returns-then-is_open
returns-then-is_open c =
    let a = c.args in
    let l = c.loop-next in
    record {
      above = omega arith;
      high = omega (arith, last (goal.at.returns-then-is_open c).After-region_at-last);
      between = l.invariant;
      opened = λ h. open-yes a.p a.tables.now l.next (c.is_open.ensures.0 c.if-is_open.true);
    }

pub loop-next-preserved : goal.loop-next-preserved
loop-next-preserved c =
    let a = c.args in
    let l = c.loop-next in
    let b = (goal.at.loop-next-preserved c).After-region_at-last in
    passed a.p a.tables.now a.region l.next (room b) c.requires.le_region.0 l.invariant (omega arith) (omega (arith, last b)) c.is_open.result c.is_open.ensures c.if-is_open.false

pub returns : goal.returns
returns c =
    let a = c.args in
    let l = c.loop-next in
    let b = (goal.at.returns c).After-region_at-last in
    let all : c.region_at-last.result ≡ regions a.p = last b in
    let here : NoneOpen a.p (depths_at a.p a.tables.now) a.region (c.region_at-last.result + 1)
    = elim c.loop-next-test.branch [
      | else-loop-next-test w ↦ λ x h m. l.invariant x h (omega arith)
      | then-loop-next-test+else-is_open+else-next-last w ↦
          λ x h m.
          passed a.p a.tables.now a.region l.next (room b) c.requires.le_region.0 l.invariant (omega arith) (omega (arith, all)) w.is_open.result w.is_open.ensures w.if-is_open.false x h (omega arith)
    ] in
    record {
      above = omega (arith, all, c.requires.le_region);
      high = omega (arith, all);
      between = here;
      opened = λ h. absurd (let z : ⊥ = omega (arith, h, all) in z);
    }
