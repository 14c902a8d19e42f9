-- The end of the input: a line that has begun, and what is printed after the last one.
use Rattle.std.specs.Prelude.{ℕ, ◌+◌, ◌≤◌, ◌≡◌, refl, Bool, true, false, cond, not, length}
use Rattle.std.proofs.Common.{arith, sym, ap, ap₂, ◌∙◌}
use Rattle.std.proofs.Math.Path.{subst}
use mathlib.Core.List.{List, [], ◌∷◌, ◌++◌}
use Rattle.lists.specs.Says.{true-not-false}
use Rattle.rules.specs.declared.Sizes.{Sizes}
use Rattle.rules.specs.Rules.{Regioned}
use Rattle.layout.specs.Words.{words}
use Rattle.promises.specs.Slices.{Slices, slices}
use Rattle.promises.specs.StandsFor.{StandsFor}
use Rattle.script.specs.declared.Reader.{Reader}
use Rattle.script.specs.Reading.{fresh}
use Rattle.script.specs.TextLaws.{found}
use Rattle.script.specs.Writing.{sizes_line, Put}
use Rattle.script.proofs.WritingLaws.{put-text, put-put}
use Rattle.script.specs.Blocks.{stacked}
use Rattle.script.proofs.Stacked.{stack-none}
use Rattle.printed.specs.Printed.{Session, opening, running, stopped, reported, takes_all, prints_all, ends_with}
use Rattle.printed.specs.Pieces.{Machine, feed, feed_prints, missing, close_prints, stopped-takes, stopped-prints}
use Rattle.lines.specs.Lines.{Holds, LinesChange}
use Rattle.lines.specs.Changes.{changes-stopped}
use Rattle.stages.specs.declared.Stage.{Stage}
use Rattle.stages.specs.declared.Stage.TheVariants.{Opening, Running, Stopped}
use Rattle.stages.specs.declared.Fed.{Fed}
use Rattle.stages.specs.Stages.{stage_of, At, Feeds, begun_at, Closes}
use Rattle.stages.specs.StagesLaws.{at-opening, at-running, at-stopped}

-- ---- after the last line

module _ {stage : Stage} {mm t out after : List ℕ} {at end : ℕ} where
  pub ends-opening : {r : Reader} → stage ≡ Opening r → Put out at sizes_line after end
      → (m : Machine) (cells chains : List ℕ) → At m stage (slices cells mm t chains) → Put out at (ends_with m.session) after end
  unfolding ends_with
  ends-opening e p m cells chains a = put-text (ap (λ (y : Machine). ends_with y.session) (sym (at-opening a e))) p

  pub ends-running : {r : Reader} {k : ℕ} → stage ≡ Running r k
      → ((s : Sizes) (h : Regioned) (cells : List ℕ) (cell_of : ℕ → ℕ) → StandsFor s (words cells mm t) h cell_of → Put out at (reported s h) after end)
      → (m : Machine) (cells chains : List ℕ) → At m stage (slices cells mm t chains) → Put out at (ends_with m.session) after end
  unfolding ends_with Holds
  ends-running e p m cells chains a =
      let o = at-running a e in
      put-text (ap (λ (y : Machine). ends_with y.session) (sym o.machine-is)) (p o.sizes-are o.heap_is cells o.holds.0 o.holds.1)

pub ends-stopped : {stage : Stage} {mm t out : List ℕ} {at : ℕ} → stage ≡ Stopped → (m : Machine) (cells chains : List ℕ) → At m stage (slices cells mm t chains)
    → Put out at (ends_with m.session) out at
unfolding ends_with stacked
ends-stopped {out = out} {at = at} e m cells chains a = put-text (ap ends_with (sym (at-stopped a e))) (stack-none (λ i. []) out at)

-- ---- a line that has begun

pub begun-missing : {m : Machine} {stage : Stage} {l : Slices} → At m stage l → begun_at stage ≡ true → missing m ≡ 10 ∷ []
unfolding stage_of
begun-missing {m} {stage} {l} a e = go m.session (ap begun_at (sym a.stage_is) ∙ e)
  where
    cases : (t : Bool) → not t ≡ true → cond {A = List ℕ} t [] (10 ∷ []) ≡ 10 ∷ []
    cases true q = absurd (true-not-false q)
    cases false q = refl

    go : (y : Session) → begun_at (stage_of m.reader y) ≡ true → missing m ≡ 10 ∷ []
    go opening q = cases (fresh m.reader) q
    go (running s h k) q = cases (fresh m.reader) q
    go stopped q = absurd (true-not-false q)

-- none has begun, or the program has stopped: nothing is left to do
idle : {m : Machine} {stage : Stage} {l : Slices} → At m stage l → begun_at stage ≡ false
    → (feed_prints m (missing m) ≡ []) × ((feed m (missing m)).session ≡ m.session) × LinesChange m.session (found m.reader (missing m)) l l
unfolding stage_of feed feed_prints takes_all prints_all found LinesChange
idle {m} {stage} {l} a e = go m.session refl (ap begun_at (sym a.stage_is) ∙ e)
  where
    cases : (t : Bool) → not t ≡ false
        → (prints_all m.session (found m.reader (cond t [] (10 ∷ []))) ≡ []) × (takes_all m.session (found m.reader (cond t [] (10 ∷ []))) ≡ m.session)
        × LinesChange m.session (found m.reader (cond t [] (10 ∷ []))) l l
    cases true q = (refl, refl, refl)
    cases false q = absurd (true-not-false (sym q))

    go : (y : Session) → m.session ≡ y → begun_at (stage_of m.reader y) ≡ false
        → (prints_all m.session (found m.reader (missing m)) ≡ []) × (takes_all m.session (found m.reader (missing m)) ≡ m.session)
        × LinesChange m.session (found m.reader (missing m)) l l
    go opening f q = cases (fresh m.reader) q
    go (running s h k) f q = cases (fresh m.reader) q
    go stopped f q =
        let ls = found m.reader (missing m) in
        (ap (λ (y : Session). prints_all y ls) f ∙ stopped-prints ls, ap (λ (y : Session). takes_all y ls) f ∙ stopped-takes ls ∙ sym f, subst (λ (y : Session). LinesChange y ls l l) (sym f) (changes-stopped ls l))

module _ {m : Machine} {stage : Stage} {l : Slices} (a : At m stage l) where
  pub closed-begun : begun_at stage ≡ true → {out middle after : List ℕ} {x : Fed} {end : ℕ} {c mm t k : List ℕ} → Feeds m (10 ∷ []) l out x middle (slices c mm t k)
      → ((y : Machine) (cells chains : List ℕ) → At y x.stage (slices cells mm t chains) → Put middle x.length (ends_with y.session) after end)
      → x.length + 5731 ≤ length out → end ≤ x.length + 5731 → Closes m l out end after (slices c mm t k)
  unfolding close_prints
  closed-begun e {out} {middle} {after} {x} {end} {c} {mm} {t} {k} f p room low =
      let q = begun-missing a e in
      let g = p (feed m (10 ∷ [])) c k f.is_at in
      record {
        text = put-text (ap (λ (b : List ℕ). feed_prints m b ++ ends_with (feed m b).session) (sym q))
            (put-put (omega (arith, f.text.end_is, g.end_is)) f.text g);
        lent = f.is_at.lent;
        holds = subst (λ (b : List ℕ). Holds (feed m b).session (slices c mm t k)) (sym q) f.is_at.holds;
        changes = subst (λ (b : List ℕ). LinesChange m.session (found m.reader b) l (slices c mm t k)) (sym q) f.changes;
      }

  pub closed-idle : begun_at stage ≡ false → {out after : List ℕ} {end : ℕ} → Put out 0 (ends_with m.session) after end → Closes m l out end after l
  unfolding close_prints
  closed-idle e p =
      let i = idle a e in
      record {
        text = put-text (sym (ap₂ (λ (b : List ℕ) (y : Session). b ++ ends_with y) i.0 i.1)) p;
        lent = a.lent;
        holds = subst (λ (y : Session). Holds y l) (sym i.1) a.holds;
        changes = i.2;
      }
