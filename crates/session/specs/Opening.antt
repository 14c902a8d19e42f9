-- A piece: with the first line the program goes on or stops, and each stage goes its own way.
use Rattle.std.specs.Prelude.{ℕ, ◌≡◌, refl, Bool, true, false, cond, drop}
use Rattle.std.proofs.Math.Path.{sym, ap, ap₂, subst}
use Rattle.std.proofs.Common.{◌∙◌}
use mathlib.Core.List.{List, [], ◌∷◌, ◌++◌}
use Rattle.lists.specs.Says.{true-not-false}
use Rattle.rules.specs.declared.Sizes.{Sizes}
use Rattle.rules.specs.Rules.{Regioned, unused}
use Rattle.promises.specs.Slices.{Slices}
use Rattle.script.specs.Text.{Line}
use Rattle.std.specs.Prelude.{Ok, Err}
use Rattle.script.specs.declared.Reader.{Reader}
use Rattle.script.specs.declared.Scan.{Scan}
use Rattle.script.specs.declared.Scan.TheVariants.{Open, Found}
use Rattle.script.specs.Reading.{started, scanned}
use Rattle.script.specs.TextLaws.{found, left, Brings, scan-reads}
use Rattle.script.specs.Writing.{Put, sizes_line}
use Rattle.script.proofs.WritingLaws.{put-text}
use Rattle.script.proofs.Stacked.{stack-none}
use Rattle.script.specs.Blocks.{stacked}
use Rattle.printed.specs.Printed.{sizes_of, Session, opening, running, stopped, takes, prints, takes_all, prints_all}
use Rattle.printed.specs.Pieces.{Machine, machine, feed, feed_prints, stopped-takes, stopped-prints}
use Rattle.lines.specs.Lines.{Lent, Here, Holds, LinesChange, begins, Begun}
use Rattle.lines.specs.Changes.{changes-stopped}
use Rattle.stages.specs.declared.Stage.{Stage}
use Rattle.stages.specs.declared.Stage.TheVariants.{Opening, Running, Stopped}
use Rattle.stages.specs.declared.Fed.{Fed}
use Rattle.stages.specs.Stages.{stage_of, At, Feeds}
use Rattle.stages.specs.StagesLaws.{at-opening, at-running, at-stopped}

-- ---- the first line of a piece

pub put-none : (out : List ℕ) → Put out 0 [] out 0
unfolding stacked
put-none out = stack-none (λ i. []) out 0

-- a line that has begun the tables is the sizes that they are for
pub record Opened (line : Line) : Type 0 where
  pub sizes-are : Sizes
  pub taken : takes opening line ≡ running sizes-are (unused sizes-are) 2
  pub silent : prints opening line ≡ []

pub begun_opened : {line : Line} {r : Bool} {l l' : Slices} → Begun line l r l' → r ≡ true → Opened line
unfolding takes prints
begun_opened {line} {r} b e = go line (sym b.told ∙ e)
  where
    go : (y : Line) → begins y ≡ true → Opened y
    go (Ok ns) f =
        record {
          sizes-are = sizes_of ns;
          taken = ap (λ (a : Bool). cond a (running (sizes_of ns) (unused (sizes_of ns)) 2) stopped) f;
          silent = ap (λ (a : Bool). cond a [] sizes_line) f;
        }
    go (Err e) f = absurd (true-not-false f)

begun-stopped : {line : Line} {r : Bool} {l l' : Slices} → Begun line l r l' → r ≡ false → (takes opening line ≡ stopped) × (prints opening line ≡ sizes_line)
unfolding takes prints
begun-stopped {line} {r} b e = go line (sym b.told ∙ e)
  where
    go : (y : Line) → begins y ≡ false → (takes opening y ≡ stopped) × (prints opening y ≡ sizes_line)
    go (Ok ns) f =
        (ap (λ (a : Bool). cond a (running (sizes_of ns) (unused (sizes_of ns)) 2) stopped) f, ap (λ (a : Bool). cond a [] sizes_line) f)
    go (Err e) f = (refl, refl)

pub begun-here : {line : Line} {r : Bool} {l l' : Slices} → Begun line l r l' → r ≡ true → Here l'
unfolding Holds
begun-here {line} {r} {l} {l'} b e =
    let o = begun_opened b e in
    let k : Holds (running o.sizes-are (unused o.sizes-are) 2) l' = subst (λ (y : Session). Holds y l') o.taken b.holds in
    record { sizes = o.sizes-are; heap = unused o.sizes-are; cell = k.0; stands = k.1; chains = k.2 }

module _ (r : Reader) (text : List ℕ) {scan : Scan} (read : scan ≡ scanned r text 0) where
  brings : Brings scan text (found r text) (left r text)
  brings = subst (λ (y : Scan). Brings y text (found r text) (left r text)) (sym read) (scan-reads r text 0)

  -- no line ends in the piece
  pub opened-none : {next : Reader} {out : List ℕ} {l : Slices} → scan ≡ Open next → Lent l
      → Feeds (machine r opening) text l out (record { stage = Opening next; length = 0 }) out l
  unfolding feed feed_prints takes_all prints_all stage_of Holds Brings LinesChange
  opened-none {next} {out} {l} e lent =
      let f : (found r text ≡ []) × (left r text ≡ next) = subst (λ (y : Scan). Brings y text (found r text) (left r text)) e brings in
      record {
        is_at = record {
          stage_is = sym (ap₂ (λ (q : Reader) (ls : List Line). stage_of q (takes_all opening ls)) f.1 f.0);
          lent = lent;
          holds = subst (λ (ls : List Line). Holds (takes_all opening ls) l) (sym f.0) tt;
        };
        text = put-text (sym (ap (prints_all opening) f.0)) (put-none out);
        changes = subst (λ (ls : List Line). LinesChange opening ls l l) (sym f.0) refl;
      }

  module _ {line : Line} {at : ℕ} (e : scan ≡ Found line at) {b : Bool} {l v : Slices} (k : Begun line l b v) where
    split : (found r text ≡ line ∷ found started (drop at text)) × (left r text ≡ left started (drop at text))
    unfolding Brings
    split = subst (λ (y : Scan). Brings y text (found r text) (left r text)) e brings

    pub opened-on : b ≡ true → {next : Reader} → next ≡ started → {out after : List ℕ} {x : Fed} {l' : Slices}
        → ((s : Sizes) (h : Regioned) → Holds (running s h 2) v → Lent v → Feeds (machine next (running s h 2)) (drop at text) v out x after l')
        → Feeds (machine r opening) text l out x after l'
    unfolding feed feed_prints takes_all prints_all LinesChange
    opened-on t {next} n {out} {after} {x} {l'} rest =
        let o = begun_opened k t in
        let s = o.sizes-are in
        let go = rest s (unused s) (subst (λ (y : Session). Holds y v) o.taken k.holds) k.lent in
        let session : takes_all opening (found r text) ≡ takes_all (running s (unused s) 2) (found next (drop at text)) =
        ap (takes_all opening) split.0 ∙ ap₂ (λ (y : Session) (q : Reader). takes_all y (found q (drop at text))) o.taken (sym n) in
        let reader : left r text ≡ left next (drop at text) = split.1 ∙ ap (λ (q : Reader). left q (drop at text)) (sym n) in
        let printed : prints_all opening (found r text) ≡ prints_all (running s (unused s) 2) (found next (drop at text)) =
        ap (prints_all opening) split.0 ∙ ap₂ (λ (u : List ℕ) (y : Session). u ++ prints_all y (found started (drop at text))) o.silent o.taken
        ∙ ap (λ (q : Reader). prints_all (running s (unused s) 2) (found q (drop at text))) (sym n) in
        record {
          is_at = subst (λ (m : Machine). At m x.stage l') (sym (ap₂ machine reader session)) go.is_at;
          text = put-text (sym printed) go.text;
          changes = subst (λ (ls : List Line). LinesChange opening ls l l') (sym split.0)
              (v, k.changes, subst (λ (q : Reader). LinesChange (takes opening line) (found q (drop at text)) v l') n (subst (λ (y : Session). LinesChange y (found next (drop at text)) v l') (sym o.taken) go.changes));
        }

    pub opened-refused : b ≡ false → {out after : List ℕ} {end : ℕ} → Put out 0 sizes_line after end
        → Feeds (machine r opening) text l out (record { stage = Stopped; length = end }) after v
    unfolding feed feed_prints takes_all prints_all stage_of Holds LinesChange
    opened-refused t p =
        let o = begun-stopped k t in
        let session : takes_all opening (found r text) ≡ stopped =
        ap (takes_all opening) split.0 ∙ ap (λ (y : Session). takes_all y (found started (drop at text))) o.0 ∙ stopped-takes (found started (drop at text)) in
        let printed : prints_all opening (found r text) ≡ sizes_line =
        ap (prints_all opening) split.0 ∙ ap₂ (λ (u : List ℕ) (y : Session). u ++ prints_all y (found started (drop at text))) o.1 o.0
        ∙ ap (λ (u : List ℕ). sizes_line ++ u) (stopped-prints (found started (drop at text))) in
        record {
          is_at = record { stage_is = sym (ap (stage_of (left r text)) session); lent = k.lent; holds = subst (λ (y : Session). Holds y v) (sym session) tt };
          text = put-text (sym printed) p;
          changes = subst (λ (ls : List Line). LinesChange opening ls l v) (sym split.0)
              (v, k.changes, subst (λ (y : Session). LinesChange y (found started (drop at text)) v v) (sym o.0) (changes-stopped (found started (drop at text)) v));
        }

-- ---- a piece

module _ {stage : Stage} {text out after : List ℕ} {x : Fed} {l l' : Slices} where
  pub fed-opening : {r : Reader} → stage ≡ Opening r → Feeds (machine r opening) text l out x after l' → (m : Machine) → At m stage l → Feeds m text l out x after l'
  fed-opening e f m a = subst (λ (y : Machine). Feeds y text l out x after l') (sym (at-opening a e)) f

  pub fed-running : {r : Reader} {k : ℕ} → stage ≡ Running r k
      → ((s : Sizes) (h : Regioned) → Holds (running s h k) l → Lent l → Feeds (machine r (running s h k)) text l out x after l') → (m : Machine) → At m stage l → Feeds m text l out x after l'
  fed-running e f m a =
      let o = at-running a e in
      subst (λ (y : Machine). Feeds y text l out x after l') (sym o.machine-is) (f o.sizes-are o.heap_is o.holds a.lent)

pub fed-stopped : {stage : Stage} {text out : List ℕ} {l : Slices} → stage ≡ Stopped → (m : Machine) → At m stage l
    → Feeds m text l out (record { stage = Stopped; length = 0 }) out l
unfolding feed feed_prints stage_of Holds
fed-stopped {stage} {text} {out} {l} e m a =
    let s = at-stopped a e in
    let ls = found m.reader text in
    let t : takes_all m.session ls ≡ stopped = ap (λ (y : Session). takes_all y ls) s ∙ stopped-takes ls in
    record {
      is_at = record {
        stage_is = sym (ap (stage_of (left m.reader text)) t);
        lent = a.lent;
        holds = subst (λ (y : Session). Holds y l) (sym t) tt;
      };
      text = put-text (sym (ap (λ (y : Session). prints_all y ls) s ∙ stopped-prints ls)) (put-none out);
      changes = subst (λ (y : Session). LinesChange y ls l l) (sym s) (changes-stopped ls l);
    }
