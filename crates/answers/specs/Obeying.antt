-- The commands of a piece: a block of them is obeyed, and the code is where the machine is.
use Prim.Native.Nat.{ℕ, zero, suc, ◌+◌, ◌*◌, ◌/◌, ◌%◌, ◌≤◌, ◌<◌}
use native.Mathlib.Omega.{arith}
use Rattle.std.specs.Prelude.{◌≡◌, get_or, take, drop}
use Rattle.std.proofs.Math.Path.{refl, sym, ap, subst}
use Rattle.std.proofs.Common.{ap₂, subst₂, ◌∙◌, length-drop, length-take-le, get_or-take}
use mathlib.Core.List.{List, [], ◌∷◌, ◌++◌, append-nil, map}
use Rattle.std.proofs.Math.ListN.{length}
use Rattle.lists.specs.Listed.{listed, listed_same, length-listed, map-listed}
use Rattle.rules.specs.declared.Sizes.{Sizes}
use Rattle.rules.specs.declared.Command.{Command}
use Rattle.rules.specs.Rules as ru
use Rattle.rules.specs.Rules.{Regioned}
use Rattle.promises.specs.Slices.{Slices}
use Rattle.promises.specs.Promises.{command_at, size, commands_in}
use Rattle.script.specs.Text.{Line, malformed_line}
use Rattle.script.specs.declared.Reader.{Reader}
use Rattle.script.specs.declared.Filled.{Filled}
use Rattle.script.specs.declared.Filled.TheVariants.{Done, Full, Broken}
use Rattle.script.specs.TextLaws.{found, left}
use Rattle.script.specs.Writing.{Put, line_line}
use Rattle.script.proofs.WritingLaws.{put-text, put-put}
use Rattle.script.specs.FewCommands.{command_count, count-append, commands-few}
use Rattle.script.specs.Blocks.{Took}
use Rattle.script.specs.BlocksLaws as sb
use Rattle.script.specs.BlocksLaws.{used_in, Follow, block_reads, never-full}
use Rattle.printed.specs.Printed.{Session, running, stopped, answer_text, takes, prints, takes_all, prints_all}
use Rattle.printed.specs.Pieces.{machine, feed, feed_prints, takes-append, prints-append, stopped-takes, stopped-prints}
use Rattle.lines.specs.Lines.{Lent, Holds, LineChanges, LinesChange}
use Rattle.lines.specs.Changes.{changes-append, changes-stopped}
use Rattle.stages.specs.declared.Stage.{Stage}
use Rattle.stages.specs.declared.Stage.TheVariants.{Running, Stopped}
use Rattle.stages.specs.declared.Fed.{Fed}
use Rattle.stages.specs.Stages.{stage_of, Feeds, Room, Proceeds, onward, malformed, filled}
use Rattle.stages.specs.StagesLaws.{line-length}
use Rattle.answers.specs.Answers.{Counted, as_line, Answered, answers_text}

module _ (s : Sizes) where
  takes-commands : (ms : List Command) (h : Regioned) (k : ℕ) → takes_all (running s h k) (map as_line ms) ≡ running s (ru.run s h ms).last (k + length ms)
  unfolding takes_all takes ru.run
  takes-commands [] h k = ap (running s h) (let e : k ≡ k + 0 = omega arith in e)
  takes-commands (m ∷ ms) h k =
      takes-commands ms (ru.step s h m).next (k + 1) ∙ ap (running s (ru.run s h (m ∷ ms)).last) (let e : k + 1 + length ms ≡ k + suc (length ms) = omega arith in e)

  prints-commands : (ms : List Command) (h : Regioned) (k : ℕ) → prints_all (running s h k) (map as_line ms) ≡ answers_text (ru.run s h ms).answers
  unfolding prints_all prints takes ru.run answers_text
  prints-commands [] h k = refl
  prints-commands (m ∷ ms) h k = ap (λ (t : List ℕ). answer_text (ru.step s h m).answer ++ t) (prints-commands ms (ru.step s h m).next (k + 1))

-- the lines in a block are its commands
lines-last : (block : List ℕ) (k n : ℕ) → sb.commands_in block n (suc k) ≡ sb.commands_in block n k ++ sb.command_at block (n + 5 * k) ∷ []
unfolding sb.commands_in
lines-last block zero n = ap (λ (i : ℕ). sb.command_at block i ∷ []) (let e : n ≡ n + 5 * 0 = omega arith in e)
lines-last block (suc k) n =
    ap (λ (ls : List Line). sb.command_at block n ∷ ls) (lines-last block k (n + 5))
    ∙ ap (λ (i : ℕ). sb.command_at block n ∷ sb.commands_in block (n + 5) k ++ sb.command_at block i ∷ []) (let e : n + 5 + 5 * k ≡ n + 5 * suc k = omega arith in e)

lines_are : (block : List ℕ) (k : ℕ) → sb.commands_in block 0 k ≡ listed (λ i. as_line (command_at block i)) k
unfolding sb.commands_in listed
lines_are block zero = refl
lines_are block (suc k) =
    lines-last block k 0 ∙ ap₂ (λ (ls : List Line) (i : ℕ). ls ++ sb.command_at block i ∷ []) (lines_are block k) (let e : 0 + 5 * k ≡ 5 * k = omega arith in e)

count-lines : (block : List ℕ) (k n : ℕ) → command_count (sb.commands_in block n k) ≡ k
unfolding sb.commands_in command_count
count-lines block zero n = refl
count-lines block (suc k) n = ap suc (count-lines block k (n + 5))

module _ (block : List ℕ) (used count : ℕ) (e : used ≡ 5 * count) (h : used ≤ length block) where
  size-taken : size (take used block) ≡ count
  size-taken = omega (arith, length-take-le used block h)

  commands-taken : map as_line (commands_in (take used block)) ≡ sb.commands_in block 0 count
  commands-taken =
      map-listed as_line (command_at (take used block)) (size (take used block))
      ∙ ap (listed (λ i. as_line (command_at (take used block) i))) size-taken
      ∙ listed_same (λ i. as_line (command_at (take used block) i)) (λ i. as_line (command_at block i)) count
      (λ i low. ap as_line (same i low))
      ∙ sym (lines_are block count)
    where
      word : (i p : ℕ) → i < count → p < 5 * i + 5 → get_or (take used block) p 0 ≡ get_or block p 0
      word i p low m = get_or-take used block p 0 (omega arith)

      same : (i : ℕ) → i < count → command_at (take used block) i ≡ command_at block i
      same i low = λ q. record {
        code = word i (5 * i) low (omega arith) q;
        thread = word i (5 * i + 1) low (omega arith) q;
        a = word i (5 * i + 2) low (omega arith) q;
        b = word i (5 * i + 3) low (omega arith) q;
        c = word i (5 * i + 4) low (omega arith) q;
      }

-- what was read from a piece: so many commands, and what follows them
pub record Read (r : Reader) (text : List ℕ) (from : ℕ) (x : Filled) (block : List ℕ) : Type 0 where
  pub count : ℕ
  pub used : used_in x ≡ 5 * count
  pub low : 10 * count ≤ length text + 9
  pub after : List Line
  pub lines : found r (drop from text) ≡ sb.commands_in block 0 count ++ after
  pub follow : Follow x text after (left r (drop from text))

pub was_read : {r : Reader} {text out : List ℕ} {from : ℕ} {block : List ℕ} {x : Filled} {after : List ℕ} → Room text out
    → Took r (drop from text) from block 0 x after → length block ≡ 8200 → Read r text from x after
was_read {r} {text} {from = from} {block} {x} {after} room t long =
    let k = block_reads r text from block 0 (omega arith) in
    let lines : found r (drop from text) ≡ sb.commands_in after 0 k.count ++ k.after = k.lines ∙ ap (λ (b : List ℕ). sb.commands_in b 0 k.count ++ k.after) (sym t.words) in
    record {
      count = k.count;
      used = ap used_in t.answer ∙ k.used ∙ (let e : 0 + 5 * k.count ≡ 5 * k.count = omega arith in e);
      low = omega (arith, ap command_count lines, count-append (sb.commands_in after 0 k.count) k.after, count-lines after k.count 0, commands-few (drop from text) r, length-drop from text);
      after = k.after;
      lines = lines;
      follow = subst (λ (y : Filled). Follow y text k.after (left r (drop from text))) (sym t.answer) k.follow;
    }

-- that is at most a command for every ten bytes, and one more
pub record Few (used : ℕ) (text : List ℕ) : Type 0 where
  pub even : used % 5 ≡ 0
  pub few : used / 5 ≤ (length text + 9) / 10

pub was-few : {r : Reader} {text : List ℕ} {from : ℕ} {x : Filled} {block : List ℕ} {used : ℕ} → Read r text from x block → used ≡ used_in x → Few used text
was-few k e = record { even = omega (arith, k.used); few = omega (arith, k.used, k.low) }

pub few-counted : {used : ℕ} {text block out : List ℕ} → Few used text → length block ≡ 8200 → Room text out → Counted used block out
few-counted f long room =
    record {
      even = f.even;
      words = omega (arith, f.even, f.few, room.piece);
      few = omega (arith, f.few, room.piece);
      text-room = omega (arith, f.few, room.text-room);
    }

pub never : {r : Reader} {text out : List ℕ} {from : ℕ} {block : List ℕ} {x : Filled} {after : List ℕ} {e n : ℕ} → Room text out
    → Took r (drop from text) from block 0 x after → length block ≡ 8200 → x ≡ Full e n → ⊥
never {r} {text} {from = from} {block} {e = e} {n = n} room t long q =
    never-full (drop from text) r from block 0 (omega (arith, room.piece, commands-few (drop from text) r, length-drop from text)) e n (sym t.answer ∙ q)

module _ {r : Reader} {text : List ℕ} {from : ℕ} {x : Filled} {block : List ℕ} (k : Read r text from x block) (s : Sizes) (h : Regioned) (line used : ℕ) (u : used ≡ used_in x)
    {lent_out : List ℕ} (counted : Counted used block lent_out) where
  abbrev bytes : List ℕ
  bytes = drop from text

  abbrev ms : List Command
  ms = commands_in (take used block)

  found-is : found r bytes ≡ map as_line ms ++ k.after
  found-is = k.lines ∙ ap (λ (ls : List Line). ls ++ k.after) (sym (commands-taken block used k.count (u ∙ k.used) counted.words))

  length-ms : length ms ≡ used / 5
  length-ms = length-listed (command_at (take used block)) (size (take used block)) ∙ size-taken block used k.count (u ∙ k.used) counted.words ∙ (let e : k.count ≡ used / 5 = omega (arith, k.used) in e)

  session-is : takes_all (running s h line) (found r bytes) ≡ takes_all (running s (ru.run s h ms).last (line + used / 5)) k.after
  session-is =
      ap (takes_all (running s h line)) found-is ∙ takes-append k.after (map as_line ms) (running s h line)
      ∙ ap (λ (y : Session). takes_all y k.after) (takes-commands s ms h line)
      ∙ ap (λ (n : ℕ). takes_all (running s (ru.run s h ms).last (line + n)) k.after) length-ms

  text-is : prints_all (running s h line) (found r bytes)
      ≡ answers_text (ru.run s h ms).answers ++ prints_all (running s (ru.run s h ms).last (line + used / 5)) k.after
  text-is =
      ap (prints_all (running s h line)) found-is ∙ prints-append k.after (map as_line ms) (running s h line)
      ∙ ap₂ (λ (t : List ℕ) (y : Session). t ++ prints_all y k.after) (prints-commands s ms h line) (takes-commands s ms h line)
      ∙ ap (λ (n : ℕ). answers_text (ru.run s h ms).answers ++ prints_all (running s (ru.run s h ms).last (line + n)) k.after) length-ms

  module _ {l l' : Slices} {out out' : List ℕ} {end : ℕ} (a : Answered s h (take used block) l out end out' l') (lent : Lent l) where
    changed : LinesChange (takes_all (running s h line) (map as_line ms)) k.after l' l' → LinesChange (running s h line) (found r bytes) l l'
    changed c = subst (λ (ls : List Line). LinesChange (running s h line) ls l l') (sym found-is) (changes-append (map as_line ms) k.after (running s h line) l l' l' (a.changes line) c)

    -- the piece ends inside a line, or between two
    obeyed-all : {next : Reader} {n : ℕ} → x ≡ Done next n
        → Feeds (machine r (running s h line)) bytes l out (record { stage = Running next (line + used / 5); length = end }) out' l'
    unfolding feed feed_prints takes_all prints_all stage_of Holds Follow LinesChange
    obeyed-all {next} e =
        let f : (k.after ≡ []) × (left r bytes ≡ next) = subst (λ (y : Filled). Follow y text k.after (left r bytes)) e k.follow in
        let t : takes_all (running s h line) (found r bytes) ≡ running s (ru.run s h ms).last (line + used / 5) = session-is ∙ ap (takes_all (running s (ru.run s h ms).last (line + used / 5))) f.0 in
        record {
          is_at = record {
            stage_is = sym (ap₂ stage_of f.1 t);
            lent = a.lent lent;
            holds = subst (λ (y : Session). Holds y l') (sym t) (a.cell, a.stands, a.chains);
          };
          text = put-text (sym (text-is ∙ ap (λ (ls : List Line). answers_text (ru.run s h ms).answers ++ prints_all (running s (ru.run s h ms).last (line + used / 5)) ls) f.0 ∙ append-nil (answers_text (ru.run s h ms).answers))) a.text;
          changes = changed (subst (λ (ls : List Line). LinesChange (takes_all (running s h line) (map as_line ms)) ls l' l') (sym f.0) refl);
        }

    -- a line is malformed
    obeyed-broken : {n : ℕ} {last : List ℕ} {stop : ℕ} → x ≡ Broken n → end + 26 ≤ length out → line + used / 5 < 18446744073709551616 → Put out' end (line_line (line + used / 5)) last stop
        → Feeds (machine r (running s h line)) bytes l out (record { stage = Stopped; length = stop }) last l'
    unfolding feed feed_prints takes_all prints_all takes prints stage_of Holds Follow LinesChange LineChanges
    obeyed-broken e room b p =
        let f : (rest : List Line) × (k.after ≡ malformed_line ∷ rest) = subst (λ (y : Filled). Follow y text k.after (left r bytes)) e k.follow in
        let t : takes_all (running s h line) (found r bytes) ≡ stopped = session-is ∙ ap (takes_all (running s (ru.run s h ms).last (line + used / 5))) f.1 ∙ stopped-takes f.0 in
        record {
          is_at = record {
            stage_is = sym (ap (stage_of (left r bytes)) t);
            lent = a.lent lent;
            holds = subst (λ (y : Session). Holds y l') (sym t) tt;
          };
          text = put-text (sym (text-is ∙ ap (λ (ls : List Line). answers_text (ru.run s h ms).answers ++ prints_all (running s (ru.run s h ms).last (line + used / 5)) ls) f.1 ∙ ap (λ (ls : List ℕ). answers_text (ru.run s h ms).answers ++ (line_line (line + used / 5) ++ ls)) (stopped-prints f.0) ∙ ap (λ (ls : List ℕ). answers_text (ru.run s h ms).answers ++ ls) (append-nil (line_line (line + used / 5)))))
              (put-put (omega (arith, a.text.end_is, line-length (line + used / 5) b)) a.text p);
          changes = changed (subst (λ (ls : List Line). LinesChange (takes_all (running s h line) (map as_line ms)) ls l' l') (sym f.1)
              (subst (λ (y : Session). LinesChange y (malformed_line ∷ f.0) l' l') (sym (takes-commands s ms h line)) (l', refl, changes-stopped f.0 l')));
        }

    -- so the piece goes on as the code does after its block
    pub obeyed : {fed : Fed} {last : List ℕ} → ((i n : ℕ) → x ≡ Full i n → ⊥) → end + 26 ≤ length out → line + used / 5 < 18446744073709551616
        → Proceeds x (line + used_in x / 5) end out' fed last → Feeds (machine r (running s h line)) bytes l out fed last l'
    obeyed {fed} {last} full room b p = go (subst (λ (n : ℕ). Proceeds x (line + n / 5) end out' fed last) (sym u) p)
      where
        go : Proceeds x (line + used / 5) end out' fed last → Feeds (machine r (running s h line)) bytes l out fed last l'
        go (onward e f g) = subst₂ (λ (z : Fed) (o : List ℕ). Feeds (machine r (running s h line)) bytes l out z o l') (sym f) (sym g) (obeyed-all e)
        go (malformed e f q) =
            subst (λ (z : Stage). Feeds (machine r (running s h line)) bytes l out (record { stage = z; length = fed.length }) last l') (sym f) (obeyed-broken e room b q)
        go (filled {from = i} {used = n} e f g) = absurd (full i n e)
