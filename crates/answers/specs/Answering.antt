-- A block of commands is obeyed: each is a line that changes the slices, and its answer is written.
use Rattle.std.specs.Prelude.{ℕ, zero, suc, ◌+◌, ◌*◌, ◌/◌, ◌%◌, ◌≤◌, ◌≡◌, refl, List, [], ◌∷◌, ◌++◌, map, length, take}
use Rattle.std.proofs.Common.{arith, sym, ap, subst, ◌∙◌, append_assoc, append-nil, length-take-le}
use Rattle.lists.specs.Listed.{listed}
use Rattle.rules.specs.declared.Sizes.{Sizes}
use Rattle.rules.specs.declared.Command.{Command}
use Rattle.rules.specs.declared.Answer.{Answer}
use Rattle.rules.specs.Rules as ru
use Rattle.rules.specs.Rules.{Regioned}
use Rattle.layout.specs.Words.{Words, sizes_in}
use Rattle.chains.specs.Chains.{ChainsWhole, with_chains}
use Rattle.chains.proofs.LentChains.{chains-same, written-whole, written-long, written-again}
use Rattle.chains.proofs.Walking.{whole_long}
use Rattle.promises.specs.Slices.{Slices, WholeSlices}
use Rattle.promises.specs.StandsFor.{StandsFor}
use Rattle.promises.specs.Promises.{Chain, none, more, answer_at, size, commands_in, answers_in, RunAsked, not_whole, other_chains, uneven, short, accepted, Ran, Did}
use Rattle.promises.specs.Agreed.{whole_words}
use Rattle.promises.specs.Chained.{chained}
use Rattle.script.specs.Writing.{Put}
use Rattle.script.proofs.WritingLaws.{put-text}
use Rattle.script.specs.Blocks.{stacked, answer_line}
use Rattle.printed.specs.Printed.{running, answer_text, takes}
use Rattle.lines.specs.Lines.{Lent, LineChanges, LinesChange}
use Rattle.answers.specs.Answers.{Counted, as_line, Answered, answers_text}

answers-append : (as' : List Answer) (a : Answer) → answers_text (as' ++ a ∷ []) ≡ answers_text as' ++ answer_text a
unfolding answers_text
answers-append [] a = append-nil (answer_text a)
answers-append (b ∷ as') a = ap (λ (t : List ℕ). answer_text b ++ t) (answers-append as' a) ∙ sym (append_assoc (answer_text b) (answers_text as') (answer_text a))

answers-stacked : (words : List ℕ) (n : ℕ) → answers_text (listed (answer_at words) n) ≡ stacked (answer_line words) n
unfolding answers_text listed stacked
answers-stacked words zero = refl
answers-stacked words (suc n) = answers-append (listed (answer_at words) n) (answer_at words n) ∙ ap (λ (t : List ℕ). t ++ answer_line words n) (answers-stacked words n)

-- the lengths of the words stay through a chain of commands
chain-lent : (s : Sizes) {w w' : Words} {ms : List Command} {as' : List Answer} → Chain s w ms as' w' → (k k' : List ℕ) → length k' ≡ length k
    → Lent (record { words = w; chains = k }) → Lent (record { words = w'; chains = k' })
chain-lent s none k k' e l = record { cells = l.cells; remember = l.remember; tables = l.tables; chains = e ∙ l.chains }
chain-lent s (more d c) k k' e l =
    chain-lent s c k k' e
    (record {
      cells = d.beyond.cells.long ∙ l.cells;
      remember = d.beyond.remember.long ∙ l.remember;
      tables = d.beyond.tables.long ∙ l.tables;
      chains = l.chains;
    })

-- each command of the chain is a line that changes the words, and the chains with them
chain-changes : (s : Sizes) {w w' : Words} {ms : List Command} {as' : List Answer} → Chain s w ms as' w' → (h : Regioned) (cell_of : ℕ → ℕ) → StandsFor s w h cell_of
    → (k : List ℕ) → ChainsWhole s w.remember k
    → (line : ℕ) → LinesChange (running s h line) (map as_line ms) (record { words = w; chains = k }) (record { words = w'; chains = with_chains s w'.remember k })
unfolding LinesChange LineChanges takes
chain-changes s (none {w}) h cell_of st k whole line = ap {B = Slices} (λ (x : List ℕ). record { words = w; chains = x }) (sym (chains-same whole))
chain-changes s (more {w} {w₁} {w'} {m} {a} {ms} d c) h cell_of st k whole line =
    let n = d.next h cell_of st in
    let room = n.stands.whole.remember.entries.room in
    let k₁ = with_chains s w₁.remember k in (
      record { words = w₁; chains = k₁ },
      (subst (λ (x : Answer). Did s w m w₁ x) (d.answer h cell_of st) d, refl),
      subst (λ (x : List ℕ). LinesChange (running s (ru.step s h m).next (line + 1)) (map as_line ms) (record { words = w₁; chains = k₁ }) (record { words = w'; chains = x })) (written-again s w₁.remember w'.remember k room)
          (chain-changes s c (ru.step s h m).next n.cell n.stands k₁ (written-whole s w₁.remember k room) (line + 1)),
    )

-- a run of whole slices on whole commands is accepted
ran-accepted : {l l' : Slices} {block lent answers : List ℕ} {q : ℕ} → WholeSlices l → length block % 5 ≡ 0 → 2 * size block ≤ length lent → Ran l block lent q l' answers → q ≡ 0
ran-accepted {l} {l'} {block} {lent} {answers} {q} k e n r = go r.asked
  where
    go : RunAsked l block lent q → q ≡ 0
    go (not_whole f x) = absurd (x k.words)
    go (other_chains f g x) = absurd (x k.chains)
    go (uneven f g x) = absurd (x e)
    go (short f g m x) = absurd (let z : ⊥ = omega arith in z)
    go (accepted f g m x) = f

pub answered : {l l' : Slices} {block lent answers out after : List ℕ} {q end : ℕ} (used : ℕ) → Counted used block out → length lent ≡ 3278
    → Ran l (take used block) lent q l' answers → Put out 0 (stacked (answer_line answers) (used / 5)) after end
    → (s : Sizes) (h : Regioned) (cell_of : ℕ → ℕ) → StandsFor s l.words h cell_of → ChainsWhole s l.words.remember l.chains → Answered s h (take used block) l out end after l'
answered {l} {l'} {block} {lent} {answers} {out} {after} {q} {end} used room enough ran put s h cell_of st whole =
    let long : length (take used block) ≡ used = length-take-le used block room.words in
    let sizes : sizes_in l.words ≡ s = st.whole.sized.sizes in
    let all : WholeSlices l = record { words = whole_words s l.words st.whole; chains = subst (λ (x : Sizes). ChainsWhole x l.words.remember l.chains) (sym sizes) whole } in
    let z : q ≡ 0 = ran-accepted all (ap (λ (n : ℕ). n % 5) long ∙ room.even) (omega (arith, long, room.few)) ran in
    let c : Chain s l.words (commands_in (take used block)) (answers_in (take used block) answers) l'.words = subst (λ (x : Sizes). Chain x l.words (commands_in (take used block)) (answers_in (take used block) answers) l'.words) sizes (ran.obeyed z) in
    let e : l'.chains ≡ with_chains s l'.words.remember l.chains = subst (λ (x : Sizes). l'.chains ≡ with_chains x l'.words.remember l.chains) sizes (ran.chains z) in
    let k = chained s c h cell_of st in
    let last = k.stands.whole.remember.entries.room in
    let same = ap length e ∙ written-long s l'.words.remember l.chains last (whole_long st.whole.remember.entries.room whole) in
    record {
      text = put-text (ap (λ (n : ℕ). stacked (answer_line answers) (n / 5)) (sym long) ∙ sym (answers-stacked answers (size (take used block))) ∙ ap answers_text k.answers) put;
      cell = k.cell;
      stands = k.stands;
      chains = subst (ChainsWhole s l'.words.remember) (sym e) (written-whole s l'.words.remember l.chains last);
      lent = chain-lent s c l.chains l'.chains same;
      changes = λ line. subst (λ (x : List ℕ). LinesChange (running s h line) (map as_line (commands_in (take used block))) l (record { words = l'.words; chains = x })) (sym e)
          (chain-changes s c h cell_of st l.chains whole line);
    }
