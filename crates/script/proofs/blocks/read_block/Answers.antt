use Rattle.std.proofs.Common.{ℕ, ◌+◌, ◌-◌, ◌≤◌, ◌≡◌, List, sym, ap, ap₂, ◌∙◌, arith, add-zero, length, length-take, length-drop, drop, set, get_or}
use Rattle.std.proofs.Math.Seq.{paste, paste-zero, paste-suc}
use Rattle.std.proofs.lemmas.Slice.{put_mid-paste}
use borrow.Rule.Slice.PartMut.{put_mid}
use Rattle.script.specs.declared.Step.TheVariants.{More, Ended}
use Rattle.script.specs.Blocks.{words_put}
use Rattle.script.specs.ReadingCases.{step-goes-on, step-ends}
use Rattle.script.specs.BlocksCases.{took, fill_more, fill-full, fill_on, fill-broken, fill_done}
use Rattle.script.proofs.blocks.read_block.Goals as goal
use Rattle.script.proofs.blocks.read_block.Goals.{then-text-at-ne10, else-text-at-ne10+in-Ok+else-block-n}

-- five numbers that are copied to the words from n on are put there one by one
words-copied : (block ns part : List ℕ) (n k : ℕ) → part ≡ ns → k ≡ 5 → length ns ≡ 5 → n + 5 ≤ length block → put_mid n k block part ≡ words_put block n ns
words-copied block ns part n k e five long room =
    let one : set block n (get_or ns 0 0) ≡ paste block n ns 1 = ap₂ (λ (l : List ℕ) (i : ℕ). set l i (get_or ns 0 0)) (paste-zero block n ns) (sym (add-zero n)) ∙ paste-suc block n ns 0 0 (omega arith) (omega arith) in
    let two = ap (λ (l : List ℕ). set l (n + 1) (get_or ns 1 0)) one ∙ paste-suc block n ns 1 0 (omega arith) (omega arith) in
    let three = ap (λ (l : List ℕ). set l (n + 2) (get_or ns 2 0)) two ∙ paste-suc block n ns 2 0 (omega arith) (omega arith) in
    let four = ap (λ (l : List ℕ). set l (n + 3) (get_or ns 3 0)) three ∙ paste-suc block n ns 3 0 (omega arith) (omega arith) in
    put_mid-paste n k block part ns 5 e (sym five) (sym long) ∙ sym (ap (λ (l : List ℕ). set l (n + 4) (get_or ns 4 0)) four ∙ paste-suc block n ns 4 0 (omega arith) (omega arith))

pub loop-at-preserved : goal.loop-at-preserved
loop-at-preserved c =
    let inv = c.loop-at.invariant in
    elim c.if-text-at-ne10.branch [
      | then-text-at-ne10 w ↦
          simp (w.reader-is, w.block-is, w.n-is)
          (sym (fill_more _ _ _ _ _ c.loop-at-test.true _ (step-goes-on _ _ w.if-text-at-ne10.true ∙ ap More (sym w.read_byte.ensures))) ∙ inv.0, inv.1)
      | else-text-at-ne10+in-Ok+else-block-n w ↦
          let copied = w.copy_from_slice.ensures in
          let n = c.loop-at.n in
          let five : n + 5 - n ≡ 5 = omega arith in
          let long : length w.in-Ok.numbers ≡ 5 = omega (arith, inv.1, copied.len, ap length copied.after, length-take (n + 5 - n) (drop n c.loop-at.block), length-drop n c.loop-at.block) in
          let put = words-copied c.loop-at.block w.in-Ok.numbers w.copy_from_slice.new.self n (n + 5 - n) copied.after five long inv.1 in
          simp (w.reader-is, w.block-is, w.n-is)
          (sym (fill_on _ _ _ _ _ c.loop-at-test.true _ (step-ends _ _ w.if-text-at-ne10.false ∙ ap Ended (sym w.end.ensures ∙ w.in-Ok.is)) _ put w.if-block-n.false _ w.start-reader.ensures) ∙ inv.0, omega (arith, w.if-block-n.false))
    ]

pub returns-then-block-n : goal.returns-then-block-n
returns-then-block-n c =
    let inv = c.loop-at.invariant in
    let copied = c.copy_from_slice.ensures in
    let n = c.loop-at.n in
    let five : n + 5 - n ≡ 5 = omega arith in
    let long : length c.in-Ok.numbers ≡ 5 = omega (arith, inv.1, copied.len, ap length copied.after, length-take (n + 5 - n) (drop n c.loop-at.block), length-drop n c.loop-at.block) in
    let put = words-copied c.loop-at.block c.in-Ok.numbers c.copy_from_slice.new.self n (n + 5 - n) copied.after five long inv.1 in
    took (sym inv.0 ∙ fill-full _ _ _ _ _ c.loop-at-test.true _ (step-ends _ _ c.if-text-at-ne10.false ∙ ap Ended (sym c.end.ensures ∙ c.in-Ok.is)) _ put c.if-block-n.true)

pub returns-in_default : goal.returns-in_default
returns-in_default c = took (sym c.loop-at.invariant.0 ∙ fill-broken _ _ _ _ _ c.loop-at-test.true _ (step-ends _ _ c.if-text-at-ne10.false ∙ ap Ended (sym c.end.ensures ∙ c.in_default.is)))

pub returns : goal.returns
returns c = took (sym c.loop-at.invariant.0 ∙ fill_done _ _ _ _ _ c.loop-at-test.false)
