use Rattle.std.proofs.Common.{◌≡◌, ◌+◌, ◌<◌, ◌≤◌, ◌-◌, [], ◌∷◌, ◌++◌, ℕ, ap, arith, take, length, get_or-take, length-take-le}
use Rattle.script.specs.Writing.{decimal}
use Rattle.script.proofs.WritingLaws.{word-length, put-end, put-start, put-text, spaced_row, row-more, row-end}
use Rattle.script.proofs.write.put_row.Goals as goal

pub loop-x-init : goal.loop-x-init
loop-x-init c = record { low = omega arith; put = put-start c.args.out.now c.args.at c.args.numbers.now }

pub put_then-end-requires : goal.put_then-end-requires
put_then-end-requires c =
    let ns = c.args.numbers.now in
    let i = c.loop-x.x-index in
    let h : i < length ns - 1 = omega (arith, length-take-le (length ns - 1) ns (omega arith)) in
    omega (arith, ap (λ (n : ℕ). length (decimal n)) (get_or-take (length ns - 1) ns i 0 h), word-length _ (c.type_inv.numbers i).fits)

pub loop-x-preserved : goal.loop-x-preserved
loop-x-preserved c =
    let ns = c.args.numbers.now in
    let i = c.loop-x.x-index in
    let inv = c.loop-x.invariant in
    let h : i < length ns - 1 = omega (arith, length-take-le (length ns - 1) ns (omega arith)) in
    let fits = (c.type_inv.numbers i).fits in
    let put = put-text (ap (λ (n : ℕ). decimal n ++ (32 ∷ [])) (get_or-take (length ns - 1) ns i 0 h)) c.put_then-end.ensures in
    record {
      low = omega (arith, put-end _ _ fits put);
      put = row-more ns i (omega arith) fits inv.low c.requires.1 inv.put put;
    }

pub put_then-requires : goal.put_then-requires
put_then-requires c =
    let ns = c.args.numbers.now in
    let e : c.loop-x.x-index ≡ length ns - 1 = omega (arith, length-take-le (length ns - 1) ns (omega arith)) in
    let room : (at n : ℕ) → at ≤ c.loop-x.end → n < 4_294_967_296 → at + length (decimal n) + 1 ≤ length c.loop-x.out = λ at n l h. omega (arith, l, word-length n h) in
    room _ _ (omega arith) (c.type_inv.numbers _).fits

pub returns : goal.returns
returns c =
    let ns = c.args.numbers.now in
    let inv = c.loop-x.invariant in
    let e : c.loop-x.x-index ≡ length ns - 1 = omega (arith, length-take-le (length ns - 1) ns (omega arith)) in
    row-end ns (length ns - 1) (omega arith) (c.type_inv.numbers (length ns - 1)).fits (omega arith) c.requires.1 (put-text (ap (λ (n : ℕ). spaced_row (take n ns)) e) inv.put) (omega arith) c.put_then.ensures
