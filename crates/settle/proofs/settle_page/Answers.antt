use Rattle.std.proofs.Common.{arith, ℕ, ◌-◌, ◌/◌, ◌^◌, ◌≢◌, ◌≡◌, refl, sym, ap, ◌∙◌}
use lib.Count.{count_trailing_zeros}
use Rattle.lists.specs.Bits.{Lowest}
use Rattle.lists.specs.SetBits.{walk_start, walk-lowest, walk_turn, walk_end}
use Rattle.layout.specs.Cells.{work_of, cell_named, cell_on, page_of, page-on, cell_in}
use Rattle.copy.specs.Marks.{copied}
use Rattle.copy.specs.Forward.{forward}
use Rattle.settle.specs.Rewrite.{link-same}
use Rattle.settle.specs.RewriteCopies.{passed-split, within-passed, bit-copied, unset-none, slot-less, second-wired}
use Rattle.settle.specs.Settle.{settled-none, settled-like, second-settling, second-settled, copy-fields, copy-settling, copy-settled}
use Rattle.settle.proofs.settle_page.Goals as goal
use Rattle.settle.proofs.settle_page.Goals.{After-cell_named-copy, After-work-forward, In-loop}

lowest : (c : goal.In-loop) → Lowest c.loop.left (count_trailing_zeros 32 c.loop.left)
lowest c =
    walk-lowest c.loop.invariant.0 (omega (arith, c.loop-test.true))

-- it is a survivor's, and this is its copy
old : (c : goal.After-work-forward) → (let a = c.args in let l = c.loop in copied a.p a.tables.now (cell_on a.page (count_trailing_zeros 32 l.left)) ≡ 1)
old c =
    let l = c.loop in
    let f = (walk-lowest c.loop.invariant.0 (omega (arith, c.loop-test.true))) in
    let a = c.args in
    bit-copied a.p a.page a.tables.now (c.upper_half-copied.ensures ∙ ap (λ (x : ℕ). x / 2 ^ 16) c.mark.ensures) (count_trailing_zeros 32 l.left) f.lt (l.invariant.0.under (count_trailing_zeros 32 l.left) f.on)

link : (c : goal.After-work-forward) → (let l = c.loop in c.work-forward.result ≡ work_of l.cells (cell_on c.args.page (count_trailing_zeros 32 l.left)))
link c =
    c.work-forward.ensures ∙ ap (λ (x : ℕ). work_of c.loop.cells x) c.cell_on.ensures

copy : (c : goal.After-cell_named-copy) → (let l = c.loop in c.cell_named-copy.result ≡ forward l.cells (cell_on c.args.page (count_trailing_zeros 32 l.left)))
copy c =
    c.cell_named-copy.ensures ∙ ap cell_named (c.work-forward.ensures ∙ ap (λ (x : ℕ). work_of c.loop.cells x) c.cell_on.ensures)

pub loop-init : goal.loop-init
loop-init c =
    let e = c.upper_half-copied.ensures ∙ ap (λ (x : ℕ). x / 2 ^ 16) c.mark.ensures in
    (walk_start c.upper_half-copied.result (omega (arith, c.upper_half-copied.ensures)), settled-none _ _ _ _ _ _ _ c.requires.settling.low (unset-none c.args.p c.args.page c.args.tables.now e))

pub cell_on-requires : goal.cell_on-requires
cell_on-requires c = (omega (arith, c.requires.wiring.tables-long.few, c.requires.page_lt_pages), omega (arith, lowest (goal.at.cell_on-requires c).In-loop))

pub work-forward-requires : goal.work-forward-requires
work-forward-requires c =
    let d = ap page_of c.cell_on.ensures ∙ page-on _ _ (lowest (goal.at.work-forward-requires c).In-loop).lt in
    cell_in c.args.p c.requires.wiring.tables-long.few (omega (arith, c.requires.wiring.cells-long)) (omega (arith, d, c.requires.page_lt_pages))

pub cell_named-copy-requires : goal.cell_named-copy-requires
cell_named-copy-requires c =
    let ne : c.work-forward.result ≢ 0 = λ z. c.requires.wiring.moved _ (page-on _ _ (lowest (goal.at.cell_named-copy-requires c).In-loop).lt) (old (goal.at.cell_named-copy-requires c).After-work-forward) (sym (link-same c.loop.invariant.1.rewritten _) ∙ sym (link (goal.at.cell_named-copy-requires c).After-work-forward) ∙ z) in
    omega (arith, ne)

pub settle_cell-i-requires : goal.settle_cell-i-requires
settle_cell-i-requires c =
    let l = c.loop in
    let i : ℕ = count_trailing_zeros 32 l.left in
    let s = passed-split c.args.page i (l.left - 2 ^ i) (lowest (goal.at.settle_cell-i-requires c).In-loop) refl in
    let u = old (goal.at.settle_cell-i-requires c).After-work-forward in
    let e = copy (goal.at.settle_cell-i-requires c).After-cell_named-copy in record {
      fields = copy-fields u _ e (second-wired c.requires.wiring s l.invariant.1.rewritten);
      settling = copy-settling u _ e (second-settling c.requires.wiring s l.invariant.1 c.requires.settling);
      room = c.requires.wiring.tables-long;
    }

pub without_bit-left-requires : goal.without_bit-left-requires
without_bit-left-requires c = let f = lowest (goal.at.without_bit-left-requires c).In-loop in (f.lt, f.on)

pub loop-preserved : goal.loop-preserved
loop-preserved c =
    let a = c.args in
    let l = c.loop in
    let i : ℕ = count_trailing_zeros 32 l.left in
    let f = lowest (goal.at.loop-preserved c).In-loop in
    let left = c.without_bit-left in
    let come = c.settle_cell-i in
    let h = second-settled c.requires.wiring (passed-split a.page i left.result f left.ensures) l.invariant.1 (copy-settled (old (goal.at.loop-preserved c).After-work-forward) _ (copy (goal.at.loop-preserved c).After-cell_named-copy) come.ensures) in
    (walk_turn i left.result l.invariant.0 f left.ensures, h)

pub returns : goal.returns
returns c =
    let none = walk_end c.loop.invariant.0 (omega arith) in
    settled-like c.loop.invariant.1 (slot-less (λ d m. within-passed c.args.page c.loop.left d none m)) (slot-less (λ d m. m.0))
