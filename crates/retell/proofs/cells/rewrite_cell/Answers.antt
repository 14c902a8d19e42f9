use Rattle.std.proofs.Common.{arith, ◌<◌, ap, ◌∙◌}
use Rattle.layout.specs.Cells.{field_count, refs_of}
use Rattle.layout.specs.declared.Kind.TheVariants.{Reference}
use Rattle.settle.specs.Rewrite.{forwarded, rewritten-none}
use Rattle.retell.specs.Forwarding.{field-forwarded}
use Rattle.retell.proofs.cells.rewrite_cell.Goals as goal
use Rattle.retell.proofs.cells.rewrite_cell.Goals.{In-loop-f}

-- f is a reference field
lt : (c : goal.In-loop-f) → c.loop-f.f < refs_of c.args.cells.now c.args.cell
lt c =
    omega (arith, c.field_count-n.ensures ∙ ap (field_count Reference) c.head.ensures)

pub loop-f-init : goal.loop-f-init
loop-f-init c = rewritten-none _ _ (λ x q. omega (arith, q.low))

pub loop-f-preserved : goal.loop-f-preserved
loop-f-preserved c =
    let l = c.loop-f in
    field-forwarded c.requires (lt (goal.at.loop-f-preserved c).In-loop-f) l.invariant c.forward_ref-y.result (c.forward_ref-y.ensures ∙ ap (forwarded l.cells) c.field-x.ensures) c.set_field.ensures
