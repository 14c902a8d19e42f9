use Rattle.std.proofs.Common.{◌≡◌, sym, ap, ◌∙◌, arith}
use Rattle.stages.specs.Stages.{line_of}
use Rattle.stream.specs.declared.Ending.TheVariants.{More, Finished}
use Rattle.stream.specs.Going.{so-far-first, so-far-serves, turned-serves, turned_on, turned-line, turned-some}
use Rattle.stream.proofs.go_on.Goals as goal

pub loop-init : goal.loop-init
loop-init g c = record {
  buffers = c.requires.buffers;
  fed = so-far-first c.start-stage.ensures c.args.memory.now.lent;
  line = omega (arith, ap line_of c.start-stage.ensures);
  read = omega arith;
  printed = omega arith;
  turned = omega arith;
}

pub turn-done-requires : goal.turn-done-requires
turn-done-requires g c = record {
  buffers = (c.loop.invariant.buffers, omega (arith, c.loop.invariant.line));
  placed = (_, c.loop.invariant.fed.is_at);
}

pub returns-then-not-goes_on : goal.returns-then-not-goes_on
returns-then-not-goes_on g c =
    let done = c.turn-done.ensures in
    turned-serves c.loop.invariant.fed done.turned done.read_in_bounds.0 (sym c.goes_on.ensures ∙ c.if-not-goes_on.true)

pub loop-preserved : goal.loop-preserved
loop-preserved g c =
    let inv = c.loop.invariant in
    let done = c.turn-done.ensures in
    let on = sym c.goes_on.ensures ∙ c.if-not-goes_on.false in
    record {
      buffers = record { piece-room = omega (arith, inv.buffers.piece-room); text-room = omega (arith, inv.buffers.text-room) };
      fed = turned_on inv.fed done.turned done.read_in_bounds.0 on;
      line = omega (arith, turned-line inv.fed done.turned done.read_in_bounds.0 on, inv.line, inv.buffers.piece-room);
      read = omega (arith, inv.read, inv.buffers.piece-room);
      printed = omega (arith, inv.printed);
      turned = omega (arith, inv.turned, turned-some inv.fed done.turned done.read_in_bounds.0 on);
    }

pub returns : goal.returns
returns g c = so-far-serves More (λ (e : More ≡ Finished). cc) (λ e. omega (arith, c.loop.invariant.turned)) c.loop.invariant.fed
