-- What was read is fed, and what that prints is handed to the write.
use Rattle.std.proofs.Common.{refl, ◌∙◌, arith, length-take, length-take-le}
use Rattle.lines.specs.Held.{same-kept}
use Rattle.stream.specs.Turns.{unread}
use Rattle.stream.specs.Going.{bytes-short, turn_moved}
use Rattle.stream.proofs.turn.Goals as goal

pub slice_bounds-advance-end : goal.slice_bounds-advance-end
slice_bounds-advance-end g c = omega (arith, bytes-short c.in-Ok.is c.read_piece-piece.ensures)

pub advance-fed-requires : goal.advance-fed-requires
advance-fed-requires g c = record {
  piece_len_bound = (simp length-take (omega (arith, c.requires.buffers.0.piece-room)), omega (arith, c.requires.buffers.0.text-room), c.requires.buffers.1);
  placed = c.requires.placed;
}

pub slice_bounds-print-end : goal.slice_bounds-print-end
slice_bounds-print-end g c = omega (arith, c.advance-fed.ensures.length_bound, c.requires.buffers.0.text-room)

pub returns-in-Err : goal.returns-in-Err
returns-in-Err g c = record { turned = unread refl refl refl refl refl; read_in_bounds = (omega arith, omega arith); same_lent = same-kept c.args.memory.now }

pub returns-in-Ok : goal.returns-in-Ok
returns-in-Ok g c =
    let fed = c.advance-fed in
    let printed = c.print-printed in
    let length-is = printed.ensures ∙ length-take-le fed.result.length fed.new.out (omega (arith, fed.ensures.length_bound, c.requires.buffers.0.text-room)) in
    record {
      turned = turn_moved printed.result.taken c.ending_at.ensures fed.ensures.advances length-is;
      read_in_bounds = (bytes-short c.in-Ok.is c.read_piece-piece.ensures, omega (arith, length-is, fed.ensures.length_bound));
      same_lent = fed.ensures.same_lent;
    }
