-- An empty piece is the end of the input; any other is fed.
use Rattle.std.proofs.Common.{arith}
use Rattle.stream.specs.Going.{advances-end, advances-on}
use Rattle.stream.proofs.advance.Goals as goal

pub feed-requires : goal.feed-requires
feed-requires c = record {
  room = (record { piece = c.requires.piece_len_bound.0; text-room = omega (arith, c.requires.piece_len_bound.0, c.requires.piece_len_bound.1) }, omega (arith, c.requires.piece_len_bound.0, c.requires.piece_len_bound.2));
  placed = c.requires.placed;
}

pub returns-then-piece-eq0 : goal.returns-then-piece-eq0
returns-then-piece-eq0 c = record {
  advances = λ m a. advances-end _ c.if-piece-eq0.true (c.close.ensures.closes m a);
  length_bound = omega (arith, c.close.ensures.upper_bound);
  same_lent = c.close.ensures.same_lent;
}

pub returns-else-piece-eq0 : goal.returns-else-piece-eq0
returns-else-piece-eq0 c = record {
  advances = λ m a. advances-on _ c.if-piece-eq0.false (c.feed.ensures.feeds m a);
  length_bound = omega (arith, c.feed.ensures.length_bound, c.requires.piece_len_bound.0);
  same_lent = c.feed.ensures.same_lent;
}
