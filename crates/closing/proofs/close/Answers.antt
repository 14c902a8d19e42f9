-- A line that has begun is fed its line feed first.
use Rattle.std.proofs.Common.{sym, ◌∙◌, arith}
use Rattle.lines.specs.Held.{same-kept}
use Rattle.closing.specs.Closing.{closed-begun, closed-idle}
use Rattle.closing.proofs.close.Goals as goal

pub feed-fed-requires : goal.feed-fed-requires
feed-fed-requires c = record {
  room = (record { piece = omega arith; text-room = omega (arith, c.requires.in_bounds.0) }, omega (arith, c.requires.in_bounds.1));
  placed = c.requires.placed;
}

pub put_end-requires : goal.put_end-requires
put_end-requires c =
    let feed = c.feed-fed in record {
      by_index = (_, _, (_, (feed.ensures.feeds c.requires.placed.0 c.requires.placed.1).is_at));
      at_in_bounds = omega (arith, feed.ensures.length_bound, c.requires.in_bounds.0);
    }

pub returns-then-is_begun : goal.returns-then-is_begun
returns-then-is_begun c =
    let feed = c.feed-fed in
    let put-end = c.put_end in record {
      closes = λ m a. closed-begun a (sym c.is_begun.ensures ∙ c.if-is_begun.true) (feed.ensures.feeds m a) put-end.ensures.put (omega (arith, feed.ensures.length_bound, c.requires.in_bounds.0)) (omega (arith, put-end.ensures.upper_bound));
      upper_bound = omega (arith, feed.ensures.length_bound, put-end.ensures.upper_bound);
      same_lent = feed.ensures.same_lent;
    }

pub returns-else-is_begun : goal.returns-else-is_begun
returns-else-is_begun c = record {
  closes = λ m a. closed-idle a (sym c.is_begun.ensures ∙ c.if-is_begun.false) (c.put_end-else-is_begun.ensures.put m _ _ a);
  upper_bound = omega (arith, c.put_end-else-is_begun.ensures.upper_bound);
  same_lent = same-kept c.args.memory.now;
}
