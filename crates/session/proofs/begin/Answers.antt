-- The first line decides: the piece has none, or the commands after it are obeyed, or it stops the program.
use Rattle.std.proofs.Common.{arith}
use Rattle.lines.specs.Held.{same-kept, same-after}
use Rattle.session.specs.Opening.{begun-here, opened-none, opened-on, opened-refused}
use Rattle.session.proofs.begin.Goals as goal

pub obey-requires : goal.obey-requires
obey-requires c = record {
  room = (c.requires.room, omega (arith, c.requires.room.piece));
  here = begun-here c.prepare.ensures.begun c.if-prepare.true;
}

pub returns-in-Open : goal.returns-in-Open
returns-in-Open c = record {
  feeds = opened-none _ _ c.read_line-scan.ensures c.in-Open.is c.args.memory.now.lent;
  length_bound = omega arith;
  same_lent = same-kept c.args.memory.now;
}

pub returns-then-prepare : goal.returns-then-prepare
returns-then-prepare c = record {
  feeds = opened-on _ _ c.read_line-scan.ensures c.in-Found.is c.prepare.ensures.begun c.if-prepare.true c.start.ensures (λ s h l k. c.obey.ensures.feeds s h l);
  length_bound = c.obey.ensures.length_bound;
  same_lent = same-after c.args.memory.now c.prepare.new.memory c.obey.new.memory c.prepare.ensures.same_lent c.obey.ensures.same_lent;
}

pub returns-else-prepare : goal.returns-else-prepare
returns-else-prepare c = record {
  feeds = opened-refused _ _ c.read_line-scan.ensures c.in-Found.is c.prepare.ensures.begun c.if-prepare.false c.put_sizes.ensures;
  length_bound = omega (arith, c.put_sizes.ensures.end_is);
  same_lent = c.prepare.ensures.same_lent;
}
