-- No epoch is open, nothing survives, or the marked words are ended.
use Rattle.std.proofs.Common.{ℕ, ◌<◌, false, ◌≡◌, refl, sym, ◌∙◌, arith}
use Rattle.layout.specs.Places.{depth_of, mark_of}
use Rattle.layout.specs.Words.{Words, words}
use Rattle.chains.proofs.LentChains.{chains-same}
use Rattle.promises.specs.Reading.{whole_room}
use Rattle.promises.proofs.Questions.{did-answer}
use Rattle.mark.specs.Survivors.{none-survives}
use Rattle.ending.specs.Ending.{Ending, ended_here}
use Rattle.ended.specs.EndQuestion.{refused-shut}
use Rattle.epoch.specs.EndDid.{marked-noted, accepted, free-way}
use Rattle.epoch.proofs.end.Goals as goal
use Rattle.epoch.proofs.end.Goals.{After-mark_survivors}

-- the words before the marking, and after it
abbrev before : goal.After-mark_survivors → Words
before c =
    let a = c.args in words a.cells.now a.remember.now a.tables.now

abbrev after : goal.After-mark_survivors → Words
after c =
    words c.mark_survivors.new.cells c.args.remember.now c.mark_survivors.new.tables

level : (c : goal.After-mark_survivors) → depth_of (let a = c.args in words a.cells.now a.remember.now a.tables.now).tables c.args.thread ≡ c.depth-level.result
level c =
    sym c.depth-level.ensures

ending : (c : goal.After-mark_survivors) → Ending c.args.p c.args.thread c.depth-level.result c.region_at-region.result (let a = c.args in words a.cells.now a.remember.now a.tables.now) (words c.mark_survivors.new.cells c.args.remember.now c.mark_survivors.new.tables)
ending c =
    let a = c.args in
    record {
      whole = c.requires.whole_for;
      fits = (omega arith);
      thread = c.requires.thread_lt_threads;
      level = sym c.depth-level.ensures;
      epoch = omega (arith, c.if-level-eq0.false);
      region = c.region_at-region.ensures;
      marks = c.mark_survivors.ensures.marked;
    }

unmarked : (c : goal.After-mark_survivors) → c.mark_survivors.result ≡ false → (page : ℕ) → page < c.args.p.pages → mark_of c.args.p (words c.mark_survivors.new.cells c.args.remember.now c.mark_survivors.new.tables).tables page ≡ 0
unmarked c e = none-survives c.args.p (before c) _ (after c) (ending c).marks c.mark_survivors.result c.mark_survivors.ensures.says e

pub depth-level-requires : goal.depth-level-requires
depth-level-requires c =
    let a = c.args in record {
      room = whole_room a.p (words a.cells.now a.remember.now a.tables.now) c.requires.whole_for (omega arith);
      k_lt_threads = c.requires.thread_lt_threads;
    }

pub returns-then-level-eq0 : goal.returns-then-level-eq0
returns-then-level-eq0 c =
    let a = c.args in record {
      did_here = did-answer refl
          (refused-shut a.p (words a.cells.now a.remember.now a.tables.now) c.requires.whole_for a.thread c.requires.thread_lt_threads (sym c.depth-level.ensures ∙ c.if-level-eq0.true));
      noted_2 = c.requires.noted;
      chains_after = chains-same c.requires.chains_whole;
    }

pub region_at-region-requires : goal.region_at-region-requires
region_at-region-requires c =
    let a = c.args in
    let rm = whole_room a.p (words a.cells.now a.remember.now a.tables.now) c.requires.whole_for (omega arith) in
    (rm.threads-high, rm.depth-high, c.requires.thread_lt_threads, omega (arith, c.requires.whole_for.depths a.thread c.requires.thread_lt_threads, c.depth-level.ensures))

pub mark_survivors-requires : goal.mark_survivors-requires
mark_survivors-requires c = record {
  whole_for = c.requires.whole_for;
  chains_whole = c.requires.chains_whole;
  thread_lt_threads = (c.requires.thread_lt_threads, c.depth-level.ensures, omega (arith, c.if-level-eq0.false), c.region_at-region.ensures);
}

pub end_marked-requires : goal.end_marked-requires
end_marked-requires c =
    let m = ending (goal.at.end_marked-requires c).After-mark_survivors in record {
      by_index = (c.args.cells.now, c.args.tables.now, m);
      noted = marked-noted m c.requires.noted;
      chains_whole = c.requires.chains_whole;
    }

pub returns-then-mark_survivors : goal.returns-then-mark_survivors
returns-then-mark_survivors c =
    let m = ending (goal.at.returns-then-mark_survivors c).After-mark_survivors in record {
      did_here = c.end_marked.ensures.by_index_2 c.args.cells.now c.args.tables.now m;
      noted_2 = c.end_marked.ensures.noted_2;
      chains_after = c.end_marked.ensures.chains_after;
    }

pub evacuate_none-requires : goal.evacuate_none-requires
evacuate_none-requires c =
    let a = c.args in
    let m = ending (goal.at.evacuate_none-requires c).After-mark_survivors in
    let none = unmarked (goal.at.evacuate_none-requires c).After-mark_survivors c.if-mark_survivors.false in record {
      by_index = (a.cells.now, a.tables.now, m, accepted m (free-way m none));
      by_index_2 = none;
      noted = marked-noted m c.requires.noted;
      chains_whole = c.requires.chains_whole;
    }

pub returns : goal.returns
returns c =
    let a = c.args in
    let m = ending (goal.at.returns c).After-mark_survivors in
    let yes = accepted m (free-way m (unmarked (goal.at.returns c).After-mark_survivors c.if-mark_survivors.false)) in record {
      did_here = did-answer refl (ended_here m yes (c.evacuate_none.ensures.by_index_3 a.cells.now a.tables.now m yes));
      noted_2 = c.evacuate_none.ensures.noted_2;
      chains_after = c.evacuate_none.ensures.chains_after;
    }
