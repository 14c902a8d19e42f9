use Rattle.std.proofs.Common.{refl, ◌∙◌, arith}
use Rattle.promises.specs.Reading.{sizes-there}
use Rattle.promises.specs.Chained.{asked-whole}
use Rattle.pages.specs.Noted.{noted-start}
use Rattle.heap.specs.Looping.{asked-room}
use Rattle.heap.specs.Running.{turn-start, turn_more, whole_ready}
use Rattle.heap.proofs.obey_block.Goals as goal

pub read_sizes-p-requires : goal.read_sizes-p-requires
read_sizes-p-requires c = sizes-there (asked-whole c.requires refl).words.sized

pub loop-i-init : goal.loop-i-init
loop-i-init c =
    let ready = whole_ready (asked-whole c.requires refl) c.read_sizes-p.ensures in
    (turn-start ready.0 ready.1 (asked-room c.requires), refl, noted-start _ _ _ (omega arith) refl)

pub loop-i-preserved : goal.loop-i-preserved
loop-i-preserved c =
    let loop = c.loop-i in
    let obey-at = c.obey_at-a in (
      turn_more loop.invariant.0 c.loop-i-test.true obey-at.ensures.did_here obey-at.ensures.chains_after obey-at.auto.chains,
      obey-at.auto.notes ∙ loop.invariant.1,
      obey-at.ensures.noted_2,
    )
