-- A collection starts from the words that `commands` left as they were.
use Rattle.chains.proofs.Walking.{whole_long}
use Rattle.promises.proofs.Questions.{did-answer}
use Rattle.heap.specs.Running.{left_end, left-collection, left-whole, left-did, chains-there}
use Rattle.heap.proofs.obey.Goals as goal

pub collect-requires-clause-p_in_bounds : goal.collect-requires-clause-p_in_bounds
collect-requires-clause-p_in_bounds c =
    let args = c.args in
    let obey = c.obey-o in
    let l = left-collection args.p obey.result obey.ensures.obeys c.in-Collects.is in
    let r = left-whole c.requires.whole_for l in
    whole_long r.remember.entries.room (chains-there args.chains.now r obey.ensures.chains_after)

pub returns-in-Collects-clause-did_here : goal.returns-in-Collects-clause-did_here
returns-in-Collects-clause-did_here c =
    let l = left-collection c.args.p c.obey-o.result c.obey-o.ensures.obeys c.in-Collects.is in
    left-did l (c.collect.ensures.by_index _ l.within)

pub returns-in-Ends-clause-did_here : goal.returns-in-Ends-clause-did_here
returns-in-Ends-clause-did_here c =
    let l = left_end c.args.p c.obey-o.result c.obey-o.ensures.obeys c.in-Ends.is in
    did-answer c.from.ensures (left-did l c.end.ensures.did_here)
