use Rattle.std.proofs.Common.{◌-◌, replicate, refl, sym, subst, ◌∙◌, arith}
use Rattle.layout.specs.Places.{entries_used}
use Rattle.remember.specs.Table.{entries_in}
use Rattle.remember.specs.TableWords.{to-long, zeros}
use Rattle.chains.specs.Linking.{Firsts}
use Rattle.chains.proofs.Linking.{Read, region-read, firsts-none, firsts_more, next-wrong, nexts-more}
use Rattle.chains.proofs.first_words.Goals as goal
use Rattle.chains.proofs.first_words.Goals.{After-region-g}

-- the region of the entry at hand
near : (c : goal.After-region-g) → Read c.args.last c.args.entries c.args.remember.now c.loop-i.i c.region-g.result
near c = region-read c.requires.listed.room c.requires.listed.among (omega arith) (omega arith) c.region-g.ensures

pub loop-i-init : goal.loop-i-init
loop-i-init c =
    let u = to-long c.args.entries c.args.remember.now (entries_used c.args.remember.now) in
    (refl, firsts-none (entries_in c.args.entries c.args.remember.now) (replicate 129 0) (omega arith) (λ r l. zeros 129 r), λ j l h. absurd (omega (arith, l, h, c.used-i.ensures, u)))

pub first-requires : goal.first-requires
first-requires c = let r = near (goal.at.first-requires c).After-region-g in (r.low, omega (arith, r.high, c.requires.listed.few))

pub returns-then-next-first : goal.returns-then-next-first
returns-then-next-first c =
    next-wrong c.requires.listed.among (near (goal.at.returns-then-next-first c).After-region-g) c.loop-i-test.true c.args.chains.now c.loop-i.first c.loop-i.invariant.1
    (λ q. c.if-next-first.true (c.next.ensures ∙ q ∙ sym c.first.ensures))

pub set_first-requires : goal.set_first-requires
set_first-requires c = let r = near (goal.at.set_first-requires c).After-region-g in (r.low, omega (arith, r.high, c.requires.listed.few))

pub loop-i-preserved : goal.loop-i-preserved
loop-i-preserved c =
    let r = near (goal.at.loop-i-preserved c).After-region-g in
    let l = c.loop-i in
    let es = entries_in c.args.entries c.args.remember.now in (
      c.set_first.auto.chains ∙ l.invariant.0,
      subst (Firsts c.args.last es (l.i - 1)) (sym c.set_first.ensures)
          (firsts_more es c.loop-i-test.true r.place r.is c.requires.listed.among l.first l.invariant.1 (omega (arith, c.requires.listed.few, l.invariant.0))),
      nexts-more c.requires.listed.among r c.loop-i-test.true c.args.chains.now l.first l.invariant.1 (sym c.next.ensures ∙ c.if-next-first.false ∙ c.first.ensures) l.invariant.2,
    )
