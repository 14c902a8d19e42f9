-- Note 0 falls to the pages above the last of the listed ones, or counts no more, or no page is listed.
use Rattle.std.proofs.Common.{length, ◌-◌, arith}
use Rattle.release.specs.Notes.{noted-none, noted-falls, noted-stays}
use Rattle.release.proofs.note_released.Goals as goal

pub returns-then-above-notes : goal.returns-then-above-notes
returns-then-above-notes c =
    let a = c.args in
    let h = c.in-Some.ensures.item.3 in
    noted-falls a.p.pages a.notes.now a.list.now (length a.list.now) (λ z. omega (arith, h.0)) (a.p.pages - 1 - c.in-Some.last.now) (omega (arith, h.1 0)) c.if-above-notes.true

pub returns-else-above-notes : goal.returns-else-above-notes
returns-else-above-notes c =
    let a = c.args in
    let h = c.in-Some.ensures.item.3 in
    noted-stays a.p.pages a.notes.now a.list.now (length a.list.now) (λ z. omega (arith, h.0)) (omega (arith, h.1 0, c.if-above-notes.false))

pub returns-in_default : goal.returns-in_default
returns-in_default c =
    let a = c.args in
    noted-none a.p.pages a.notes.now a.list.now (length a.list.now) (omega (arith, c.in_default.ensures.item.3))
