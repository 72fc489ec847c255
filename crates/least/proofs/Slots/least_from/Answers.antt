-- `least::Slots::least_from` meets its contract: a slot is left uncovered, or opens a window (`RowLoops`).
use native.Mathlib.Omega.{arith}
use Rattle.least.proofs.RowLoops.{least-uncovered, least-opening}
use Rattle.least.proofs.Slots.least_from.Goals as goal

pub returns-then-self-i-ne-OVER : goal.returns-then-self-i-ne-OVER
returns-then-self-i-ne-OVER c =
    let args = c.args in
    let slots = args.self in
    λ w b is. least-uncovered slots.settings slots.classes.now args.i w args.next (omega arith) c.if-self-i-ne-OVER.true is

pub returns : goal.returns
returns c =
    let args = c.args in
    let slots = args.self in
    λ w b is.
    rw (c.saturating_add.ensures, c.min.ensures)
    (least-opening slots.settings slots.classes.now args.after.now args.i w b _ (omega arith) (omega arith)
    c.if-self-i-ne-OVER.false (c.least_inside-later.ensures w b))
