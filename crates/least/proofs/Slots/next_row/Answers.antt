-- `least::Slots::next_row` meets its contract. The loop's invariant: the row is filled from slot i on (`RowFrom`).
use native.Mathlib.Omega.{arith}
use Rattle.least.proofs.RowLoops.{row-start, row_step, row-end}
use Rattle.least.proofs.Slots.next_row.Goals as goal

pub loop-i-init : goal.loop-i-init
loop-i-init c = row-start _ _ c.args.self.few

pub loop-i-preserved : goal.loop-i-preserved
loop-i-preserved c =
    let loop = c.loop-i in
    row_step _ _ loop.row _ _ c.args.self.few (omega arith) loop.invariant c.least_from.ensures

pub returns : goal.returns
returns c = row-end _ _ (omega arith) c.loop-i.invariant
