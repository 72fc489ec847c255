-- `least::Slots::fill_rows` meets its contract. The loop's invariant: the row is that of what comes after a window
-- where v windows are left, and the window counts below v have been compared with the covered maximum, with the thrift
-- so far (`RowsSoFar`).
use native.Mathlib.Omega.{arith}
use Rattle.least.proofs.RowLoops.{rows_start, rows_step, rows_end}
use Rattle.least.proofs.Slots.fill_rows.Goals as goal

pub loop-v-init : goal.loop-v-init
loop-v-init c = rows_start _ c.args.self.classes.now c.args.self.few

pub loop-v-preserved : goal.loop-v-preserved
loop-v-preserved c =
    rows_step _ _ _ _ _ c.loop-v.invariant c.next_row-row.ensures c.after_window-after.ensures c.from-first.ensures
    c.thrift_after-thrift.ensures

pub returns : goal.returns
returns c = rows_end _ _ (omega arith) c.loop-v.invariant
