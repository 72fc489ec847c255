-- `least::Slots::fill_rows` meets its contract. The loop's invariant: the row is that of what comes after a window
-- where v windows are left, and the window counts below v have been compared with the covered maximum, with the thrift
-- so far (`RowsSoFar`).
use Rattle.least.proofs.RowLoops.{RowsSoFar}
use Rattle.least.proofs.Slots.fill_rows.Given as goal

abbrev pub invariant-loop-v : goal.invariant-loop-v
invariant-loop-v l = RowsSoFar l.self.settings l.self.classes.now l.v l.after l.first l.thrift
