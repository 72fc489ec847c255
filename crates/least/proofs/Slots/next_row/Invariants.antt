-- `least::Slots::next_row` meets its contract. The loop's invariant: the row is filled from slot i on (`RowFrom`).
use Rattle.least.proofs.RowLoops.{RowFrom}
use Rattle.least.proofs.Slots.next_row.Given as goal

abbrev pub invariant-loop-i : goal.invariant-loop-i
invariant-loop-i l = RowFrom l.self.settings l.self.classes.now l.after l.row l.i
