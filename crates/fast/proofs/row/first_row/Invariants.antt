-- `fast::row::first_row` meets its contract. The loop's invariant: the row is filled from slot i on (`FirstRowFrom`).
use Rattle.fast.proofs.FirstRowLoop.{FirstRowFrom}
use Rattle.fast.proofs.row.first_row.Given as goal

abbrev pub invariant-loop-i : goal.invariant-loop-i
invariant-loop-i l = FirstRowFrom l.slots.classes.now l.row l.i
