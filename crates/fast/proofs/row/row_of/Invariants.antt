-- `fast::row::row_of` meets its contract. The loop's invariant: the row is made from slot i on (`MadeFrom`).
use Rattle.fast.proofs.RowLoop.{MadeFrom}
use Rattle.fast.proofs.row.row_of.Given as goal

abbrev pub invariant-loop-i : goal.invariant-loop-i
invariant-loop-i l = MadeFrom l.slots.settings.shape l.slots.classes.now l.slots.reach l.ends l.minima l.row l.near l.i
