-- `drawing::complete` meets its contract. The loop's invariant: to draw the slots from i on is to draw all (`LeftToDraw`).
use Rattle.drawing.proofs.CompleteLoop.{LeftToDraw}
use Rattle.drawing.proofs.complete.Given as goal

abbrev pub invariant-loop-i : goal.invariant-loop-i
invariant-loop-i l = LeftToDraw l.settings l.classes l.front l.initial.marks l.marks l.mark l.windows l.covered l.row l.i
