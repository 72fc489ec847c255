-- `fast::pen::draw_on` meets its contract. The loop's invariant: to draw on is to draw on from the start
-- (`LeftToDraw`).
use Rattle.fast.proofs.DrawLoop.{LeftToDraw, pen_at}
use Rattle.fast.proofs.pen.draw_on.Given as goal

abbrev pub invariant-loop-i : goal.invariant-loop-i
invariant-loop-i l = LeftToDraw l.slots.settings.shape l.slots.classes.now l.row l.fn.pen l.initial.marks (pen_at l.i l.mark l.covered) l.marks
