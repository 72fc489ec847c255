-- `least::Slots::least_inside` meets its contract. The loop's invariant: what the window has found and
-- covered, with what is to come, makes its least covered count (`Scan`).
use Rattle.least.proofs.InsideLoop.{Scan}
use Rattle.least.proofs.Slots.least_inside.Given as goal

abbrev pub invariant-loop-i : goal.invariant-loop-i
invariant-loop-i l = Scan l.self.classes.now l.after l.from l.initial.window.slots l.initial.window.bridges l.window l.i
