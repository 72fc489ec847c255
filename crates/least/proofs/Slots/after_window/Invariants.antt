-- `least::Slots::after_window` meets its contract. The loop's invariant: what comes after a window is filled from slot i on
-- (`AfterFrom`).
use Rattle.least.proofs.AfterLoop.{AfterFrom}
use Rattle.least.proofs.Slots.after_window.Given as goal

abbrev pub invariant-loop-i : goal.invariant-loop-i
invariant-loop-i l = AfterFrom l.self.settings l.self.classes.now l.row l.after l.lack l.i
