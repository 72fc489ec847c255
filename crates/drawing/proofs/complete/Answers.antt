-- `drawing::complete` meets its contract. The loop's invariant: to draw the slots from i on is to draw all (`LeftToDraw`).
use native.Mathlib.Omega.{arith}
use Rattle.drawing.proofs.CompleteLoop.{complete-step, complete-end}
use Rattle.drawing.proofs.complete.Goals as goal

pub loop-i-preserved : goal.loop-i-preserved
loop-i-preserved c =
    let loop = c.loop-i in
    complete-step _ _ _ _ _ _ _ _ _ _ c.min-n.result (omega arith) loop.invariant c.loop-i-test.true
    c.close_window-closed.ensures c.next_mark.ensures c.mark_at-mark.ensures
    c.left_of-windows.ensures c.left_of-covered.ensures c.row_for-row.ensures

pub returns : goal.returns
returns c =
    let loop = c.loop-i in
    complete-end _ _ _ _ _ _ _ _ _ _ c.min-n.result (omega arith) loop.invariant c.loop-i-test.false
