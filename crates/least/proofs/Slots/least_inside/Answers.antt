-- `least::Slots::least_inside` meets its contract. The loop's invariant: what the window has found and
-- covered, with what is to come, makes its least covered count (`Scan`).
use native.Mathlib.Omega.{arith}
use mathlib.Core.Logic.{inl, inr}
use Rattle.least.proofs.InsideLoop.{scan-start, scan_step, scan-end}
use Rattle.least.proofs.Slots.least_inside.Goals as goal

pub loop-i-init : goal.loop-i-init
loop-i-init c = scan-start _ _ _ _ _

pub loop-i-preserved : goal.loop-i-preserved
loop-i-preserved c =
    let loop = c.loop-i in
    rw c.extend-window.ensures
    (scan_step _ _ _ _ _ loop.window loop.i loop.invariant (omega arith) (omega arith) (omega arith))

pub returns-then-window-eq0 : goal.returns-then-window-eq0
returns-then-window-eq0 c =
    let loop = c.loop-i in
    scan-end _ _ _ _ _ loop.window loop.i loop.invariant (inr c.if-window-eq0.true) _ c.saturating_sub.ensures

pub returns-after-loop-i : goal.returns-after-loop-i
returns-after-loop-i c =
    let loop = c.loop-i in
    scan-end _ _ _ _ _ loop.window loop.i loop.invariant (inl c.loop-i-test.false) _ c.saturating_sub.ensures
