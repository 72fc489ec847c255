-- `least::Slots::after_window` meets its contract. The loop's invariant: what comes after a window is filled from slot i on
-- (`AfterFrom`).
use native.Mathlib.Omega.{arith}
use Rattle.least.proofs.AfterLoop.{after-start, after-step, after-end}
use Rattle.least.proofs.Slots.after_window.Goals as goal

pub loop-i-init : goal.loop-i-init
loop-i-init c = after-start _ _ c.args.self.few

pub loop-i-preserved : goal.loop-i-preserved
loop-i-preserved c =
    let loop = c.loop-i in
    after-step _ _ loop.after loop.lack _ _ _ c.args.self.few (omega arith) loop.auto.i loop.invariant
    c.lacking-lack.ensures c.unless_lacking.ensures

pub returns : goal.returns
returns c = after-end _ _ (omega arith) c.loop-i.invariant
