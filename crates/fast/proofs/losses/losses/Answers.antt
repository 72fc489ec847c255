-- `fast::losses::losses` meets its contract. The loop's invariant: what the slots before slot i lose is written
-- (`LostBefore`).
use native.Mathlib.Omega.{arith}
use Rattle.fast.proofs.LossLoop.{loss-start, loss-step}
use Rattle.fast.proofs.losses.losses.Goals as goal

pub loop-i-init : goal.loop-i-init
loop-i-init c = loss-start _ _ _ _

pub loop-i-preserved : goal.loop-i-preserved
loop-i-preserved c =
    loss-step _ _ _ _ c.loop-i.lost c.loop-i.furthest c.loop-i.inside c.loop-i.i _ c.loop-i.invariant
    (omega (arith, c.args.slots.now.few)) c.max-furthest.ensures c.under_stays.ensures (rw c.from.ensures at c.lost_by.ensures)
    c.max-inside.ensures

pub returns : goal.returns
returns c = λ i there. c.loop-i.invariant.filled.done i (omega arith)
