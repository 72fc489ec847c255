-- `fast::turned::turn` meets its contract. The loop's invariant: the first i of the turned classes are written
-- (`TurnedBefore`).
use native.Mathlib.Omega.{arith}
use mathlib.Core.Path.{refl}
use Rattle.fast.proofs.TurnLoop.{turn-start, turn_step, turn_end}
use Rattle.fast.proofs.turned.turn.Goals as goal

pub loop-i-init : goal.loop-i-init
loop-i-init c = turn-start _

pub loop-i-preserved : goal.loop-i-preserved
loop-i-preserved c =
    turn_step _ c.loop-i.turned c.loop-i.i c.loop-i.invariant (omega arith) _ (omega arith) refl

pub returns : goal.returns
returns c = turn_end _ c.loop-i.turned c.loop-i.i c.loop-i.invariant (omega arith) (omega arith)
