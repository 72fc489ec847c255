-- `fast::turned::turn` meets its contract. The loop's invariant: the first i of the turned classes are written
-- (`TurnedBefore`).
use Rattle.fast.proofs.TurnLoop.{TurnedBefore}
use Rattle.fast.proofs.turned.turn.Given as goal

abbrev pub invariant-loop-i : goal.invariant-loop-i
invariant-loop-i l = TurnedBefore l.slots.classes.now l.turned l.i
