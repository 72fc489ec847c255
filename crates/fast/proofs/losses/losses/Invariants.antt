-- `fast::losses::losses` meets its contract. The loop's invariant: what the slots before slot i lose is written
-- (`LostBefore`).
use Rattle.fast.proofs.LossLoop.{LostBefore}
use Rattle.fast.proofs.losses.losses.Given as goal

abbrev pub invariant-loop-i : goal.invariant-loop-i
invariant-loop-i l = LostBefore l.slots.classes.now l.far l.bridged l.gaps l.lost l.furthest l.inside l.i
