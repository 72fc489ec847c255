-- `fast::reach::reaches` meets its contract. The loop's invariant: the reaches before slot x are known, and a span
-- from there on (`ReachesBefore`).
use Rattle.fast.proofs.ReachLoop.{ReachesBefore}
use Rattle.fast.proofs.reach.reaches.Given as goal

abbrev pub invariant-loop-x : goal.invariant-loop-x
invariant-loop-x l = ReachesBefore l.most l.h l.classes l.reach l.span l.x
