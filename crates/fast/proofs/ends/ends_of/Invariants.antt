-- `fast::ends::ends_of` meets its contract. The loop's invariant: the ends before slot i are known (`EndsBefore`).
use Rattle.fast.proofs.EndsLoop.{EndsBefore}
use Rattle.fast.proofs.ends.ends_of.Given as goal

abbrev pub invariant-loop-i : goal.invariant-loop-i
invariant-loop-i l = EndsBefore l.slots.settings.shape l.slots.classes.now l.row l.ends l.i
