-- `fast::ends::lacks_of` meets its contract. The loop's invariant: what is lacking is known from slot i on
-- (`LackingFrom`).
use Rattle.fast.proofs.EndsLoop.{LackingFrom}
use Rattle.fast.proofs.ends.lacks_of.Given as goal

abbrev pub invariant-loop-i : goal.invariant-loop-i
invariant-loop-i l = LackingFrom l.settle l.classes l.lacks l.i
