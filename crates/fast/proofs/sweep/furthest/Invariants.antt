-- `fast::sweep::furthest` meets its contract. The loop's invariant: no window that fits covers more than k slots
-- (`AtMost`).
use Rattle.fast.proofs.FurthestLoop.{AtMost}
use Rattle.fast.proofs.sweep.furthest.Given as goal

abbrev pub invariant-loop-k : goal.invariant-loop-k
invariant-loop-k l = AtMost l.ends l.x l.reach l.room l.k
