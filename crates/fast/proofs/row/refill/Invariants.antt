-- `fast::row::refill` meets its contract. The loop's invariant: the minima of up to k ends are known (`MinimaTo`).
use Rattle.fast.proofs.Serves.{MinimaTo}
use Rattle.fast.proofs.row.refill.Given as goal

abbrev pub invariant-loop-k : goal.invariant-loop-k
invariant-loop-k l = MinimaTo l.ends l.x l.minima l.k
