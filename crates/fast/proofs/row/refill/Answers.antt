-- `fast::row::refill` meets its contract. The loop's invariant: the minima of up to k ends are known (`MinimaTo`).
use native.Mathlib.Omega.{arith}
use Rattle.fast.proofs.Serves.{minima-start, minima-step, minima-end}
use Rattle.fast.proofs.row.refill.Goals as goal

pub loop-k-init : goal.loop-k-init
loop-k-init c = minima-start _ _ c.args.minima.now (omega arith)

pub loop-k-preserved : goal.loop-k-preserved
loop-k-preserved c =
    rw c.from-i.ensures
    (minima-step _ _ c.loop-k.minima c.loop-k.k _ (omega arith) (omega arith) c.loop-k.invariant
    (omega (arith, rw c.from-i.ensures at c.min.ensures, rw c.from-i.ensures at c.saturating_add.ensures)))

pub returns : goal.returns
returns c = minima-end _ _ (omega arith) c.loop-k.invariant
