-- `fast::reach::reaches` meets its contract. The loop's invariant: the reaches before slot x are known, and a span
-- from there on (`ReachesBefore`).
use native.Mathlib.Omega.{arith}
use Rattle.fast.proofs.ReachLoop.{reaches-start, reaches-first, reaches_step, reaches_end}
use Rattle.fast.proofs.reach.reaches.Goals as goal

pub loop-x-init : goal.loop-x-init
loop-x-init c = reaches-start _ _ _ (omega arith)

pub extend-span-requires-clause-covers : goal.extend-span-requires-clause-covers
extend-span-requires-clause-covers c = c.loop-x.invariant.covers

pub without_first-span-requires : goal.without_first-span-requires
without_first-span-requires c =
    reaches-first _ _ _ _ c.loop-x.invariant (omega arith) c.extend-span.ensures.covers

pub loop-x-preserved : goal.loop-x-preserved
loop-x-preserved c =
    reaches_step _ _ _ c.loop-x.reach _ _ _ _ (omega arith) (omega arith) c.loop-x.invariant
    c.extend-span.ensures.covers c.extend-span.ensures.whole (c.without_first-span.ensures _ _ _)

pub returns : goal.returns
returns c = reaches_end _ _ _ _ (omega (arith, c.max-most.ensures)) (omega arith) c.loop-x.invariant
