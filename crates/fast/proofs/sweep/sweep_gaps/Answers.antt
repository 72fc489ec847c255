-- `fast::sweep::sweep_gaps` meets its contract. The loop's invariant: what is known of the slots before slot i is
-- written (`FilledBefore`).
use native.Mathlib.Omega.{arith}
use mathlib.Core.Bool.{false}
use Rattle.fast.proofs.FilledBefore.{filled-start, filled-step}
use Rattle.fast.proofs.sweep.sweep_gaps.Goals as goal

pub loop-i-init : goal.loop-i-init
loop-i-init c = filled-start false

pub loop-i-preserved : goal.loop-i-preserved
loop-i-preserved c =
    filled-step false c.loop-i.gaps c.loop-i.i _ c.loop-i.invariant (omega arith) c.is_gap.ensures

pub returns : goal.returns
returns c = λ less i there. c.loop-i.invariant.done i (omega arith) less
