-- `fast::sweep::sweep_windows` meets its contract. The loop's invariant: the ends from the slots before slot x on are
-- written (`FilledBefore`).
use native.Mathlib.Numerals.{add-one}
use native.Mathlib.Omega.{arith}
use mathlib.Core.Path.{refl}
use Rattle.fast.proofs.FilledBefore.{filled-start, filled-step}
use Rattle.fast.proofs.sweep.sweep_windows.Goals as goal

pub loop-x-init : goal.loop-x-init
loop-x-init c = filled-start 0

pub further-requires : goal.further-requires
further-requires c = omega (arith, c.requires c.loop-x.x (omega arith))

pub loop-x-preserved : goal.loop-x-preserved
loop-x-preserved c =
    filled-step 0 c.loop-x.far c.loop-x.x _ c.loop-x.invariant (omega arith) (λ less.
    c.further.ensures less _ _ _ _ refl (rw add-one refl) refl)

pub returns : goal.returns
returns c = λ less x there. c.loop-x.invariant.done x (omega arith) less
