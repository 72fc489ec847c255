-- `fast::sweep::sweep` meets its contract: each turn takes one window over to the slots before (`SweepLoop`), and
-- draws on (`DrawRestLoop`).
use mathlib.Core.Path.{◌≡◌}
use Rattle.fast.proofs.DrawRestLoop.{RestToDraw}
use Rattle.fast.proofs.SweepLoop.{Sweeping}
use Rattle.fast.proofs.sweep.sweep.Given as goal

abbrev pub invariant-loop-ring : goal.invariant-loop-ring
invariant-loop-ring l = (l.ring.slots.now ≡ l.slots)
    × RestToDraw l.slots.settings.shape l.slots.classes.now l.slots.settings.windows.most l.initial.pen l.initial.marks l.marks l.pen l.ring.left
    × Sweeping l.slots.settings l.slots.classes.now l.whole l.side l.far l.bridged l.gaps l.ring.left

abbrev pub decreases-loop-ring : goal.decreases-loop-ring
decreases-loop-ring l = l.ring.left
