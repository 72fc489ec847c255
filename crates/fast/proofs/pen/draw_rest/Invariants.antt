-- `fast::pen::draw_rest` meets its contract: each turn draws up to the next window (`DrawRestLoop`).
use Prim.Native.Nat.{◌-◌}
use mathlib.Core.Path.{◌≡◌}
use Rattle.fast.proofs.DrawRestLoop.{RestToDraw}
use Rattle.fast.proofs.pen.draw_rest.Given as goal

abbrev pub invariant-loop-pen : goal.invariant-loop-pen
invariant-loop-pen l = (l.ring.slots.now ≡ l.initial.ring.slots.now)
    × RestToDraw l.initial.ring.slots.now.settings.shape l.initial.ring.slots.now.classes.now l.initial.ring.left l.initial.pen l.initial.marks l.marks l.pen l.ring.left

abbrev pub decreases-loop-pen : goal.decreases-loop-pen
decreases-loop-pen l = l.n - l.pen.slot
