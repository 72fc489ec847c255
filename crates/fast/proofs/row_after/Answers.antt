-- `fast::row_after` meets its contract: the last row is the one for w windows.
use Rattle.fast.proofs.FillLoop.{ring-last}
use Rattle.fast.proofs.row_after.Goals as goal

pub returns : goal.returns
returns c =
    let filled = c.fill-filled.ensures in
    rw (← c.first-slots.ensures.settings, ← c.first-slots.ensures.classes)
    (c.after_windows.ensures _ (ring-last filled.ring filled.last c.place.ensures))
