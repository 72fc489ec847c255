-- `fast::sweep::sweep_windows` meets its contract. The loop's invariant: the ends from the slots before slot x on are
-- written (`FilledBefore`).
use Prim.Native.Nat.{◌<◌}
use lib.ListN.{length}
use Rattle.requests.specs.Solution.{sentinel}
use Rattle.fast.proofs.FilledBefore.{FilledBefore}
use Rattle.fast.specs.Sweep.{Further}
use Rattle.fast.proofs.sweep.sweep_windows.Given as goal

abbrev pub invariant-loop-x : goal.invariant-loop-x
invariant-loop-x l = FilledBefore 0 (λ j was is. l.slots.settings.covered.most < sentinel → Further l.reach l.starts l.ends l.row (length l.slots.classes.now) l.slots.settings.covered.most j was is) l.initial.far l.far l.x
