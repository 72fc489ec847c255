-- `fast::sweep::sweep_gaps` meets its contract. The loop's invariant: what is known of the slots before slot i is
-- written (`FilledBefore`).
use Prim.Native.Nat.{◌<◌}
use mathlib.Core.Bool.{true, false}
use mathlib.Core.Logic.{◌↔◌, ◌⊎◌}
use mathlib.Core.Path.{◌≡◌}
use lib.ListN.{length}
use Rattle.requests.specs.Solution.{sentinel}
use Rattle.fast.proofs.FilledBefore.{FilledBefore}
use Rattle.fast.specs.Sweep.{GapAt}
use Rattle.fast.proofs.sweep.sweep_gaps.Given as goal

abbrev pub invariant-loop-i : goal.invariant-loop-i
invariant-loop-i l = FilledBefore false (λ j was is. l.slots.settings.covered.most < sentinel → (is ≡ true) ↔ ((was ≡ true) ⊎ GapAt l.free l.side l.row (length l.slots.classes.now) l.slots.settings.covered.most j))
    l.initial.gaps l.gaps l.i
