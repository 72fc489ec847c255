-- `fast::turned::free_slots` meets its contract. The loop's invariant: what is known of the slots before slot i is
-- written (`FilledBefore`).
use Prim.Native.Nat.{suc, ◌+◌, ◌-◌, ◌≤◌}
use mathlib.Core.Bool.{true, false}
use mathlib.Core.Logic.{◌↔◌}
use mathlib.Core.Path.{◌≡◌}
use lib.ListN.{get_or}
use Rattle.rule.specs.ClassCodes.{decode}
use Rattle.rule.specs.Ranges.{allows}
use Rattle.fast.proofs.FilledBefore.{FilledBefore}
use Rattle.fast.proofs.turned.free_slots.Given as goal

abbrev pub invariant-loop-i : goal.invariant-loop-i
invariant-loop-i l = FilledBefore false (λ j was is. (is ≡ true) ↔ ((allows (decode (get_or l.slots.classes.now j 0)) 0 ≡ true)
    × (get_or l.before.lacks (l.n - j) 0 + get_or l.slots.lacks (j + 1) 0 ≤ suc l.slots.settings.shape.settle))) l.initial.free l.free l.i
