-- `fast::after::after_windows` meets its contract. The loop's invariant: the counts before slot i are written
-- (`FilledBefore`).
use mathlib.Core.Bool.{cond}
use mathlib.Core.Path.{◌≡◌}
use lib.Dec.{eqb}
use lib.ListN.{get_or}
use Rattle.requests.specs.Solution.{sentinel}
use Rattle.fast.proofs.FilledBefore.{FilledBefore}
use Rattle.fast.proofs.after.after_windows.Given as goal

abbrev pub invariant-loop-i : goal.invariant-loop-i
invariant-loop-i l = FilledBefore 0 (λ j was is. is ≡ cond (eqb (get_or l.slots.lacks j 0) 0) (get_or l.row j 0) sentinel) l.initial.after l.after l.i
