-- `judge::marks::count_marks` meets its contract. The loop's invariant: each count is of the marks so far (`Tally`).
use Prim.Native.Nat.{◌≤◌}
use mathlib.Core.Bool.{not}
use lib.Dec.{eqb}
use lib.ListN.{length}
use Rattle.rule.proofs.Tally.{Tally}
use Rattle.judge.proofs.marks.count_marks.Given as goal

abbrev pub invariant-loop-mark : goal.invariant-loop-mark
invariant-loop-mark l = (l.mark-index ≤ length l.marks) × Tally (λ m. eqb m 1) l.marks l.mark-index l.seen.windows
    × Tally (λ m. not (eqb m 0)) l.marks l.mark-index l.seen.covered
