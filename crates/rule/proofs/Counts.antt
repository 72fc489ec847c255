-- No count of marks is above the number of marks.
use Prim.Native.Nat.{ℕ, suc, ◌≤◌}
use native.Mathlib.Omega.{arith}
use mathlib.Core.Bool.{Bool, not}
use mathlib.Core.List.{List, [], ◌∷◌}
use lib.Dec.{eqb}
use lib.ListN.{length}
use Rattle.facts.proofs.Tests.{cond-at-most}
use Rattle.rule.specs.Rule.{count_if, windows, covered}

-- no more marks are counted than there are
count-le : (p : ℕ → Bool) (ms : List ℕ) → count_if p ms ≤ length ms
unfolding count_if
count-le p [] = omega arith
count-le p (m ∷ ms) =
    let e = count-le p ms in
    cond-at-most (p m) (suc (count_if p ms)) (count_if p ms) (omega (arith, e)) (omega (arith, e))

pub windows-le : (ms : List ℕ) → windows ms ≤ length ms
unfolding windows
windows-le ms = count-le (λ m. eqb m 1) ms

pub covered_le : (ms : List ℕ) → covered ms ≤ length ms
unfolding covered
covered_le ms = count-le (λ m. not (eqb m 0)) ms
