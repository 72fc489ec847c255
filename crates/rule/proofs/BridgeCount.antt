-- The running count of bridges is the number of marks 3 since a window's mark 1; what it is after one slot more; and
-- that it is at most the number of slots.
use Prim.Native.Nat.{ℕ, ◌+◌, ◌≤◌, ◌<◌}
use native.Mathlib.Nat.{add-zero, zero-add}
use native.Mathlib.Numerals.{add-one}
use native.Mathlib.Omega.{arith}
use mathlib.Core.Bool.{and-false}
use mathlib.Core.List.{List, [], ◌∷◌, ◌++◌}
use mathlib.Core.Path.{◌≡◌, refl}
use borrow.Author.Tests.{lt-leb}
use lib.Dec.{eqb}
use lib.ListN.{length, take, get_or}
use lib.Seq.{take-suc}
use Rattle.facts.proofs.Tests.{cond-at-most}
use Rattle.rule.proofs.MarkKinds.{Kind, kind, uncovered, opening, later, bridge, above}
use Rattle.rule.specs.BridgeCount.{running, RunningCount}
use Rattle.rule.specs.Rule.{rest, count_if, bridges}
use Rattle.rule.specs.ScanState.{bridges_after}

running-append : (b : ℕ) (front ms : List ℕ) → running b (front ++ ms) ≡ running (running b front) ms
unfolding running
running-append b [] ms = refl
running-append b (m ∷ front) ms = running-append (bridges_after b m) front ms

-- over the rest of a window it grows by the marks 3 there
running-rest : (b : ℕ) (ms : List ℕ) → running b (rest ms) ≡ b + bridges (rest ms)
unfolding running rest count_if bridges_after
running-rest b [] = omega arith
running-rest b (m ∷ ms) = by (kind m) (λ b. running-rest b ms)
  where
    by : {m : ℕ} → Kind m → ((b : ℕ) → running b (rest ms) ≡ b + bridges (rest ms)) →
        running b (rest (m ∷ ms)) ≡ b + bridges (rest (m ∷ ms))
    by uncovered more = omega arith
    by opening more = omega arith
    by later more = more b
    by bridge more = omega (arith, more (b + 1))
    by (above a) more = simp (lt-leb _ 3 a, and-false, add-zero)

pub running-counts : RunningCount
unfolding running bridges_after
running-counts b marks front tail is inside =
    rw (is, running-append b front (1 ∷ tail)) (rw (inside, zero-add) at (running-rest 0 tail))

pub running-step : (b : ℕ) (ms : List ℕ) (i : ℕ) → i < length ms →
    bridges_after (running b (take i ms)) (get_or ms i 0) ≡ running b (take (i + 1) ms)
unfolding running
running-step b ms i bound = rw (add-one, take-suc ms i 0 bound, running-append b (take i ms) (get_or ms i 0 ∷ []))

bridges_after-le : (b m : ℕ) → bridges_after b m ≤ b + 1
unfolding bridges_after
bridges_after-le b m =
    cond-at-most (eqb m 3) _ _ (omega arith) (cond-at-most (eqb m 2) _ _ (omega arith) (omega arith))

pub running-le : (b : ℕ) (ms : List ℕ) → running b ms ≤ b + length ms
unfolding running
running-le b [] = omega arith
running-le b (m ∷ ms) = omega (arith, running-le (bridges_after b m) ms, bridges_after-le b m)
