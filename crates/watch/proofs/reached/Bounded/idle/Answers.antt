-- `watch::reached::Bounded::idle` meets its contract: its tests are those of `Idle`, and its product is small
-- (`StateTests`).
use native.Mathlib.Omega.{arith}
use Rattle.watch.proofs.StateTests.{sums-bounded}
use Rattle.facts.proofs.Tests.{false-iff, leb-iff}
use Rattle.watch.proofs.reached.Bounded.idle.Goals as goal

pub returns-then-watch-gt0 : goal.returns-then-watch-gt0
returns-then-watch-gt0 c = false-iff (λ i. omega (arith, i.slots))

pub returns-then-watch-gt0-2 : goal.returns-then-watch-gt0-2
returns-then-watch-gt0-2 c = false-iff (λ i. omega (arith, i.bridges))

pub overflow_mul-result : goal.overflow_mul-result
overflow_mul-result c =
    rw c.spacing.ensures (omega (arith, sums-bounded c.args.self.bounded c.args.self.watch.windows (omega arith)))

pub returns : goal.returns
returns c =
    rw c.spacing.ensures
    (leb-iff _ _ (λ bound. record { slots = omega arith; bridges = omega arith; each = bound }) (λ i. i.each))
