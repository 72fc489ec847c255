-- `watch::reached::Bounded::active` meets its contract: its tests are those of `Active`, and its product is small
-- (`StateTests`).
use Prim.Native.Nat.{◌*◌, ◌-◌, ◌≤◌}
use native.Mathlib.Omega.{arith}
use Rattle.settings.specs.Refusals.{limit}
use Rattle.watch.proofs.StateTests.{sums-bounded}
use Rattle.facts.proofs.Tests.{leb-iff}
use Rattle.watch.specs.States.{max_taken}
use Rattle.watch.proofs.reached.Bounded.active.Goals as goal
use Rattle.watch.proofs.reached.Bounded.active.Goals.{After-spacing}

bounded : (c : After-spacing) → (c.args.self.watch.windows - 1) * c.spacing.result ≤ max_taken * limit
bounded c = rw c.spacing.ensures (sums-bounded c.args.self.bounded (c.args.self.watch.windows - 1) (omega arith))

pub overflow_mul-result : goal.overflow_mul-result
overflow_mul-result c = omega (arith, bounded (goal.at.overflow_mul-result c).After-spacing)

pub overflow_add-result : goal.overflow_add-result
overflow_add-result c = omega (arith, bounded (goal.at.overflow_add-result c).After-spacing)

pub returns : goal.returns
returns c =
    rw (c.spacing.ensures, c.from.ensures)
    (leb-iff _ _
    (λ bound. record { opened = omega arith; slots = omega arith; bridges = omega arith; used = omega arith; each = bound })
    (λ a. a.each))
