-- `fast::sweep::furthest` meets its contract. The loop's invariant: no window that fits covers more than k slots
-- (`AtMost`).
use native.Mathlib.Omega.{arith}
use Rattle.fast.proofs.FurthestLoop.{furthest-start, furthest-step, furthest-known, furthest-found}
use Rattle.fast.proofs.sweep.furthest.Goals as goal

pub loop-k-init : goal.loop-k-init
loop-k-init c = furthest-start _ _ _ _

pub loop-k-preserved : goal.loop-k-preserved
loop-k-preserved c =
    furthest-step _ _ _ _ c.loop-k.k c.loop-k.invariant (omega (arith, rw c.from.ensures at c.saturating_add.ensures))

pub returns-then-e-from-clause-furthest : goal.returns-then-e-from-clause-furthest
returns-then-e-from-clause-furthest c =
    furthest-known _ _ _ _ c.loop-k.k c.loop-k.invariant _ (λ e order near. omega arith)

pub returns-then-saturating_add-room : goal.returns-then-saturating_add-room
returns-then-saturating_add-room c =
    let (no_nearer, met, furthest) =
    furthest-found _ _ _ _ c.loop-k.k c.loop-k.invariant _ (omega arith) (omega arith)
    (omega (arith, rw c.from.ensures at c.saturating_add.ensures)) in
    rw c.from.ensures record { no_nearer = no_nearer; met = met; furthest = furthest }

pub returns-clause-furthest : goal.returns-clause-furthest
returns-clause-furthest c =
    furthest-known _ _ _ _ c.loop-k.k c.loop-k.invariant _ (λ e order near. omega arith)
