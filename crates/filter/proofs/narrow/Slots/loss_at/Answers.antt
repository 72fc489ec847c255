-- `filter::narrow::Slots::loss_at` meets its contract: its tests are the definition's (`NarrowLoop`).
use native.Mathlib.Omega.{arith}
use mathlib.Core.Logic.{inl, inr}
use Rattle.filter.proofs.NarrowLoop.{settled-loss, losses}
use Rattle.filter.proofs.narrow.Slots.loss_at.Goals as goal
use Rattle.filter.proofs.narrow.Slots.loss_at.Goals.{then-self-i-eq-UNDER-via-then-self-i-eq-UNDER}
use Rattle.filter.proofs.narrow.Slots.loss_at.Goals.{then-self-i-eq-UNDER-via-else-self-i-eq-UNDER+then-self-i-eq-OVER}

pub returns-then-self-i-eq-UNDER : goal.returns-then-self-i-eq-UNDER
returns-then-self-i-eq-UNDER c =
    let args = c.args in
    settled-loss args.self.now.settings args.self.now.codes args.self.now.n args.i (omega arith)
    (elim c.then-self-i-eq-UNDER.branch [
      | then-self-i-eq-UNDER-via-then-self-i-eq-UNDER w ↦ inl w.if-self-i-eq-UNDER.true
      | then-self-i-eq-UNDER-via-else-self-i-eq-UNDER+then-self-i-eq-OVER w ↦ inr w.if-self-i-eq-OVER.true
    ])

pub returns-then-not-plan_remains : goal.returns-then-not-plan_remains
returns-then-not-plan_remains c = search losses depth 7

pub returns-then-not-plan_remains-2 : goal.returns-then-not-plan_remains-2
returns-then-not-plan_remains-2 c = search losses depth 7

pub returns : goal.returns
returns c = search losses depth 7
