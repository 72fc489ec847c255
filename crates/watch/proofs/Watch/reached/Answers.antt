-- `watch::Watch::reached` meets its contract: its tests add up to `Reached` (`StateTests`).
use Rattle.std.proofs.Common.{rules}
use native.Mathlib.Omega.{arith}
use mathlib.Core.Bool.{Bool, false, true≢false}
use mathlib.Core.Logic.{◌↔◌}
use mathlib.Core.Option.{none, some-ne-none}
use mathlib.Core.Path.{◌≡◌, refl, sym, ◌∙◌}
use Rattle.std.specs.Result.{is_err}
use Rattle.facts.proofs.Tests.{false-iff}
use Rattle.refusals.specs.Answer.{Answer, gives, refuses, refusal_of}
use Rattle.settings.specs.Refusals.{limit, shape_refusal}
use Rattle.rule.specs.declared.Shape.{Shape}
use Rattle.watch.proofs.ReachedIsTested.{reached→tested}
use Rattle.watch.proofs.StateTests.{windows-le-taken, idle-reached, active-iff-reached}
use Rattle.watch.specs.Tested.{Bounded}
use Rattle.watch.proofs.Watch.reached.Goals as goal
use Rattle.watch.proofs.Watch.reached.Goals.{Else-self}

-- a check that gives no refusal is one that no row refuses
passes : {A : Type 0} (a : Answer A) → (is_err a ≡ false) ↔ (refusal_of a ≡ none)
passes (gives a) = (λ _. refl, λ _. refl)
passes (refuses r) = ((λ e. absurd (true≢false e)), λ e. absurd (some-ne-none _ e))

accepted-iff : {shape made : Shape} (a : Answer Unit) {b : Bool} → shape ≡ made →
    refusal_of a ≡ shape_refusal limit shape → b ≡ is_err a → (b ≡ false) ↔ (shape_refusal limit made ≡ none)
accepted-iff a same checked is = rw (is, ← same, ← checked) (passes a)

pub returns-then-is_err : goal.returns-then-is_err
returns-then-is_err c =
    let accepted = accepted-iff _ c.shape.ensures c.check_shape.ensures c.is_err.ensures.value in
    false-iff (λ re. true≢false (sym c.if-is_err.true ∙ accepted.1 (reached→tested _ re).accepted))

pub returns-then-self-gt-MAX_TAKEN : goal.returns-then-self-gt-MAX_TAKEN
returns-then-self-gt-MAX_TAKEN c = false-iff (λ re. omega (arith, (reached→tested _ re).few))

pub returns-then-self : goal.returns-then-self
returns-then-self c = false-iff (λ re. omega (arith, windows-le-taken (reached→tested _ re)))

pub returns-then-not-may_open : goal.returns-then-not-may_open
returns-then-not-may_open c =
    false-iff (λ re. true≢false (sym (c.may_open.ensures.1 (reached→tested _ re).opens) ∙ c.if-not-may_open.true))

bounded : (c : Else-self) → Bounded c.args.self
bounded c =
    record {
      accepted = (accepted-iff _ c.shape.ensures c.check_shape.ensures c.is_err.ensures.value).0 c.if-is_err.false;
      counted = c.if-self.false;
      few = c.if-self-gt-MAX_TAKEN.false;
    }

pub returns-then-idle : goal.returns-then-idle
returns-then-idle c =
    let small = bounded (goal.at.returns-then-idle c).Else-self in
    idle-reached (search rules) small.accepted small.few (c.may_open.ensures.0 c.if-not-may_open.false)
    c.idle.ensures c.if-idle.true

pub returns-else-idle : goal.returns-else-idle
returns-else-idle c =
    let small = bounded (goal.at.returns-else-idle c).Else-self in
    active-iff-reached (search rules) small.accepted small.few (c.may_open.ensures.0 c.if-not-may_open.false)
    c.idle.ensures c.if-idle.false c.active.ensures
