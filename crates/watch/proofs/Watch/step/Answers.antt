-- `watch::Watch::step` meets its contract: each way through it keeps the promise (`StepAnswers`).
use Prim.Native.Nat.{◌<◌}
use native.Mathlib.Omega.{arith}
use mathlib.Core.Bool.{Bool, true, true≢false}
use mathlib.Core.Logic.{◌↔◌}
use mathlib.Core.Path.{◌≡◌, refl, sym, ◌∙◌}
use mir.Facts.{to_z-of_z}
use mir.Syntax.{w32}
use mir.Val.{SFits}
use Rattle.watch.proofs.ReachedIsTested.{reached→tested}
use Rattle.watch.proofs.StepAnswers.{refuses-32, refuses-33, takes-load}
use Rattle.watch.proofs.StateTests.{tested→ready}
use Rattle.watch.specs.States.{max_taken, Reached}
use Rattle.watch.specs.declared.Watch.{Watch}
use Rattle.watch.proofs.Watch.step.Goals as goal

pub returns-then-not-reached : goal.returns-then-not-reached
returns-then-not-reached c = rw c.refused.ensures (refuses-32 _ _ _ unreached refl refl)
  where
    unreached : Reached c.args.self → ⊥
    unreached re = true≢false (sym (c.reached.ensures.1 re) ∙ c.if-not-reached.true)

pub returns-then-self-eq-MAX_TAKEN : goal.returns-then-self-eq-MAX_TAKEN
returns-then-self-eq-MAX_TAKEN c =
    let re = c.reached.ensures.0 c.if-not-reached.false in
    rw c.refused-then-self-eq-MAX_TAKEN.ensures (refuses-33 _ _ _ re c.if-self-eq-MAX_TAKEN.true refl refl)

-- what is known of a state that takes the load
passed : {w : Watch} {b : Bool} → (b ≡ true) ↔ Reached w → b ≡ true → (w.taken ≡ max_taken → ⊥) →
    Reached w × (w.taken < max_taken)
passed tested is free =
    let re = tested.0 is in
    (re, omega (arith, (reached→tested _ re).few, free))

pub invariant_of-ready : goal.invariant_of-ready
invariant_of-ready c =
    let (re, more) = passed c.reached.ensures c.if-not-reached.false c.if-self-eq-MAX_TAKEN.false in
    record { ready = tested→ready (reached→tested _ re) more }

pub returns : goal.returns
returns c =
    let (re, more) = passed c.reached.ensures c.if-not-reached.false c.if-self-eq-MAX_TAKEN.false in
    let load : SFits w32 c.args.load = c.ranges.load in
    takes-load _ _ _ load re more (simp (to_z-of_z, load) at c.after-watch.ensures) refl
