-- What the tests of a state say: they add up to `Tested`, and so to `Reached`.
use Prim.Native.Nat.{ℕ, ◌+◌, ◌*◌, ◌-◌, ◌≤◌, ◌<◌}
use native.Mathlib.Nat.{le-mul_of_pos_right, mul-le-mul}
use native.Mathlib.Omega.{arith}
use mathlib.Core.Bool.{Bool, true, false, true≢false}
use mathlib.Core.Logic.{◌⊎◌, ◌↔◌, inl, inr, ⊎_elim}
use mathlib.Core.Option.{none}
use mathlib.Core.Path.{◌≡◌, sym, ◌∙◌}
use mir.Syntax.{w32}
use mir.Val.{SFits}
use Rattle.settings.specs.Refusals.{limit}
use Rattle.rule.specs.Rule.{over}
use Rattle.watch.proofs.TestedIsReached.{tested→reached}
use Rattle.watch.proofs.ReachedIsTested.{accepted-numbers, reached→tested}
use Rattle.watch.specs.States.{start_refusal, max_taken, Reached}
use Rattle.watch.specs.Tested.{highest, spacing, Bounded, Idle, Active, Tested, Ready}
use Rattle.watch.specs.declared.Watch.{Watch}

-- where one slot does not fill a window, all its bridges and then one under slot more are the shortest way to end it
pub spacing-by-bridges : (len h : ℕ) → start_refusal len h ≡ none → (len ≡ 1 → ⊥) →
    h + 2 ≡ spacing len h
spacing-by-bridges len h e many =
    let (some, few, fewer) = accepted-numbers len h e in
    omega (arith, fewer (omega (arith, many)))

-- the products that a test computes are small
pub sums-bounded : {w : Watch} → Bounded w → (n : ℕ) → n ≤ w.windows → n * spacing w.len w.h ≤ max_taken * limit
sums-bounded t n few =
    mul-le-mul {n₂ = max_taken} {m₂ = limit} (omega arith) (omega (arith, (accepted-numbers _ _ t.accepted).1))

-- no more windows were opened than slots taken
pub windows-le-taken : {w : Watch} → Tested w → w.windows ≤ w.taken
windows-le-taken {w} s =
    let some : 1 ≤ spacing w.len w.h = omega (arith, (accepted-numbers _ _ s.accepted).0) in
    ⊎_elim
    (λ i. omega (arith, le-mul_of_pos_right w.windows some, i.each))
    (λ a. omega (arith, le-mul_of_pos_right (w.windows - 1) some, a))
    s.phase

pub tested→ready : {w : Watch} → Tested w → w.taken < max_taken → Ready w
tested→ready {w} s more =
    record {
      sized = (accepted-numbers _ _ s.accepted).0;
      counted = windows-le-taken s;
      more = more;
      active = active s.phase;
    }
  where
    active : Idle w ⊎ Active w → 1 ≤ w.spare → 1 ≤ w.room
    active (inl i) e = absurd (omega arith)
    active (inr a) e = a.slots.0

-- what the tests of a state found, of an idle window in a and of an active one in b
module _ {w : Watch} (fits : SFits w32 w.k) (accepted : start_refusal w.len w.h ≡ none) (few : w.taken ≤ max_taken)
    (opens : (w.windows ≡ 0) ⊎ (over w.k highest ≡ true)) {a : Bool} (idle : (a ≡ true) ↔ Idle w) where
  phase→reached : Idle w ⊎ Active w → Reached w
  phase→reached phase = tested→reached w fits (record { accepted = accepted; few = few; opens = opens; phase = phase })

  pub idle-reached : a ≡ true → (a ≡ true) ↔ Reached w
  idle-reached e = ((λ _. phase→reached (inl (idle.0 e))), λ _. e)

  pub active-iff-reached : {b : Bool} → a ≡ false → (b ≡ true) ↔ Active w → (b ≡ true) ↔ Reached w
  active-iff-reached e active = (
    (λ f. phase→reached (inr (active.0 f))),
    λ re. active.1 (⊎_elim (λ i. absurd (true≢false (sym (idle.1 i) ∙ e))) (λ a. a) (reached→tested w re).phase),
  )

module _ {w : Watch} (fits : SFits w32 w.k) (t : Bounded w)
    (opens : (w.windows ≡ 0) ⊎ (over w.k highest ≡ true)) where
  pub idle-iff-reached : {b : Bool} → w.room ≡ 0 → (b ≡ true) ↔ Idle w → (b ≡ true) ↔ Reached w
  idle-iff-reached no-slots is = (
    λ e. phase→reached fits t.accepted t.few opens is (inl (is.0 e)),
    λ re. is.1 (⊎_elim (λ i. i) (λ a. absurd (omega (arith, a.slots))) (reached→tested w re).phase),
  )
