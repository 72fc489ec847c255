-- Over and under in terms of the library's orders of integers, and which side each mark goes with.
use Prim.Native.Nat.{ℕ}
use mathlib.Core.Bool.{Bool, true, false, true≢false, not}
use mathlib.Core.Path.{◌≡◌, refl, subst, sym, ◌∙◌}
use lib.Dec.{T}
use lib.IntN.{ℤ}
use lib.Signed.{◌<ℤ◌, ◌≤ℤ◌, lt_z_yes, lt_z_no, <ℤ-≤ℤ_trans, clash_ℤ}
use Rattle.facts.proofs.Tests.{T→true, false_of_not}
use Rattle.rule.specs.Rule.{over, goes_with, carries}

module _ {k x : ℤ} where
  pub over→lt : over k x ≡ true → k <ℤ x
  unfolding over
  over→lt e = lt_z_yes (subst T (sym e) tt)

  pub lt→over : k <ℤ x → over k x ≡ true
  unfolding over
  lt→over bound = T→true _ bound.lt

  pub under→le : over k x ≡ false → x ≤ℤ k
  unfolding over
  under→le e = lt_z_no (subst (λ b. T (not b)) (sym e) tt)

  pub le→under : x ≤ℤ k → over k x ≡ false
  le→under bound = false_of_not _ (λ e. clash_ℤ (over→lt e) bound)

-- a load that is not below an over load is over
pub over-mono : (k : ℤ) {a x : ℤ} → a ≤ℤ x → over k a ≡ true → over k x ≡ true
over-mono k bound e = lt→over (<ℤ-≤ℤ_trans (over→lt e) bound)

on-side : (o b : Bool) (m : ℕ) → goes_with (not b) m ≡ false → goes_with o m ≡ true → o ≡ b
on-side true true m f e = refl
on-side true false m f e = absurd (true≢false (sym e ∙ f))
on-side false true m f e = absurd (true≢false (sym e ∙ f))
on-side false false m f e = refl

-- the side of a load and the marks that go with it; callers prove the facts about `goes_with` by `refl`,
-- under `unfolding goes_with`
module _ {k x : ℤ} (m : ℕ) where
  pub carried-over : goes_with false m ≡ false → carries k x m ≡ true → k <ℤ x
  carried-over f e = over→lt (on-side (over k x) true m f e)

  pub carried_under : goes_with true m ≡ false → carries k x m ≡ true → x ≤ℤ k
  carried_under f e = under→le (on-side (over k x) false m f e)

  pub carry_over : goes_with true m ≡ true → k <ℤ x → carries k x m ≡ true
  carry_over g bound = rw (lt→over bound) g

  pub carry-under : goes_with false m ≡ true → x ≤ℤ k → carries k x m ≡ true
  carry-under g bound = rw (le→under bound) g
