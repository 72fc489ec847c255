-- The five kinds of bytes in a plan, for proofs by cases, and which mark may follow which, given bounds on the two.
use Prim.Native.Nat.{ℕ, zero, suc, ◌≤◌}
use native.Mathlib.Omega.{arith}
use mathlib.Core.Bool.{true, false, false≢true, and-false}
use mathlib.Core.Path.{◌≡◌, ◌∙◌}
use borrow.Author.Tests.{le-leb, lt-leb}
use lib.Dec.{leb-zero}
use Rattle.rule.specs.Rule.{follows}

pub data Kind : ℕ → Type 0 where
  uncovered : Kind 0
  opening : Kind 1
  later : Kind 2
  bridge : Kind 3
  above : {m : ℕ} → 4 ≤ m → Kind m

pub kind : (m : ℕ) → Kind m
kind zero = uncovered
kind (suc zero) = opening
kind (suc (suc zero)) = later
kind (suc (suc (suc zero))) = bridge
kind (suc (suc (suc (suc m)))) = above {m = suc (suc (suc (suc m)))} (omega arith)

module _ (p m : ℕ) where
  pub follows-outside : p ≤ 2 → m ≤ 1 → true ≡ follows p m
  unfolding follows
  follows-outside hp hm = simp (leb-zero, le-leb m 1, le-leb p 2)

  pub follows-inside : 1 ≤ p → p ≤ 3 → 2 ≤ m → m ≤ 3 → true ≡ follows p m
  unfolding follows
  follows-inside h₁ h₃ k₂ k₃ = simp (leb-zero, le-leb 1 p, le-leb p 3, le-leb 2 m, le-leb m 3, lt-leb m 1 (omega arith))

  pub inside-not-after-0 : p ≤ 0 → 2 ≤ m → false ≡ follows p m
  unfolding follows
  inside-not-after-0 hp hm = simp (lt-leb m 1, lt-leb 1 p (omega arith), and-false)

  pub outside-not-after-3 : 3 ≤ p → m ≤ 1 → false ≡ follows p m
  unfolding follows
  outside-not-after-3 hp hm = simp (lt-leb p 2, lt-leb 2 m (omega arith), and-false)

  pub above-3-not-after : 4 ≤ m → false ≡ follows p m
  unfolding follows
  above-3-not-after hm = simp (lt-leb m 1 (omega arith), lt-leb m 3, and-false)

  pub not-after-above-3 : 4 ≤ p → false ≡ follows p m
  unfolding follows
  not-after-above-3 hp = simp (lt-leb p 2 (omega arith), lt-leb p 3, and-false)

-- a byte above 3 may follow no byte
pub above-3-follows-none : {X : Type 0} (p : ℕ) {m : ℕ} → 4 ≤ m → follows p m ≡ true → X
above-3-follows-none p {m} a e = absurd (false≢true (above-3-not-after p m a ∙ e))
