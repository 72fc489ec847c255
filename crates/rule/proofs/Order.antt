-- The order of marks, and the first of the marks that a property holds of: there is only one, and it is the same for the
-- same marks.
use Prim.Native.Nat.{ℕ, ◌≤◌, ◌<◌}
use native.Mathlib.Omega.{arith}
use mathlib.Core.List.{List, [], ◌∷◌}
use mathlib.Core.Logic.{◌⊎◌, inl, inr}
use mathlib.Core.Path.{◌≡◌, refl, sym, ap}
use lib.ListN.{length}
use Rattle.rule.specs.Order.{◌≺◌, ended, smaller, level, First}

-- the order by recursion on both lists of marks
abbrev Before : (ms ks : List ℕ) → Type 0
Before [] [] = ⊥
Before [] (k ∷ ks) = Unit {0}
Before (m ∷ ms) [] = ⊥
Before (m ∷ ms) (k ∷ ks) = (m < k) ⊎ ((m ≡ k) × Before ms ks)

≺→before : {ms ks : List ℕ} → ms ≺ ks → Before ms ks
≺→before ended = tt
≺→before (smaller e) = inl e
≺→before (level e) = inr (refl, ≺→before e)

before-asym : (ms ks : List ℕ) → Before ms ks → Before ks ms → ⊥
before-asym [] [] e f = e
before-asym [] (k ∷ ks) e f = f
before-asym (m ∷ ms) [] e f = e
before-asym (m ∷ ms) (k ∷ ks) (inl e) (inl f) = omega arith
before-asym (m ∷ ms) (k ∷ ks) (inl e) (inr f) = omega (arith, f.0)
before-asym (m ∷ ms) (k ∷ ks) (inr e) (inl f) = omega (arith, e.0)
before-asym (m ∷ ms) (k ∷ ks) (inr e) (inr f) = before-asym ms ks e.1 f.1

≺-asym : {ms ks : List ℕ} → ms ≺ ks → ks ≺ ms → ⊥
≺-asym e f = before-asym _ _ (≺→before e) (≺→before f)

-- no marks come before any
pub none_before : (ms : List ℕ) → 1 ≤ length ms → [] ≺ ms
none_before [] some = absurd (omega arith)
none_before (m ∷ ms) some = ended

pub first-unique : {P : List ℕ → Type 0} {ms ks : List ℕ} → First P ms → First P ks → ms ≡ ks
first-unique {ms = ms} {ks = ks} a b = by (a.first ks b.holds) (b.first ms a.holds)
  where
    by : (ms ≡ ks) ⊎ (ms ≺ ks) → (ks ≡ ms) ⊎ (ks ≺ ms) → ms ≡ ks
    by (inl e) f = e
    by (inr e) (inl f) = sym f
    by (inr e) (inr f) = absurd (≺-asym e f)

pub first-congr : {P Q : List ℕ → Type 0} {ms : List ℕ} → ((ks : List ℕ) → P ks → Q ks) →
    ((ks : List ℕ) → Q ks → P ks) → First P ms → First Q ms
first-congr {ms = ms} to from f = record { holds = to ms f.holds; first = λ ks q. f.first ks (from ks q) }

-- the same mark in front of both
pub level-or-same : (m : ℕ) {ms ks : List ℕ} → (ms ≡ ks) ⊎ (ms ≺ ks) → ((m ∷ ms) ≡ (m ∷ ks)) ⊎ ((m ∷ ms) ≺ (m ∷ ks))
level-or-same m (inl e) = inl (ap (λ l. m ∷ l) e)
level-or-same m (inr e) = inr (level e)
