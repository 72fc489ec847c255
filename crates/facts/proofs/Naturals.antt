-- Facts about natural numbers that the library lacks.
use Prim.Native.Nat.{ℕ, zero, suc, ◌+◌, ◌*◌, ◌-◌, ◌^◌, ◌≤◌, ◌<◌, min}
use native.Mathlib.Omega.{arith}
use mathlib.Core.Logic.{◌⊎◌, inl, inr}
use mathlib.Core.Path.{◌≡◌, refl, ap}

pub min-mono : {x y x' y' : ℕ} → (x ≤ x') × (y ≤ y') → min x y ≤ min x' y'
min-mono e = omega arith

pub min_assoc : (x y z : ℕ) → min x (min y z) ≡ min (min x y) z
min_assoc x y z = omega arith

pub min-sub : (a b i : ℕ) → min (a - i) (b - i) ≡ min a b - i
min-sub a b i = omega arith

pub suc-sub-one : (n : ℕ) → suc n - 1 ≡ n
suc-sub-one n = omega arith

-- taking away one less leaves one more
pub sub-pred : (a b : ℕ) → (1 ≤ b) × (b ≤ a) → (b - 1 ≤ a) × (a - (b - 1) ≡ (a - b) + 1)
sub-pred a b e = omega arith

pub trichotomy : (a b : ℕ) → (a < b) ⊎ ((a ≡ b) ⊎ (b < a))
trichotomy zero zero = inr (inl refl)
trichotomy zero (suc b) = inl (omega arith)
trichotomy (suc a) zero = inr (inr (omega arith))
trichotomy (suc a) (suc b) = by (trichotomy a b)
  where
    by : (a < b) ⊎ ((a ≡ b) ⊎ (b < a)) → (suc a < suc b) ⊎ ((suc a ≡ suc b) ⊎ (suc b < suc a))
    by (inl less) = inl (omega arith)
    by (inr (inl same)) = inr (inl (ap suc same))
    by (inr (inr more)) = inr (inr (omega arith))

-- n times m, with the last m split off
pub mul-split-last : (n m : ℕ) → 1 ≤ n → n * m ≡ (n - 1) * m + m
mul-split-last zero m one = absurd (omega arith)
mul-split-last (suc n) m one = let e : suc n - 1 ≡ n = omega arith in rw e (omega arith)

pub lt-pow-10 : (n : ℕ) → n < 10 ^ suc n
lt-pow-10 zero = omega arith
lt-pow-10 (suc n) = omega (arith, lt-pow-10 n)
