-- An i32 by its sign, for a cast to an unsigned number. A number that is not negative is cast itself, and is its
-- magnitude. Of a negative number the complement is cast, which is not negative and is the magnitude less 1.
use Prim.Native.Nat.{◌-◌, ◌<◌, ◌^◌}
use native.Mathlib.Omega.{arith}
use mathlib.Core.Bool.{true, false, true≢false}
use mathlib.Core.Path.{◌≡◌, refl}
use borrow.Author.Tests.{ltb-true}
use lib.Dec.{T}
use lib.IntN.{ℤ, pos, negsuc, nat_abs}
use lib.Signed.{lt_z, non_neg}
use mir.Facts.{to_z_pos, to_z-of_z}
use mir.Syntax.{w32}
use mir.Val.{SFits, of_z, to_z}

abbrev pub Negative : ℤ → Type 0
Negative z =
    let m : ℤ = to_z w32 (4294967295 - of_z w32 z) in
    T (non_neg m) × (nat_abs m < 2 ^ 31) × (z ≡ negsuc (nat_abs m))

abbrev pub NotNegative : ℤ → Type 0
NotNegative z = let m : ℤ = to_z w32 (of_z w32 z) in T (non_neg m) × (nat_abs m < 2 ^ 31) × (z ≡ pos (nat_abs m))

pub negative : (z : ℤ) → SFits w32 z → lt_z (to_z w32 (of_z w32 z)) (pos 0) ≡ true → Negative z
negative (pos n) f e = absurd (omega (arith, ltb-true n 0 (simp (to_z-of_z, f) at e)))
negative (negsuc n) f e =
    let bounded : n < 2147483648 = f.sfits in
    let flips : 4294967295 - of_z w32 (negsuc n) ≡ n = omega arith in
    rw (flips, to_z_pos w32 bounded) (tt, omega arith, refl)

pub not_negative : (z : ℤ) → SFits w32 z → lt_z (to_z w32 (of_z w32 z)) (pos 0) ≡ false → NotNegative z
not_negative (pos n) f e = let bounded : n < 2147483648 = f.sfits in rw (to_z-of_z f) (tt, omega arith, refl)
not_negative (negsuc n) f e = absurd (true≢false (simp (to_z-of_z, f) at e))
