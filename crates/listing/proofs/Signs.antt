-- The text of a signed number, by its sign.
use Prim.Native.Nat.{ℕ, ◌+◌}
use native.Mathlib.Numerals.{add-one}
use mathlib.Core.List.{◌++◌}
use mathlib.Core.Path.{◌≡◌, refl}
use lib.IntN.{ℤ, pos, negsuc}
use Rattle.listing.specs.Text.{ascii, decimal, signed}

pub with-minus : {z : ℤ} {n : ℕ} → z ≡ negsuc n → signed z ≡ ascii "-" ++ decimal (n + 1)
unfolding signed
with-minus e = rw (e, add-one) refl

pub without-minus : {z : ℤ} {n : ℕ} → z ≡ pos n → signed z ≡ decimal n
unfolding signed
without-minus e = rw e refl
