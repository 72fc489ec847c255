-- The decimal numbers of a text are those that `std` prints, for all that fit into 64 bits.
use Prim.Native.Nat.{ℕ, suc, ◌+◌, ◌%◌, ◌<◌, ◌^◌}
use native.Mathlib.Omega.{arith}
use mathlib.Core.List.{[], ◌∷◌, ◌++◌}
use mathlib.Core.Path.{◌≡◌, ap, ◌∙◌}
use lib.IntN.{ℤ, pos, negsuc}
use mir.Syntax.{w32}
use mir.Val.{SFits}
use Rattle.std.specs.Fmt.{decimal as Fmt·decimal, signed_decimal}
use Rattle.std.proofs.lemmas.Fmt.{decimal_by_steps}
use Rattle.listing.proofs.Decimals.{one-digit, more-digits}
use Rattle.listing.specs.Text.{decimal, signed}

pub decimal-printed : (n : ℕ) → n < 2 ^ 64 → decimal n ≡ Fmt·decimal n
decimal-printed =
    decimal_by_steps (λ n ds. decimal n ≡ ds) one-digit
    (λ n ds large e. more-digits n large ∙ ap (λ ds. ds ++ ((48 + n % 10) ∷ [])) e)

pub signed-printed : (z : ℤ) → SFits w32 z → signed z ≡ signed_decimal z
unfolding signed
signed-printed (pos n) f = let bounded : n < 2147483648 = f.sfits in decimal-printed n (omega arith)
signed-printed (negsuc n) f =
    let bounded : n < 2147483648 = f.sfits in ap (λ ds. 45 ∷ ds) (decimal-printed (suc n) (omega arith))
