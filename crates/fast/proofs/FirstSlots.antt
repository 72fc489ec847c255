-- The first slots, as many as a row has places for.
use Prim.Native.Nat.{ℕ, ◌≤◌, min}
use native.Mathlib.Omega.{arith}
use mathlib.Core.Bool.{Bool, true, false}
use mathlib.Core.List.{List}
use mathlib.Core.Path.{◌≡◌, refl, sym, ap, ◌∙◌}
use borrow.Author.Tests.{leb-true, leb-false}
use lib.Dec.{leb}
use lib.ListN.{length, take}
use lib.Seq.{take_all}
use Rattle.settings.specs.Refusals.{limit}

pub first-slots : (l : List ℕ) (n : ℕ) → n ≡ min (length l) limit → take n l ≡ take limit l
first-slots l n is = by (leb (length l) limit) refl
  where
    by : (b : Bool) → leb (length l) limit ≡ b → take n l ≡ take limit l
    by true e =
        let few : length l ≤ limit = leb-true _ _ e in
        take_all n l (omega (arith, is)) ∙ sym (take_all limit l few)
    by false e =
        let full : n ≡ limit = omega (arith, is, leb-false (length l) limit e) in
        ap (λ n. take n l) full
