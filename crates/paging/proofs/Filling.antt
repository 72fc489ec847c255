-- An array whose first places are filled, one after another, with those of a list.
use Prim.Native.Nat.{ℕ, ◌+◌, ◌≤◌, ◌<◌}
use native.Mathlib.Omega.{arith}
use mathlib.Core.List.{List}
use mathlib.Core.Path.{◌≡◌, refl, ◌∙◌}
use lib.ListN.{length, take, get_or, set, length-set}
use Rattle.facts.proofs.Lists.{take_set_next}

-- as far as place i
pub record FilledTo {A : Type 0} (t : List A) (most : ℕ) (l : List A) (i : ℕ) : Type 0 where
  pub wide : length l ≡ most
  pub within : i ≤ length t
  pub same : take i l ≡ take i t

module _ {A : Type 0} (t : List A) (most : ℕ) where
  pub filling-start : (l : List A) → length l ≡ most → FilledTo t most l 0
  filling-start l wide = record { wide = wide; within = omega arith; same = refl }

  pub filling_step : (l : List A) (i : ℕ) (v d : A) → i < length t → i < most → v ≡ get_or t i d → FilledTo t most l i →
      FilledTo t most (set l i v) (i + 1)
  filling_step l i v d there fits is f =
      record {
        wide = length-set l i v ∙ f.wide;
        within = omega arith;
        same = take_set_next l t i v d (omega (arith, fits, f.wide)) there f.same is;
      }
