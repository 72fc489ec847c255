-- A slice whose first places are filled, one after the other.
use Prim.Native.Nat.{ℕ, ◌+◌, ◌<◌}
use mathlib.Core.List.{List, ◌++◌}
use mathlib.Core.Path.{◌≡◌, refl, ◌∙◌}
use lib.IntN.{ℤ}
use lib.ListN.{length, drop, set, length-set}
use Rattle.form1.proofs.Tabulate.{none_filled, one-more-filled}
use Rattle.form1.specs.Form1.{tabulate}

-- the places before i are filled, the others are as they were
pub record Filled (f : ℕ → ℤ) (before : List ℤ) (i : ℕ) (after : List ℤ) : Type 0 where
  pub same : length after ≡ length before
  pub holds : after ≡ tabulate i f ++ drop i before

module _ {f : ℕ → ℤ} {before : List ℤ} where
  pub filled-start : Filled f before 0 before
  filled-start = record { same = refl; holds = none_filled f before }

  pub filled-step : {i : ℕ} {after : List ℤ} {x : ℤ} → i < length before → x ≡ f i → Filled f before i after →
      Filled f before (i + 1) (set after i x)
  filled-step {i} {after} {x} bound e p =
      record { same = length-set after i x ∙ p.same; holds = rw (p.holds, e) (one-more-filled f before i bound) }
