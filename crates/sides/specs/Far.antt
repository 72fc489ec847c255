-- Good windows by their furthest ends: one end for each first slot is all that has to be kept of them.
use Rattle.std.specs.Prelude.{ℕ, zero, suc, ◌≤◌, ◌<◌, max, List, length}
use Rattle.rule.specs.Ranges.{Class}
use Rattle.rule.specs.declared.Shape.{Shape}
use Rattle.sides.specs.Sides.{GoodWindow}

-- the furthest of the ends of windows that begin with one of the first k slots
abbrev pub highest : (far : ℕ → ℕ) (k : ℕ) → ℕ
highest far zero = 0
highest far (suc k) = max (highest far k) (far k)

-- far x is the furthest end of a good window that begins with slot x, or 0 where there is none
pub record Furthest (T : ℕ) (shape : Shape) (cs : List Class) (w n g : ℕ) (far : ℕ → ℕ) : Type 0 where
  pub met : (x : ℕ) → x < length cs → 0 < far x → (a : ℕ) × GoodWindow T shape cs w n g a x (far x)
  pub most : (a x e : ℕ) → GoodWindow T shape cs w n g a x e → e ≤ far x
