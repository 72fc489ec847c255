-- Which refusal is given (document 01, "Where each refusal is checked"), for the places that the judge, the chooser and
-- the filter share: lengths (21, 22) and settings (23 to 27).
use Rattle.std.specs.Prelude.{ℕ, ◌+◌, Bool, not, ◌&&◌, ◌||◌, [], ◌∷◌, leb, ltb, eqb}
use Rattle.std.proofs.Math.Option.{Option}
use Rattle.refusals.specs.Table.{row, first}
use Rattle.refusals.specs.declared.Refusal.{Refusal}
use Rattle.refusals.specs.declared.Refusal.TheVariants.{FirstLength, OtherLength, WindowLength}
use Rattle.refusals.specs.declared.Refusal.TheVariants.{Bridges, WindowCounts, CoveredCounts, SettleCount}
use Rattle.rule.specs.declared.Shape.{Shape}
use Rattle.settings.specs.declared.CountRange.{CountRange}
use Rattle.settings.specs.declared.Settings.{Settings}

-- the most slots of a plan, and the number of places before, between and after them
abbrev pub limit : ℕ
limit = 64

abbrev pub places : ℕ
places = limit + 1

-- the largest settle count (document 02, T-06)
abbrev pub max_settle : ℕ
max_settle = 8

-- 21: the first slice has 0 entries or more than the limit
unfoldable pub wrong_slots : (n : ℕ) → Bool
wrong_slots n = eqb n 0 || ltb limit n

-- 22: another slice has a different length
unfoldable pub differs : (n other : ℕ) → Bool
differs n other = not (eqb other n)

-- 23: len is 0 or above n
unfoldable pub wrong_length : Shape → (n : ℕ) → Bool
wrong_length shape n = eqb shape.len 0 || ltb n shape.len

-- 24: h > 0 and h + 1 >= len
unfoldable pub wrong_bridges : Shape → Bool
wrong_bridges shape = ltb 0 shape.h && leb shape.len (shape.h + 1)

-- 25 and 26: the least is above the most, or the most is above n
unfoldable pub wrong_counts : CountRange → (n : ℕ) → Bool
wrong_counts range n = ltb range.most range.least || ltb n range.most

-- 27: the settle count is above the largest. It may be above n
unfoldable pub wrong_settle : (settle : ℕ) → Bool
wrong_settle settle = ltb max_settle settle

-- 21 and 22: the first slice has n entries, and another may have a different length
unfoldable pub lengths_refusal : (n : ℕ) (different : Bool) → Option Refusal
lengths_refusal n different = first (row FirstLength (wrong_slots n) ∷ row OtherLength different ∷ [])

-- 23 and 24, which the start of a watch checks too
unfoldable pub shape_refusal : (n : ℕ) → Shape → Option Refusal
shape_refusal n shape = first (row WindowLength (wrong_length shape n) ∷ row Bridges (wrong_bridges shape) ∷ [])

-- 23 to 27
unfoldable pub settings_refusal : (n : ℕ) → Settings → Option Refusal
settings_refusal n s =
    first
    (shape_refusal n s.shape
    ∷ row WindowCounts (wrong_counts s.windows n)
    ∷ row CoveredCounts (wrong_counts s.covered n)
    ∷ row SettleCount (wrong_settle s.shape.settle)
    ∷ [])

unfoldable pub refusal : (n : ℕ) (different : Bool) → Settings → Option Refusal
refusal n different s = first (lengths_refusal n different ∷ settings_refusal n s ∷ [])
