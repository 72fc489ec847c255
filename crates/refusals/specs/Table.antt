-- Which refusal is given, for a table of refusals (document 01, "Where each refusal is checked").
use Rattle.std.specs.Prelude.{Bool, cond, List, [], ◌∷◌}
use Rattle.std.proofs.Math.Option.{Option, none, some}
use Rattle.refusals.specs.declared.Refusal.{Refusal}

-- a row of the table: a refusal where its test applies
unfoldable pub row : Refusal → (applies : Bool) → Option Refusal
row r applies = cond applies (some r) none

-- Places are met from top to bottom, numbers within a place in rising order; the first that applies is given. Rows that
-- are met together, such as those of one place, may stand as one entry.
unfoldable pub first : List (Option Refusal) → Option Refusal
first [] = none
first (some r ∷ rows) = some r
first (none ∷ rows) = first rows
