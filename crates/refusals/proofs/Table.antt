-- The first row of a table that applies, found row by row.
use mathlib.Core.Bool.{Bool, true, false}
use mathlib.Core.List.{List, [], ◌∷◌}
use mathlib.Core.Option.{Option, none, some, some-ne-none}
use mathlib.Core.Path.{◌≡◌, refl}
use Rattle.refusals.specs.Table.{row, first}
use Rattle.refusals.specs.declared.Refusal.{Refusal}

-- b is the result of a row's test, which held or failed
module _ (r : Refusal) (applies : Bool) (rows : List (Option Refusal)) (b : Bool) (is : b ≡ applies) where
  pub row-applies : b ≡ true → some r ≡ first (row r applies ∷ rows)
  unfolding first row
  row-applies e = rw (← is, e)

  pub row-passes : {o : Option Refusal} → b ≡ false → o ≡ first rows → o ≡ first (row r applies ∷ rows)
  unfolding first row
  row-passes e met = rw (← is, e) met

-- rows that stand as one entry, of which one applies or none
module _ (rows : Option Refusal) (others : List (Option Refusal)) where
  pub check-refuses : (r : Refusal) → some r ≡ rows → some r ≡ first (rows ∷ others)
  unfolding first
  check-refuses r e = rw (← e) refl

  pub check-passes : {o : Option Refusal} → none ≡ rows → o ≡ first others → o ≡ first (rows ∷ others)
  unfolding first
  check-passes e met = rw (← e) met

pub rows_end : none ≡ first []
unfolding first
rows_end = refl

pub last-check : (rows : Option Refusal) {o : Option Refusal} → o ≡ rows → o ≡ first (rows ∷ [])
unfolding first
last-check none e = e
last-check (some r) e = e

-- where no refusal is given, no row applies
pub first-none-row : (r : Refusal) (applies : Bool) (rows : List (Option Refusal)) →
    first (row r applies ∷ rows) ≡ none →
    (applies ≡ false) × (first rows ≡ none)
unfolding first row
first-none-row r true rows e = absurd (some-ne-none _ e)
first-none-row r false rows e = (refl, e)

pub first-none-check : (rows : Option Refusal) (others : List (Option Refusal)) → first (rows ∷ others) ≡ none →
    (rows ≡ none) × (first others ≡ none)
unfolding first
first-none-check none others e = (refl, e)
first-none-check (some r) others e = absurd (some-ne-none _ e)

pub ruleset rows = (row-applies, row-passes, check-refuses, check-passes, rows_end, last-check)
