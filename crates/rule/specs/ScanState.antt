-- How marks are scanned from the left, slot by slot. Private functions promise this and proofs use it, but no public
-- contract rests on it (proofs/LegalFrom.antt proves that it is the rule).
use Rattle.std.specs.Prelude.{ℕ, ◌+◌, ◌-◌, Bool, cond, ◌&&◌, ◌||◌, eqb, ltb}
use Rattle.rule.specs.declared.ScanState.{ScanState}

-- the slots and the bridges of the window under way after a slot with mark m, where they were l and b before it
unfoldable pub slots_after : (l m : ℕ) → ℕ
slots_after l m = cond (eqb m 1) 1 (cond (eqb m 2 || eqb m 3) (l + 1) 0)

unfoldable pub bridges_after : (b m : ℕ) → ℕ
bridges_after b m = cond (eqb m 3) (b + 1) (cond (eqb m 2) b 0)

-- the uncovered slots that are owed after it before the next window may open, where q were owed before it; in a window
-- they are owed after its last slot
unfoldable pub owed_after : (settle q m : ℕ) → ℕ
owed_after settle q m = cond (eqb m 0) (q - 1) (cond (eqb m 1) settle q)

-- a slot with mark m opens a window while slots are owed
unfoldable pub too_soon : (q m : ℕ) → Bool
too_soon q m = eqb m 1 && ltb 0 q

abbrev pub advanced : (settle : ℕ) → ScanState → ℕ → ScanState
advanced settle at m =
    record {
      mark = m;
      slots = slots_after at.slots m;
      bridges = bridges_after at.bridges m;
      owed = owed_after settle at.owed m;
    }
