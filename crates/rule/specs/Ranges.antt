-- Marks that are legal for load ranges (document 01, "A plan as marks"), and the classes of slots,
-- which decide the same (proofs/Ranges.antt).
use Rattle.std.specs.Prelude.{ℕ, Bool, true, false, cond, ◌||◌, List, [], ◌∷◌, ◌≡◌, ℤ, ◌≤ℤ◌}
use Rattle.rule.specs.Rule.{over, goes_with, legal}
use Rattle.rule.specs.declared.Range.{Range}
use Rattle.rule.specs.declared.Shape.{Shape}

abbrev pub range : (lowest highest : ℤ) → Range
range lo hi = record { lowest = lo; highest = hi }

-- in no slot is the lowest load above the highest
abbrev pub Proper : List Range → Type 0
Proper [] = Unit
Proper (r ∷ rs) = (r.lowest ≤ℤ r.highest) × Proper rs

-- a choice of loads in the ranges
abbrev pub ChosenIn : List Range → List ℤ → Type 0
ChosenIn [] [] = Unit
ChosenIn [] (x ∷ xs) = ⊥
ChosenIn (r ∷ rs) [] = ⊥
ChosenIn (r ∷ rs) (x ∷ xs) = (r.lowest ≤ℤ x) × (x ≤ℤ r.highest) × ChosenIn rs xs

-- the end of a range on a mark's side: the highest load for a mark that goes with over loads, the lowest for any other
abbrev pub end_for : Range → (m : ℕ) → ℤ
end_for r m = cond (goes_with true m) r.highest r.lowest

-- the choice of these ends. Marks that are legal for some choice are legal for this one (proofs/Ranges.antt)
abbrev pub ends_for : List Range → List ℕ → List ℤ
ends_for [] ms = []
ends_for (r ∷ rs) [] = r.lowest ∷ ends_for rs []
ends_for (r ∷ rs) (m ∷ ms) = end_for r m ∷ ends_for rs ms

-- legal for ranges: legal for some choice of loads in them
abbrev pub LegalFor : (k : ℤ) → Shape → List Range → List ℕ → Type 0
LegalFor k shape ranges marks = (loads : List ℤ) × ChosenIn ranges loads × (legal k shape loads marks ≡ true)

-- what a slot can be: under, over, or both, in which case it is open, in document 01's term ("Words of demand 3")
pub data Class : Type 0 where
  under_only : Class
  over_only : Class
  either : Class

-- the class of a range whose lowest load is not above its highest
unfoldable pub class_of : ℤ → Range → Class
class_of k r = cond (over k r.lowest) over_only (cond (over k r.highest) either under_only)

-- the marks that go with some load of the class
unfoldable pub allows : Class → ℕ → Bool
allows under_only m = goes_with false m
allows over_only m = goes_with true m
allows either m = goes_with false m || goes_with true m
