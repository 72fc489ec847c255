-- The class of a range, from whether its ends are over, and which marks a class allows, from which others it allows.
use mathlib.Core.Bool.{true, false, true≢false}
use mathlib.Core.Path.{◌≡◌, refl}
use lib.IntN.{ℤ}
use Rattle.rule.specs.Ranges.{Class, under_only, over_only, either, class_of, allows}
use Rattle.rule.specs.Rule.{over, goes_with}
use Rattle.rule.specs.declared.Range.{Range}

module _ (k : ℤ) (r : Range) where
  pub class-over : over k r.lowest ≡ true → class_of k r ≡ over_only
  unfolding class_of
  class-over low = rw low

  pub class-either : over k r.lowest ≡ false → over k r.highest ≡ true → class_of k r ≡ either
  unfolding class_of
  class-either low high = rw (low, high)

  pub class-under : over k r.lowest ≡ false → over k r.highest ≡ false → class_of k r ≡ under_only
  unfolding class_of
  class-under low high = rw (low, high)

-- a slot that may be over may open a window, and one that may be a bridge may be uncovered
pub allows-2→allows-1 : (c : Class) → allows c 2 ≡ true → allows c 1 ≡ true
unfolding allows goes_with
allows-2→allows-1 under_only e = e
allows-2→allows-1 over_only e = refl
allows-2→allows-1 either e = e

pub allows-3→allows-0 : (c : Class) → allows c 3 ≡ true → allows c 0 ≡ true
unfolding allows goes_with
allows-3→allows-0 under_only e = refl
allows-3→allows-0 over_only e = e
allows-3→allows-0 either e = refl

-- a slot that may not be uncovered may open a window, and one that may not be over may be a bridge
pub not-allows-0→allows-1 : (c : Class) → allows c 0 ≡ false → allows c 1 ≡ true
unfolding allows goes_with
not-allows-0→allows-1 under_only e = absurd (true≢false e)
not-allows-0→allows-1 over_only e = refl
not-allows-0→allows-1 either e = absurd (true≢false e)

pub not-allows-2→allows-3 : (c : Class) → allows c 2 ≡ false → allows c 3 ≡ true
unfolding allows goes_with
not-allows-2→allows-3 under_only e = refl
not-allows-2→allows-3 over_only e = absurd (true≢false e)
not-allows-2→allows-3 either e = refl
