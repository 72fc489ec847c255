-- The result of one step of a scan, from the tests in its code (g, f and next are what the functions called there
-- gave), and what that result says of the slot.
use Prim.Native.Nat.{ℕ, ◌≤◌, ◌<◌}
use mathlib.Core.Bool.{Bool, true, false, cond, not, ◌&&◌, and-false}
use mathlib.Core.Path.{◌≡◌, refl}
use borrow.Author.Tests.{le-leb, lt-leb, leb-true, not-true, not-false}
use lib.Dec.{leb}
use Rattle.rule.proofs.LegalFrom.{Passes}
use Rattle.facts.proofs.Tests.{and-true→both}
use Rattle.rule.specs.ScanState.{slots_after, bridges_after, too_soon, advanced}
use Rattle.judge.specs.ScanStep.{passes, step_of, on, broken}
use Rattle.rule.specs.Rule.{goes_with, follows}
use Rattle.rule.specs.declared.ScanState.{ScanState}
use Rattle.rule.specs.declared.Shape.{Shape}

module _ (shape : Shape) (at : ScanState) (o : Bool) (m : ℕ) where
  pub broken-by-load : {g : Bool} → g ≡ goes_with o m → not g ≡ true → broken ≡ step_of shape at o m
  unfolding passes step_of
  broken-by-load {g} is e = rw (← is, not-true g e)

  pub broken-by-order : {f : Bool} → f ≡ follows at.mark m → not f ≡ true → broken ≡ step_of shape at o m
  unfolding passes step_of
  broken-by-order {f} is e = simp (← is, not-true f e, and-false)

  pub broken-by-settle : {t : Bool} → t ≡ too_soon at.owed m → t ≡ true → broken ≡ step_of shape at o m
  unfolding passes step_of
  broken-by-settle is e = simp (← is, e, and-false)

  module _ (next : ScanState) (is : next ≡ advanced shape.settle at m) where
    pub broken-by-length : shape.len < next.slots → broken ≡ step_of shape at o m
    unfolding passes step_of
    broken-by-length l = simp (lt-leb (slots_after at.slots m) shape.len (rw is at l), and-false)

    pub broken-by-bridges : shape.h < next.bridges → broken ≡ step_of shape at o m
    unfolding passes step_of
    broken-by-bridges b = simp (lt-leb (bridges_after at.bridges m) shape.h (rw is at b), and-false)

    pub step-on : {g f t : Bool} → g ≡ goes_with o m → not g ≡ false → f ≡ follows at.mark m → not f ≡ false →
        t ≡ too_soon at.owed m → t ≡ false → next.slots ≤ shape.len → next.bridges ≤ shape.h →
        on next ≡ step_of shape at o m
    unfolding passes step_of
    step-on {g} {f} g-is eg f-is ef t-is et l b =
        simp (
          is,
          ← g-is,
          not-false g eg,
          ← f-is,
          not-false f ef,
          ← t-is,
          et,
          le-leb (slots_after at.slots m) shape.len (rw is at l),
          le-leb (bridges_after at.bridges m) shape.h (rw is at b),
        )

  Passes→passes : Passes shape at (goes_with o m) m → passes shape at o m ≡ true
  unfolding passes
  Passes→passes p = rw (p.goes, p.follow, p.in_time, le-leb _ _ p.fits.slots, le-leb _ _ p.fits.bridges_fit)

  passes→Passes : passes shape at o m ≡ true → Passes shape at (goes_with o m) m
  unfolding passes
  passes→Passes e =
      let marked = goes_with o m && follows at.mark m in
      let in_time = marked && not (too_soon at.owed m) in
      let (gftl, b) = and-true→both (in_time && leb (slots_after at.slots m) shape.len) _ e in
      let (gft, l) = and-true→both in_time _ gftl in
      let (gf, t) = and-true→both marked _ gft in
      let (g, f) = and-true→both (goes_with o m) _ gf in
      record {
        goes = g;
        follow = f;
        in_time = not-true _ t;
        fits = record { slots = leb-true _ _ l; bridges_fit = leb-true _ _ b };
      }

  pub Passes→not-broken : Passes shape at (goes_with o m) m → step_of shape at o m ≡ broken → ⊥
  unfolding step_of
  Passes→not-broken p e =
      let t : passes shape at o m ≡ true = Passes→passes p in
      cc

  pub on→Passes : (next : ScanState) → step_of shape at o m ≡ on next →
      Passes shape at (goes_with o m) m × (advanced shape.settle at m ≡ next)
  unfolding step_of
  on→Passes next e = by (passes shape at o m) refl e
    where
      by : (b : Bool) → passes shape at o m ≡ b → cond b (on (advanced shape.settle at m)) broken ≡ on next →
          Passes shape at (goes_with o m) m × (advanced shape.settle at m ≡ next)
      by true t e = (passes→Passes t, cc)
      by false t e = cc
