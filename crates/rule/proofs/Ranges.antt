-- The rule depends on a range only through what its slot can be: marks are legal for ranges exactly when they are legal
-- for the classes of the ranges, and exactly when they are legal for the ends on the marks' sides.
use Prim.Native.Nat.{ℕ, suc}
use mathlib.Core.Bool.{Bool, true, false, cond, false≢true, ◌&&◌, or-false}
use mathlib.Core.List.{List, [], ◌∷◌, map}
use mathlib.Core.Logic.{◌↔◌}
use mathlib.Core.Path.{◌≡◌, refl, sym, ap, ap₂, ◌∙◌}
use lib.IntN.{ℤ}
use lib.ListN.{length}
use lib.Signed.{◌≤ℤ◌, ≤ℤ_refl}
use Rattle.rule.proofs.Sides.{over-mono}
use Rattle.rule.proofs.LegalFrom.{legal→parts, parts→legal}
use Rattle.facts.proofs.Tests.{and-true→both, or-true, cond_cases}
use Rattle.rule.specs.Ranges.{Proper, ChosenIn, end_for, ends_for, LegalFor, under_only, over_only, either, class_of}
use Rattle.rule.specs.Ranges.{allows}
use Rattle.rule.specs.Rule.{over, goes_with, agrees, carries, legal_by, legal}
use Rattle.rule.specs.declared.Range.{Range}
use Rattle.rule.specs.declared.Shape.{Shape}

pub chosen-length : (rs : List Range) (xs : List ℤ) → ChosenIn rs xs → length xs ≡ length rs
chosen-length [] [] c = refl
chosen-length [] (x ∷ xs) c = absurd c
chosen-length (r ∷ rs) [] c = absurd c
chosen-length (r ∷ rs) (x ∷ xs) (l, u, c) = ap suc (chosen-length rs xs c)

module _ (k : ℤ) (r : Range) (m : ℕ) where
  -- o, x and u say whether the lowest load, a load of the range and the highest load are over
  allowed : (o x u : Bool) → (o ≡ true → x ≡ true) → (x ≡ true → u ≡ true) → goes_with x m ≡ true →
      allows (cond o over_only (cond u either under_only)) m ≡ true
  unfolding allows
  allowed true true u f g e = e
  allowed true false u f g e = absurd (false≢true (f refl))
  allowed false true true f g e = or-true (goes_with false m) e
  allowed false true false f g e = absurd (false≢true (g refl))
  allowed false false true f g e = rw e
  allowed false false false f g e = e

  to-class : (x : ℤ) → r.lowest ≤ℤ x → x ≤ℤ r.highest → carries k x m ≡ true → allows (class_of k r) m ≡ true
  unfolding class_of
  to-class x l u e = allowed _ _ _ (over-mono k l) (over-mono k u) e

  -- what the class allows goes with the end on the mark's side
  end-carries : r.lowest ≤ℤ r.highest → allows (class_of k r) m ≡ carries k (end_for r m) m
  unfolding class_of allows
  end-carries bound = by _ _ _ refl refl refl (over-mono k bound)
    where
      by : (g o u : Bool) → goes_with true m ≡ g → over k r.lowest ≡ o → over k r.highest ≡ u →
          (o ≡ true → u ≡ true) → allows (cond o over_only (cond u either under_only)) m
          ≡ goes_with (over k (cond g r.highest r.lowest)) m
      by true true true eg eo eu f = rw eu
      by true false true eg eo eu f = rw (eu, eg) (or-true (goes_with false m) refl)
      by true true false eg eo eu f = absurd (false≢true (f refl))
      by true false false eg eo eu f = rw eu
      by false true u eg eo eu f = rw eo
      by false false true eg eo eu f = rw (eo, eg) (or-false (goes_with false m))
      by false false false eg eo eu f = rw eo

module _ (k : ℤ) where
  to-classes : (rs : List Range) (xs : List ℤ) (ms : List ℕ) → ChosenIn rs xs → agrees (carries k) xs ms ≡ true →
      agrees allows (map (class_of k) rs) ms ≡ true
  unfolding agrees
  to-classes [] [] [] c e = refl
  to-classes [] [] (m ∷ ms) c e = e
  to-classes [] (x ∷ xs) ms c e = absurd c
  to-classes (r ∷ rs) [] ms c e = absurd c
  to-classes (r ∷ rs) (x ∷ xs) [] c e = absurd (false≢true e)
  to-classes (r ∷ rs) (x ∷ xs) (m ∷ ms) (l, u, c) e =
      let (g, a) = and-true→both (carries k x m) _ e in
      rw (to-class k r m x l u g) (to-classes rs xs ms c a)

  ends-agree : (rs : List Range) (ms : List ℕ) → Proper rs →
      agrees allows (map (class_of k) rs) ms ≡ agrees (carries k) (ends_for rs ms) ms
  unfolding agrees
  ends-agree [] [] p = refl
  ends-agree [] (m ∷ ms) p = refl
  ends-agree (r ∷ rs) [] p = refl
  ends-agree (r ∷ rs) (m ∷ ms) (bound, p) = ap₂ ◌&&◌ (end-carries k r m bound) (ends-agree rs ms p)

end-in : (r : Range) (m : ℕ) → r.lowest ≤ℤ r.highest → (r.lowest ≤ℤ end_for r m) × (end_for r m ≤ℤ r.highest)
end-in r m bound =
    cond_cases (λ x. (r.lowest ≤ℤ x) × (x ≤ℤ r.highest)) (goes_with true m) (bound, ≤ℤ_refl _) (≤ℤ_refl _, bound)

ends-chosen : (rs : List Range) (ms : List ℕ) → Proper rs → ChosenIn rs (ends_for rs ms)
ends-chosen [] ms p = tt
ends-chosen (r ∷ rs) [] (bound, p) = (≤ℤ_refl _, bound, ends-chosen rs [] p)
ends-chosen (r ∷ rs) (m ∷ ms) (bound, p) =
    let (l, u) = end-in r m bound in
    (l, u, ends-chosen rs ms p)

module _ (k : ℤ) (shape : Shape) (rs : List Range) (ms : List ℕ) (p : Proper rs) where
  to : LegalFor k shape rs ms → legal_by allows shape (map (class_of k) rs) ms ≡ true
  to (xs, c, e) =
      let (agree, order, kept) = legal→parts (carries k) shape xs ms e in
      parts→legal allows shape _ ms (to-classes k rs xs ms c agree) order kept

  at-ends : legal_by allows shape (map (class_of k) rs) ms ≡ true → legal k shape (ends_for rs ms) ms ≡ true
  at-ends e =
      let (agree, order, kept) = legal→parts allows shape _ ms e in
      parts→legal (carries k) shape _ ms (sym (ends-agree k rs ms p) ∙ agree) order kept

  from : legal k shape (ends_for rs ms) ms ≡ true → LegalFor k shape rs ms
  from e = (ends_for rs ms, ends-chosen rs ms p, e)

  pub legal_for-iff-classes : LegalFor k shape rs ms ↔ (legal_by allows shape (map (class_of k) rs) ms ≡ true)
  legal_for-iff-classes = (to, λ e. from (at-ends e))

  pub legal_for-iff-ends : LegalFor k shape rs ms ↔ (legal k shape (ends_for rs ms) ms ≡ true)
  legal_for-iff-ends = ((λ l. at-ends (to l)), from)
