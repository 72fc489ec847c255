-- The loads from a slot on, and how many of them are under.
use Prim.Native.Nat.{ℕ, zero, suc, ◌+◌, ◌≤◌, ◌<◌}
use native.Mathlib.Nat.{eq-or-lt_of_le}
use native.Mathlib.Omega.{arith}
use mathlib.Core.List.{List, [], ◌∷◌}
use mathlib.Core.Logic.{◌⊎◌, inl, inr, ⊎_elim}
use mathlib.Core.Path.{◌≡◌, refl, sym, ap, ◌∙◌, subst}
use lib.Dec.{T}
use lib.IntN.{ℤ, pos}
use lib.ListN.{length, take, drop, drop_of_length-le}
use lib.Seq.{drop-cons}
use lib.Signed.{◌<ℤ◌, ◌≤ℤ◌, le_z, le_z_yes, clash_ℤ}
use Rattle.facts.proofs.Integers.{lt-or-le}
use Rattle.facts.proofs.Tests.{T→true, false_of_not}
use Rattle.published.specs.Published.{load, unders}

module _ (X : List ℤ) where
  -- the loads from slot l on
  pub data From : ℕ → List ℤ → Type 0 where
    none : {l : ℕ} → l ≡ length X → From l []
    more : {l : ℕ} {x : ℤ} {xs : List ℤ} → l < length X → x ≡ load X l → From (suc l) xs → From l (x ∷ xs)

  pub from : (l d : ℕ) → l + d ≡ length X → From l (drop l X)
  from l zero e = rw (drop_of_length-le X {i = l} (omega arith)) (none {l = l} (omega arith))
  from l (suc d) e =
      rw (drop-cons X l (pos 0) (omega arith)) (more {l = l} (omega arith) refl (from (suc l) d (omega arith)))

  pub from-drop : {l : ℕ} {xs : List ℤ} → From l xs → drop l X ≡ xs
  from-drop (none {l} e) = drop_of_length-le X {i = l} (omega arith)
  from-drop (more {l} bound is f) = rw is (drop-cons X l (pos 0) bound ∙ ap (λ ys. load X l ∷ ys) (from-drop f))

module _ {k x : ℤ} (xs : List ℤ) where
  pub unders-over : k <ℤ x → unders k (x ∷ xs) ≡ unders k xs
  unfolding unders
  unders-over bound = rw (false_of_not (le_z x k) (λ e. clash_ℤ bound (le_z_yes (subst T (sym e) tt))))

  pub unders-under : x ≤ℤ k → unders k (x ∷ xs) ≡ suc (unders k xs)
  unfolding unders
  unders-under bound = rw (T→true (le_z x k) bound.le)

module _ (k : ℤ) (X : List ℤ) where
  pub all-over : (n : ℕ) {l : ℕ} {xs : List ℤ} → From X l xs → ((j : ℕ) → l ≤ j → j < l + n → k <ℤ load X j) →
      unders k (take n xs) ≤ 0
  unfolding unders
  all-over zero f o = omega arith
  all-over (suc n) (none e) o = omega arith
  all-over (suc n) (more {l} {xs = xs} hl is f) o =
      rw (is, unders-over (take n xs) (o l (omega arith) (omega arith)))
      (all-over n f (λ j lj jn. o j (omega arith) (omega arith)))

  over_first : {x : ℤ} (xs : List ℤ) → unders k (x ∷ xs) ≤ 0 → (k <ℤ x) × (unders k xs ≤ 0)
  over_first {x} xs u = by (lt-or-le k x)
    where
      by : (k <ℤ x) ⊎ (x ≤ℤ k) → (k <ℤ x) × (unders k xs ≤ 0)
      by (inl o) = (o, rw (unders-over xs o) at u)
      by (inr e) = absurd (omega (arith, rw (unders-under xs e) at u))

  pub each_over : (n : ℕ) {l : ℕ} {xs : List ℤ} → From X l xs → unders k (take n xs) ≤ 0 →
      (j : ℕ) → l ≤ j → j < l + n → j < length X → k <ℤ load X j
  each_over zero f u j lj jn jx = absurd (omega arith)
  each_over (suc n) (none e) u j lj jn jx = absurd (omega arith)
  each_over (suc n) (more {xs = xs} hl is f) u j lj jn jx =
      let (o, v) = over_first (take n xs) u in
      ⊎_elim (λ e. subst (λ j. k <ℤ load X j) e (rw is at o)) (λ q. each_over n f v j q (omega arith) jx) (eq-or-lt_of_le lj)
