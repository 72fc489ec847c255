-- A row as what comes after a window, from the last slot back to the first, for the loop of `least::after_window`.
use Prim.Native.Nat.{ℕ, ◌+◌, ◌≤◌, ◌<◌}
use native.Mathlib.Nat.{le_refl, eq-or-lt_of_le}
use native.Mathlib.Numerals.{add-one}
use native.Mathlib.Omega.{arith}
use mathlib.Core.Bool.{cond}
use mathlib.Core.List.{List, []}
use mathlib.Core.Logic.{⊎_elim}
use mathlib.Core.Path.{◌≡◌, refl, subst, ◌∙◌}
use lib.Dec.{eqb}
use lib.ListN.{length, drop, get_or, set, replicate, drop_of_length-le, length-map, length-set, length-replicate}
use lib.ListN.{get_or-replicate}
use lib.Seq.{get_or-set_same, get_or-set_other}
use Rattle.rule.specs.ClassCodes.{decode, decode_all}
use Rattle.rule.specs.Ranges.{Class}
use Rattle.settings.specs.declared.Settings.{Settings}
use Rattle.settings.specs.Refusals.{limit, places}
use Rattle.requests.proofs.BestIsLeast.{clearable-nil}
use Rattle.requests.specs.Best.{best}
use Rattle.requests.specs.Solution.{sentinel}
use Rattle.least.proofs.InsideLoop.{from-slot}
use Rattle.sides.specs.Lacks.{Lacks, lacking_before}
use Rattle.sides.proofs.Lacks.{lacks-nil, lacks-cons, none-lacking}
use Rattle.least.specs.Rows.{Row, RowAfter, after_from}

module _ (s : Settings) (classes : List ℕ) where
  abbrev cs : List Class
  cs = decode_all classes

  -- what comes after a window, filled from slot i on
  pub record AfterFrom (row after : List ℕ) (lack i : ℕ) : Type 0 where
    pub inside : i ≤ length classes
    pub wide : length after ≡ places
    pub lacks : Lacks s.shape.settle (drop i cs) lack
    pub counts : (w : ℕ) → Row s cs w row → (j : ℕ) → i ≤ j → j ≤ limit → get_or after j 0 ≡ after_from s cs j w

  module _ {row : List ℕ} where
    pub after-start : length classes ≤ limit → AfterFrom row (replicate places 0) 0 (length classes)
    unfolding best
    after-start e =
        let none : (j : ℕ) → length classes ≤ j → drop j cs ≡ [] =
        λ j p. drop_of_length-le cs {i = j} (omega (arith, p, length-map classes decode)) in
        record {
          inside = le_refl _;
          wide = length-replicate {A = ℕ} places 0;
          lacks = rw (none (length classes) (le_refl _)) (lacks-nil s.shape.settle);
          counts = λ w r j p q.
              rw (none j p, clearable-nil s.shape.settle) (get_or-replicate places j 0 0 (omega arith));
        }

    pub after-step : (after : List ℕ) (lack i lack' v : ℕ) {j : ℕ} → length classes ≤ limit → j ≡ i + 1 →
        j ≤ length classes → AfterFrom row after lack j →
        lack' ≡ lacking_before s.shape.settle (decode (get_or classes i 0)) lack →
        v ≡ cond (eqb lack' 0) (get_or row i 0) sentinel → AfterFrom row (set after i v) lack' i
    after-step after lack i lack' v few at inside g is value =
        let f = subst (AfterFrom row after lack) at g in
        let there : i < length classes = omega arith in
        let lacks : Lacks s.shape.settle (drop i cs) lack' =
        rw (from-slot classes i there, is) (lacks-cons s.shape.settle lack _ _ f.lacks) in
        record {
          inside = omega arith;
          wide = length-set after i v ∙ f.wide;
          lacks = lacks;
          counts = λ w r j p q.
              let here : v ≡ after_from s cs i w = value ∙ rw (none-lacking lacks, r.counts i (omega arith)) refl in
              ⊎_elim
              (λ t. rw (← t) (get_or-set_same after i v 0 (omega (arith, few, f.wide)) ∙ here))
              (λ l. get_or-set_other after i j v 0 (omega (arith, l)) ∙ f.counts w r j (omega (arith, l)) q)
              (eq-or-lt_of_le p);
        }

    pub after-end : {after : List ℕ} {lack i : ℕ} → i ≤ 0 → AfterFrom row after lack i → (w : ℕ) →
        Row s cs w row → RowAfter s cs (w + 1) after
    after-end e f w r = rw add-one (record { wide = f.wide; counts = λ j l. f.counts w r j (omega arith) l })
