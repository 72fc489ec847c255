-- How many of the slots owed are lacking, counted from the last slot back to the first.
use Prim.Native.Nat.{ℕ, zero, suc, ◌+◌, ◌-◌}
use native.Mathlib.Nat.{le_refl}
use native.Mathlib.Omega.{arith}
use mathlib.Core.Bool.{Bool, true, false, cond}
use mathlib.Core.List.{List, [], ◌∷◌}
use mathlib.Core.Path.{◌≡◌, refl, sym, ◌∙◌}
use borrow.Author.Tests.{le-leb, lt-leb, leb-true, eqb-true, eq-eqb}
use lib.Dec.{leb, eqb}
use Rattle.facts.proofs.Tests.{bool-ext}
use Rattle.rule.specs.Ranges.{Class, allows}
use Rattle.requests.proofs.BestIsLeast.{clearable-nil, clearable-cons}
use Rattle.requests.specs.Best.{clearable}
use Rattle.sides.specs.Lacks.{Lacks, lacking_before}

pub lacks-nil : (settle : ℕ) → Lacks settle [] 0
lacks-nil settle =
    record { at_most = omega arith; exactly = λ q e. clearable-nil q ∙ sym (le-leb (0 + q) settle (omega arith)) }

pub lacks-cons : (settle lack : ℕ) (c : Class) (cs : List Class) → Lacks settle cs lack →
    Lacks settle (c ∷ cs) (lacking_before settle c lack)
unfolding clearable
lacks-cons settle lack c cs l = by (allows c 0) refl
  where
    by : (free : Bool) → allows c 0 ≡ free → Lacks settle (c ∷ cs) (cond free (lack - 1) settle)
    by true a =
        record {
          at_most = omega (arith, l.at_most);
          exactly = λ q e.
              clearable-cons q c cs a ∙ l.exactly (q - 1) (omega arith)
              ∙ bool-ext _ _
              (λ f. le-leb (lack - 1 + q) settle (omega (arith, e, leb-true (lack + (q - 1)) settle f)))
              (λ f. le-leb (lack + (q - 1)) settle (omega (arith, l.at_most, leb-true (lack - 1 + q) settle f)));
        }
    by false a = record { at_most = le_refl _; exactly = λ q e. none q }
      where
        none : (q : ℕ) → clearable q (c ∷ cs) ≡ leb (settle + q) settle
        none zero = sym (le-leb (settle + 0) settle (omega arith))
        none (suc q) = rw (a, lt-leb (settle + suc q) settle (omega arith))

-- the slots owed can be left uncovered exactly if none are lacking
pub none-lacking : {settle lack : ℕ} {cs : List Class} → Lacks settle cs lack → clearable settle cs ≡ eqb lack 0
none-lacking {settle} {lack} l =
    l.exactly settle (le_refl _)
    ∙ bool-ext _ _
    (λ f. eq-eqb lack 0 (omega (arith, leb-true (lack + settle) settle f)))
    (λ f. le-leb (lack + settle) settle (omega (arith, eqb-true lack 0 f)))
