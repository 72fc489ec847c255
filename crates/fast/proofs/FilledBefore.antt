-- An array filled from its first place on, for the loops of `after::after_windows`, `turned::free_slots`,
-- `losses::losses`, `sweep::sweep_windows` and `sweep::sweep_gaps`.
use Prim.Native.Nat.{ℕ, ◌+◌, ◌≤◌, ◌<◌}
use native.Mathlib.Nat.{le_refl}
use native.Mathlib.Omega.{arith}
use mathlib.Core.List.{List}
use mathlib.Core.Path.{◌≡◌, refl, subst, ◌∙◌}
use lib.ListN.{length, get_or, set, length-set}
use lib.Seq.{get_or-set_other}
use Rattle.facts.proofs.Lists.{written-before}

module _ {A : Type 0} (d : A) where
  -- the places before i have what they are to have, where P says it of a place, what it had and what it has; the rest
  -- are as they were
  pub record FilledBefore (P : (j : ℕ) (was is : A) → Type 0) (start filled : List A) (i : ℕ) : Type 0 where
    pub wide : length filled ≡ length start
    pub done : (j : ℕ) → j < i → P j (get_or start j d) (get_or filled j d)
    pub rest : (j : ℕ) → i ≤ j → get_or filled j d ≡ get_or start j d

  module _ {P : (j : ℕ) (was is : A) → Type 0} {start : List A} where
    pub filled-start : FilledBefore P start start 0
    filled-start = record { wide = refl; done = λ j l. absurd (omega arith); rest = λ j l. refl }

    pub filled-step : (filled : List A) (i : ℕ) (v : A) → FilledBefore P start filled i → i < length start →
        P i (get_or filled i d) v → FilledBefore P start (set filled i v) (i + 1)
    filled-step filled i v f e is =
        record {
          wide = length-set filled i v ∙ f.wide;
          done = written-before (λ j y. P j (get_or start j d) y) filled i v d (omega (arith, e, f.wide)) f.done
              (subst (λ x. P i x v) (f.rest i (le_refl _)) is);
          rest = λ j l. get_or-set_other filled i j v d (omega (arith, l)) ∙ f.rest j (omega arith);
        }
