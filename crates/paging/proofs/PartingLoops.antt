-- The search for the last slot at which a plan parts: marks are tried from 0 on, slots from the last on.
use Prim.Native.Nat.{ℕ, ◌+◌, ◌≤◌, ◌<◌}
use native.Mathlib.Nat.{eq-or-lt_of_le}
use native.Mathlib.Numerals.{add-one}
use native.Mathlib.Omega.{arith}
use mathlib.Core.Bool.{Bool, false, true}
use mathlib.Core.Logic.{⊎_elim}
use mathlib.Core.Path.{◌≡◌, sym, subst, ◌∙◌}
use Rattle.paging.specs.Parting.{NonePartsFrom, LastParting}

-- no plan parts with a mark below m
pub record NoneBelow (parts : ℕ → Bool) (m : ℕ) : Type 0 where
  pub most : m ≤ 4
  pub fails : (k : ℕ) → k < m → parts k ≡ false

module _ {parts : ℕ → Bool} where
  pub mark-start : NoneBelow parts 0
  mark-start = record { most = omega arith; fails = λ k e. absurd (omega arith) }

  pub mark-step : (m : ℕ) {b : Bool} → m < 4 → b ≡ parts m → b ≡ false → NoneBelow parts m → NoneBelow parts (m + 1)
  mark-step m few is e none =
      record {
        most = omega arith;
        fails = λ k below.
            let at_most : k ≤ m = omega arith in
            ⊎_elim (λ same. subst (λ k. parts k ≡ false) (sym same) (sym is ∙ e)) (none.fails k)
            (eq-or-lt_of_le at_most);
      }

-- no plan parts from slot j on
pub record NoneFrom (parts : ℕ → ℕ → Bool) (end j : ℕ) : Type 0 where
  pub within : j ≤ end
  pub fails : NonePartsFrom parts j end

module _ (parts : ℕ → ℕ → Bool) (end : ℕ) where
  pub slot-start : {j : ℕ} → j ≡ end → NoneFrom parts end j
  slot-start e = record { within = omega arith; fails = λ i m from before few. absurd (omega arith) }

  module _ (j : ℕ) {i m : ℕ} (at : i ≡ j + 1) (none : NoneFrom parts end i) (most : m ≤ 4)
      (smaller : (k : ℕ) → k < m → parts j k ≡ false) where
    pub slot_step : 4 ≤ m → NoneFrom parts end j
    slot_step all =
        record {
          within = omega (arith, at, none.within);
          fails = λ i k from before few.
              ⊎_elim (λ same. subst (λ i. parts i k ≡ false) same (smaller k (omega arith)))
              (λ later. none.fails i k (omega (arith, at, later)) before few) (eq-or-lt_of_le from);
        }

    pub slot-found : m < 4 → parts j m ≡ true → LastParting parts end j m
    slot-found few here =
        record {
          there = omega (arith, at, none.within);
          mark = few;
          here = here;
          smaller = smaller;
          later = subst (λ i. NonePartsFrom parts i end) (at ∙ rw add-one) none.fails;
        }
