-- The search for the last slot at which a plan parts: marks are tried from 0 on, slots from the last on.
use Prim.Native.Nat.{ℕ, zero, suc, ◌≤◌, ◌<◌}
use borrow.Author.Count.{below_none, below_more}
use native.Mathlib.Nat.{eq-or-lt_of_le}
use native.Mathlib.Numerals.{add-one}
use native.Mathlib.Omega.{arith}
use mathlib.Core.Bool.{Bool, false, true}
use mathlib.Core.Logic.{◌⊎◌, inl, inr, ⊎_elim}
use mathlib.Core.Path.{◌≡◌, refl, subst}
use Rattle.std.specs.Option.{MatchOption}
use Rattle.std.specs.declared.option.Option.{Option}
use Rattle.std.specs.declared.option.Option.TheVariants.{Some, None}
use Rattle.paging.specs.Parting.{NonePartsFrom, FirstParting, LastParting}

-- what `find` gives of the marks from 0 on
pub first-parting : (parts : ℕ → Bool) (m : Option ℕ) →
    MatchOption m ((k : ℕ) → 0 ≤ k → k < 4 → parts k ≡ false)
    (λ m. (0 ≤ m) × (m < 4) × (parts m ≡ true) × ((k : ℕ) → 0 ≤ k → k < m → parts k ≡ false)) →
    MatchOption m ((k : ℕ) → k < 4 → parts k ≡ false) (FirstParting parts)
first-parting parts None none = λ k few. none k (omega arith) few
first-parting parts (Some m) (_, few, here, smaller) =
    record { mark = few; here = here; smaller = λ k. smaller k (omega arith) }

-- The same search as a decision.
find-mark : (parts : ℕ → Bool) (n : ℕ) → n ≤ 4 →
    ((m : ℕ) × FirstParting parts m) ⊎ ((k : ℕ) → k < n → parts k ≡ false)
find-mark parts zero few = inr (below_none (λ k. parts k ≡ false))
find-mark parts (suc n) few = ⊎_elim inl (by (parts n) refl) (find-mark parts n (omega arith))
  where
    by : (b : Bool) → parts n ≡ b → ((k : ℕ) → k < n → parts k ≡ false) →
        ((m : ℕ) × FirstParting parts m) ⊎ ((k : ℕ) → k < suc n → parts k ≡ false)
    by true here smaller = inl (n, record { mark = omega arith; here = here; smaller = smaller })
    by false fails smaller = inr (rw (← add-one) (below_more (λ k. parts k ≡ false) n smaller fails))

module _ (parts : ℕ → ℕ → Bool) (end : ℕ) where
  abbrev Found : Type 0
  Found = (j m : ℕ) × LastParting parts end j m

  find-slot : (j : ℕ) → j ≤ end → NonePartsFrom parts j end → Found ⊎ NonePartsFrom parts 0 end
  find-slot zero within none = inr none
  find-slot (suc j) within none =
      ⊎_elim
      (λ (m, first). inl (
        j,
        m,
        record {
          there = omega arith;
          mark = first.mark;
          here = first.here;
          smaller = first.smaller;
          later = none;
        },
      ))
      (λ fails. find-slot j (omega arith) (λ i m from before few.
      ⊎_elim (λ same. subst (λ i. parts i m ≡ false) same (fails m few)) (λ later. none i m later before few)
      (eq-or-lt_of_le from)))
      (find-mark (parts j) 4 (omega arith))

  pub search-parting : Found ⊎ NonePartsFrom parts 0 end
  search-parting = find-slot end (omega arith) (λ i m from before few. absurd (omega arith))
