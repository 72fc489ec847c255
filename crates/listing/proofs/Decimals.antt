-- What `decimal` gives: the number's digits, without a leading zero, and no more than its size allows.
use Prim.Native.Nat.{ℕ, zero, suc, ◌+◌, ◌-◌, ◌*◌, ◌/◌, ◌%◌, ◌^◌, ◌≤◌, ◌<◌}
use native.Mathlib.Omega.{arith}
use mathlib.Core.Bool.{Bool, true, false}
use mathlib.Core.List.{List, [], ◌∷◌, ◌++◌}
use mathlib.Core.Path.{◌≡◌, refl, ◌∙◌}
use borrow.Author.Tests.{ltb-true, ltb-false, lt-ltb, le-ltb}
use lib.Dec.{ltb}
use lib.ListN.{length, get_or, length-append, get_or-append}
use Rattle.facts.proofs.Naturals.{lt-pow-10}
use Rattle.listing.specs.Text.{digits, decimal, value, Digits, Decimal}

-- what holds of one digit, and of n where it holds of n / 10, holds of all numbers
module _ (P : ℕ → List ℕ → Type 0) (one : (n : ℕ) → n < 10 → P n ((48 + n) ∷ []))
    (more : (n : ℕ) (ds : List ℕ) → 10 ≤ n → P (n / 10) ds → P n (ds ++ ((48 + n % 10) ∷ []))) where
  by-turns : (turns n : ℕ) → n ≤ turns → P n (digits turns n)
  unfolding digits
  by-turns zero n bound = one n (omega arith)
  by-turns (suc turns) n bound = by (ltb n 10) refl (by-turns turns (n / 10))
    where
      by : (b : Bool) → ltb n 10 ≡ b → (n / 10 ≤ turns → P (n / 10) (digits turns (n / 10))) →
          P n (digits (suc turns) n)
      by true e tenth = rw e (one n (ltb-true n 10 e))
      by false e tenth =
          let large : 10 ≤ n = ltb-false n 10 e in
          rw e (more n (digits turns (n / 10)) large (tenth (omega arith)))

  by_digits : (n : ℕ) → P n (decimal n)
  unfolding decimal
  by_digits n = by-turns n n (omega arith)

-- as many turns as there are digits are enough
pub turns-enough : (n turns : ℕ) → n < 10 ^ suc turns → decimal n ≡ digits turns n
unfolding digits
turns-enough = by_digits (λ n ds. (turns : ℕ) → n < 10 ^ suc turns → ds ≡ digits turns n) single several
  where
    single : (n : ℕ) → n < 10 → (turns : ℕ) → n < 10 ^ suc turns → (48 + n) ∷ [] ≡ digits turns n
    single n bound zero e = refl
    single n bound (suc turns) e = rw (lt-ltb n 10 bound)

    several : (n : ℕ) (ds : List ℕ) → 10 ≤ n → ((turns : ℕ) → n / 10 < 10 ^ suc turns → ds ≡ digits turns (n / 10)) →
        (turns : ℕ) → n < 10 ^ suc turns → ds ++ ((48 + n % 10) ∷ []) ≡ digits turns n
    several n ds bound ih zero e = absurd (omega arith)
    several n ds bound ih (suc turns) e = rw (le-ltb n 10 bound, ih turns (omega arith))

pub one-digit : (n : ℕ) → n < 10 → decimal n ≡ (48 + n) ∷ []
unfolding digits
one-digit n bound = turns-enough n 0 bound

pub more-digits : (n : ℕ) → 10 ≤ n → decimal n ≡ decimal (n / 10) ++ ((48 + n % 10) ∷ [])
unfolding digits
more-digits n bound =
    let below : n < 10 ^ suc n = lt-pow-10 n in
    turns-enough n (suc n) (omega arith) ∙ rw (le-ltb n 10 bound, turns-enough (n / 10) n (omega arith))

-- a number below 10 ^ d has at most d digits
pub digits-at-most : (n d : ℕ) → n < 10 ^ suc d → length (decimal n) ≤ suc d
digits-at-most = by_digits (λ n ds. (d : ℕ) → n < 10 ^ suc d → length ds ≤ suc d) (λ n bound d e. omega arith) several
  where
    several : (n : ℕ) (ds : List ℕ) → 10 ≤ n → ((d : ℕ) → n / 10 < 10 ^ suc d → length ds ≤ suc d) →
        (d : ℕ) → n < 10 ^ suc d → length (ds ++ ((48 + n % 10) ∷ [])) ≤ suc d
    several n ds bound ih zero e = absurd (omega arith)
    several n ds bound ih (suc d) e = omega (arith, length-append ds ((48 + n % 10) ∷ []), ih d (omega arith))

value-more : (n : ℕ) (ds : List ℕ) (d : ℕ) → value n (ds ++ (d ∷ [])) ≡ value n ds * 10 + (d - 48)
value-more n [] d = refl
value-more n (e ∷ ds) d = value-more (n * 10 + (e - 48)) ds d

decimal-value : (n : ℕ) → value 0 (decimal n) ≡ n
decimal-value =
    by_digits (λ n ds. value 0 ds ≡ n) (λ n bound. omega arith)
    (λ n ds bound e. value-more 0 ds (48 + n % 10) ∙ omega (arith, e))

digits_more : (ds : List ℕ) (d : ℕ) → 48 ≤ d → d ≤ 57 → Digits ds → Digits (ds ++ (d ∷ []))
digits_more [] d bound bound' t = (bound, bound', tt)
digits_more (e ∷ ds) d bound bound' (p, q, t) = (p, q, digits_more ds d bound bound' t)

decimal-digits : (n : ℕ) → Digits (decimal n)
decimal-digits =
    by_digits (λ n ds. Digits ds) (λ n bound. (omega arith, omega arith, tt))
    (λ n ds bound t. digits_more ds (48 + n % 10) (omega arith) (omega arith) t)

-- the first digit is 0 for the number 0 only
no_leading_zero : (n : ℕ) → 1 ≤ n → 49 ≤ get_or (decimal n) 0 48
no_leading_zero n bound = (first n).1 bound
  where
    first : (n : ℕ) → (1 ≤ length (decimal n)) × (1 ≤ n → 49 ≤ get_or (decimal n) 0 48)
    first =
        by_digits (λ n ds. (1 ≤ length ds) × (1 ≤ n → 49 ≤ get_or ds 0 48))
        (λ n bound. (omega arith, λ bound'. omega arith))
        (λ n ds bound (bound', e).
        let last : List ℕ = (48 + n % 10) ∷ [] in
        (omega (arith, length-append ds last), λ l. rw (get_or-append ds last 48 0 bound') (e (omega arith))))

pub decimals : (n : ℕ) → Decimal n
decimals n = record { only_digits = decimal-digits n; says = decimal-value n; no_leading_zero = no_leading_zero n }
