-- The furthest end of a window that fits, from the furthest back, for the loop of `sweep::furthest`.
use Prim.Native.Nat.{ℕ, ◌+◌, ◌-◌, ◌≤◌, ◌<◌, min}
use native.Mathlib.Nat.{le_refl, eq-or-lt_of_le}
use native.Mathlib.Omega.{arith}
use mathlib.Core.List.{List}
use mathlib.Core.Logic.{⊎_elim}
use mathlib.Core.Path.{◌≡◌, subst}
use lib.ListN.{get_or}
use Rattle.requests.specs.Solution.{sentinel}

module _ (ends : List ℕ) (x reach room : ℕ) where
  -- a window from slot x up to before slot e fits into the room
  abbrev FitsInto : (e : ℕ) → Type 0
  FitsInto e = min sentinel (e - x + get_or ends (e - 1) 0) ≤ room

  -- no window that fits covers more than k slots
  pub record AtMost (k : ℕ) : Type 0 where
    pub within : k ≤ reach
    pub nearer : (e : ℕ) → x < e → e ≤ x + reach → FitsInto e → e ≤ x + k

  pub furthest-start : AtMost reach
  furthest-start = record { within = le_refl _; nearer = λ e order reaches fits. reaches }

  module _ (k : ℕ) (m : AtMost k) where
    pub furthest-step : room < min sentinel (k + get_or ends (x + k - 1) 0) → AtMost (k - 1)
    furthest-step long =
        record {
          within = omega (arith, m.within);
          nearer = λ e order reaches fits.
              ⊎_elim
              (λ s. absurd (too_long (subst FitsInto s fits)))
              (λ less. omega (arith, less))
              (eq-or-lt_of_le (m.nearer e order reaches fits));
        }
      where
        too_long : FitsInto (x + k) → ⊥
        too_long fits = let same : x + k - x ≡ k = omega arith in omega (arith, rw same at fits)

    module _ (known : ℕ) where
      -- what is promised of the end that is given
      abbrev Furthest : (r : ℕ) → Type 0
      Furthest r =
          (known ≤ r) × (known < r → (x < r) × (r ≤ x + reach) × FitsInto r)
          × ((e : ℕ) → x < e → e ≤ x + reach → FitsInto e → e ≤ r)

      pub furthest-known : ((e : ℕ) → x < e → e ≤ x + k → e ≤ known) → (e : ℕ) → x < e → e ≤ x + reach →
          FitsInto e → e ≤ known
      furthest-known all e order reaches fits = all e order (m.nearer e order reaches fits)

      pub furthest-found : 0 < k → known < x + k → min sentinel (k + get_or ends (x + k - 1) 0) ≤ room →
          Furthest (x + k)
      furthest-found some further fits =
          let same : x + k - x ≡ k = omega arith in
          (omega arith, λ l. (omega arith, omega (arith, m.within), rw same fits), m.nearer)
