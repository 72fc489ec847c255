-- How far a window can reach: `fit` is the greatest number of first slots for which its slots and bridges suffice.
use Prim.Native.Nat.{ℕ, zero, suc, ◌+◌, ◌≤◌, ◌<◌, suc-le-suc}
use native.Mathlib.Nat.{le_refl, lt_of_not-le}
use native.Mathlib.Omega.{arith}
use mathlib.Core.Bool.{true}
use mathlib.Core.List.{List, [], ◌∷◌}
use mathlib.Core.Path.{◌≡◌, refl}
use lib.ListN.{length, take, get_or}
use Rattle.rule.specs.Ranges.{Class, under_only, over_only, either, allows}
use Rattle.rule.specs.Rule.{goes_with}
use Rattle.sides.specs.Reach.{fit, low, lows}

pub low-le : (c : Class) → low c ≤ 1
unfolding allows goes_with
low-le under_only = omega arith
low-le over_only = omega arith
low-le either = omega arith

pub low→over : (c : Class) → low c ≡ 0 → allows c 2 ≡ true
unfolding allows goes_with
low→over under_only m = absurd (omega arith)
low→over over_only m = refl
low→over either m = refl

pub last-low : (cs : List Class) (k : ℕ) → k < length cs →
    lows (take (suc k) cs) ≡ lows (take k cs) + low (get_or cs k under_only)
last-low [] k l = absurd (omega arith)
last-low (c ∷ cs) zero l = omega arith
last-low (c ∷ cs) (suc k) l = omega (arith, last-low cs k (omega arith))

-- the first k slots are within reach exactly when slots and bridges suffice for them
pub reach→ : (cs : List Class) {k r b : ℕ} → k ≤ r → lows (take k cs) ≤ b → k ≤ length cs → k ≤ fit cs r b
unfolding fit allows goes_with
reach→ cs {k = zero} e f l = omega arith
reach→ [] {k = suc k} e f l = absurd (omega arith)
reach→ (c ∷ cs) {k = suc k} {r = zero} e f l = absurd (omega arith)
reach→ (under_only ∷ cs) {k = suc k} {r = suc r} {b = zero} e f l = absurd (omega arith)
reach→ (under_only ∷ cs) {k = suc k} {r = suc r} {b = suc b} e f l =
    suc-le-suc (reach→ cs {k = k} {r = r} {b = b} (omega arith) (omega arith) (omega arith))
reach→ (over_only ∷ cs) {k = suc k} {r = suc r} {b = b} e f l =
    suc-le-suc (reach→ cs {k = k} {r = r} {b = b} (omega arith) (omega arith) (omega arith))
reach→ (either ∷ cs) {k = suc k} {r = suc r} {b = b} e f l =
    suc-le-suc (reach→ cs {k = k} {r = r} {b = b} (omega arith) (omega arith) (omega arith))

pub reach← : (cs : List Class) {k r b : ℕ} → k ≤ fit cs r b → (k ≤ r) × (lows (take k cs) ≤ b) × (k ≤ length cs)
unfolding fit allows goes_with
reach← cs {k = zero} e = (omega arith, omega arith, omega arith)
reach← [] {k = suc k} e = absurd (omega arith)
reach← (c ∷ cs) {k = suc k} {r = zero} e = absurd (omega arith)
reach← (under_only ∷ cs) {k = suc k} {r = suc r} {b = zero} e = absurd (omega arith)
reach← (under_only ∷ cs) {k = suc k} {r = suc r} {b = suc b} e =
    let (p, q, s) = reach← cs {k = k} {r = r} {b = b} (omega arith) in
    (omega arith, omega arith, omega arith)
reach← (over_only ∷ cs) {k = suc k} {r = suc r} {b = b} e =
    let (p, q, s) = reach← cs {k = k} {r = r} {b = b} (omega arith) in
    (omega arith, omega arith, omega arith)
reach← (either ∷ cs) {k = suc k} {r = suc r} {b = b} e =
    let (p, q, s) = reach← cs {k = k} {r = r} {b = b} (omega arith) in
    (omega arith, omega arith, omega arith)

pub fits_in : (cs : List Class) (r b : ℕ) → fit cs r b ≤ length cs
fits_in cs r b = let (p, q, s) = reach← cs {k = fit cs r b} {r = r} {b = b} (le_refl _) in s

-- a window that begins one slot later reaches at least as far
pub fit-later : (c : Class) (cs : List Class) (r b : ℕ) → fit (c ∷ cs) r b ≤ suc (fit cs r b)
fit-later c cs r b = by (fit (c ∷ cs) r b) (le_refl _)
  where
    by : (k : ℕ) → k ≤ fit (c ∷ cs) r b → k ≤ suc (fit cs r b)
    by zero e = omega arith
    by (suc k) e =
        let (p, q, s) = reach← (c ∷ cs) {k = suc k} {r = r} {b = b} e in
        suc-le-suc (reach→ cs {k = k} {r = r} {b = b} (omega arith) (omega arith) (omega arith))

-- how far a window reaches, found by going on until it goes no further
pub fit_is : (cs : List Class) (k r b : ℕ) → k ≤ r → lows (take k cs) ≤ b → k ≤ length cs →
    (suc k ≤ r → suc k ≤ length cs → b < lows (take (suc k) cs)) → fit cs r b ≡ k
fit_is cs k r b e f l stop = omega (arith, at_most, reach→ cs e f l)
  where
    at_most : fit cs r b < suc k
    at_most = lt_of_not-le λ further. let (p, q, o) = reach← cs further in omega (arith, stop p o)
