-- A slot lies in a good window exactly when the furthest of the ends before it lies past it.
use Prim.Native.Nat.{ℕ, zero, suc, ◌+◌, ◌-◌, ◌<◌}
use native.Mathlib.Nat.{le_refl, eq-or-lt_of_le}
use native.Mathlib.Omega.{arith, max_cases}
use mathlib.Core.List.{List}
use mathlib.Core.Logic.{◌↔◌, ⊎_elim}
use mathlib.Core.Path.{◌≡◌}
use lib.ListN.{length}
use Rattle.rule.specs.Ranges.{Class}
use Rattle.rule.specs.declared.Shape.{Shape}
use Rattle.sides.specs.Far.{highest, Furthest}
use Rattle.sides.specs.Sides.{InWindow}

highest→ : (far : ℕ → ℕ) (k : ℕ) {m : ℕ} → m < highest far k → (x : ℕ) × (x < k) × (m < far x)
highest→ far zero e = absurd (omega arith)
highest→ far (suc k) e =
    max_cases (highest far k) (far k) _ (λ _ s. (k, le_refl _, omega arith))
    (λ _ s. let (x, before, past) = highest→ far k (omega arith) in (x, omega (arith, before), past))

highest← : (far : ℕ → ℕ) (k : ℕ) {m x : ℕ} → x < k → m < far x → m < highest far k
highest← far zero e f = absurd (omega arith)
highest← far (suc k) {m} {x} e f =
    ⊎_elim
    (λ s.
    let last : x ≡ k = omega arith in
    let here = rw last at f in
    omega (arith, here))
    (λ l. omega (arith, highest← far k (omega arith) f)) (eq-or-lt_of_le e)

pub round : (T : ℕ) (shape : Shape) (cs : List Class) {w n g i : ℕ} {far : ℕ → ℕ} → i < length cs → Furthest T shape cs w n g far →
    InWindow T shape cs w n g i ↔ (i + g < highest far (suc i - g))
round T shape cs {w} {n} {g} {i} {far} there f = (to, from)
  where
    to : InWindow T shape cs w n g i → i + g < highest far (suc i - g)
    to k =
        let reached = f.most k.a k.x k.e k.good in
        highest← far (suc i - g) {x = k.x} (omega (arith, k.left)) (omega (arith, k.right, reached))

    from : i + g < highest far (suc i - g) → InWindow T shape cs w n g i
    from l =
        let (x, before, past) = highest→ far (suc i - g) l in
        let (a, good) = f.met x (omega arith) (omega arith) in
        record { a = a; x = x; e = far x; left = omega arith; right = past; good = good }
