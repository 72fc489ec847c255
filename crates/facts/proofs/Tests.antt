-- Facts about tests that several proofs share, and `rules`, the ruleset of most proofs about an answer: it rewrites the
-- tests of a definition by the facts that hold on a branch.
use Prim.Native.Nat.{ℕ, zero, suc, ◌≤◌}
use native.Mathlib.Omega.{arith}
use mathlib.Core.Bool.{Bool, true, false, true≢false, false≢true, cond, ◌&&◌, ◌||◌, and-false, or-false}
use mathlib.Core.Logic.{◌↔◌}
use mathlib.Core.Path.{◌≡◌, refl, sym}
use borrow.Author.Tests.{lt-ltb, le-ltb, ltb-false, le-leb, lt-leb, leb-true, eq-eqb, ne_eqb, eqb-false}
use lib.Dec.{T, leb, ltb, eqb}
use mir.Facts.{to_z-of_z}

pub or-true : (a : Bool) {b : Bool} → b ≡ true → (a || b) ≡ true
or-true true e = refl
or-true false e = e

pub and-true→both : (a b : Bool) → (a && b) ≡ true → (a ≡ true) × (b ≡ true)
and-true→both true b e = (refl, e)
and-true→both false b e = absurd (false≢true e)

pub or-false→both : (a b : Bool) → (a || b) ≡ false → (a ≡ false) × (b ≡ false)
or-false→both true b e = absurd (true≢false e)
or-false→both false b e = (refl, e)

pub T→true : (b : Bool) → T b → b ≡ true
T→true true t = refl
T→true false t = absurd t

pub bool-ext : (a b : Bool) → (a ≡ true → b ≡ true) → (b ≡ true → a ≡ true) → a ≡ b
bool-ext true b f g = sym (f refl)
bool-ext false true f g = g refl
bool-ext false false f g = refl

pub false_of_not : (b : Bool) → (b ≡ true → ⊥) → b ≡ false
false_of_not true f = absurd (f refl)
false_of_not false f = refl

one-le : {a : ℕ} → (a ≡ 0 → ⊥) → 1 ≤ a
one-le {a = zero} f = absurd (f refl)
one-le {a = suc a} f = omega arith

-- a number is not 0 and not above a limit: as a test, and as bounds
pub one-to-most : (a most : ℕ) → ((eqb a 0 || ltb most a) ≡ false) ↔ ((1 ≤ a) × (a ≤ most))
one-to-most a most = (to, from)
  where
    to : (eqb a 0 || ltb most a) ≡ false → (1 ≤ a) × (a ≤ most)
    to e =
        let (positive, few) = or-false→both (eqb a 0) (ltb most a) e in
        (one-le (eqb-false a 0 positive), ltb-false most a few)

    from : (1 ≤ a) × (a ≤ most) → (eqb a 0 || ltb most a) ≡ false
    from (positive, few) = rw (ne_eqb a 0 (omega arith), le-ltb most a few)

-- what holds of both branches of a test holds of the result
pub cond_cases : {A : Type 0} (P : A → Type 0) (b : Bool) {x y : A} → P x → P y → P (cond b x y)
cond_cases P true p q = p
cond_cases P false p q = q

pub cond-at-most : (b : Bool) (x y : ℕ) {n : ℕ} → x ≤ n → y ≤ n → cond b x y ≤ n
cond-at-most b x y {n} bound bound' = cond_cases (λ z. z ≤ n) b bound bound'

pub cond-mono : (b : Bool) {x y x' y' : ℕ} → x ≤ x' → y ≤ y' → cond b x y ≤ cond b x' y'
cond-mono true e f = e
cond-mono false e f = f

pub false-iff : {P : Type 0} → (P → ⊥) → (false ≡ true) ↔ P
false-iff f = (λ e. absurd (false≢true e), λ p. absurd (f p))

pub leb-iff : (a b : ℕ) {P : Type 0} → (a ≤ b → P) → (P → a ≤ b) → (leb a b ≡ true) ↔ P
leb-iff a b f g = (λ e. f (leb-true a b e), λ p. le-leb a b (g p))

pub ruleset rules = (and-false, or-false, lt-ltb, le-ltb, le-leb, lt-leb, eq-eqb, ne_eqb, to_z-of_z, arith)
