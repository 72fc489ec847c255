-- Facts about the order of integers that the library lacks.
use Prim.Native.Nat.{zero, suc, ◌<◌}
use native.Mathlib.Nat.{le_antisymm, le_of_lt}
use native.Mathlib.Omega.{arith}
use mathlib.Core.Bool.{Bool, true, false, not}
use mathlib.Core.Logic.{◌⊎◌, inl, inr, ⊎_elim}
use mathlib.Core.Path.{◌≡◌, refl, sym, ap, subst}
use lib.Dec.{T, leb→le, le→leb, ltb→lt, lt→ltb}
use lib.IntN.{ℤ, pos, negsuc, suc_ℤ, ◌+ℤ◌, +ℤ_one}
use lib.Signed.{lt_z, le_z, mag, ◌<ℤ◌, ◌≤ℤ◌, le_z_yes, lt_z_yes, lt_z_no, <ℤ-≤ℤ_trans, clash_ℤ}
use mir.Syntax.{w32}
use mir.Val.{SFits}

-- x lies above k or not
pub lt-or-le : (k x : ℤ) → (k <ℤ x) ⊎ (x ≤ℤ k)
lt-or-le k x = by (lt_z k x) refl
  where
    by : (b : Bool) → lt_z k x ≡ b → (k <ℤ x) ⊎ (x ≤ℤ k)
    by true e = inl (lt_z_yes (subst T (sym e) tt))
    by false e = inr (lt_z_no (subst (λ b. T (not b)) (sym e) tt))

pub ≤ℤ-trans : {a b c : ℤ} → a ≤ℤ b → b ≤ℤ c → a ≤ℤ c
≤ℤ-trans {a} {c = c} p q = ⊎_elim (λ l. clash_ℤ (<ℤ-≤ℤ_trans l p) q) (λ e. e) (lt-or-le c a)

le-antisym-T : (a b : ℤ) → T (le_z a b) → T (le_z b a) → a ≡ b
le-antisym-T (pos a) (pos b) p q = ap pos (le_antisymm (leb→le a b p) (leb→le b a q))
le-antisym-T (pos a) (negsuc b) p q = absurd p
le-antisym-T (negsuc a) (pos b) p q = absurd q
le-antisym-T (negsuc a) (negsuc b) p q = ap negsuc (le_antisymm (leb→le a b q) (leb→le b a p))

pub ≤ℤ-antisym : {a b : ℤ} → a ≤ℤ b → b ≤ℤ a → a ≡ b
≤ℤ-antisym {a} {b} p q = le-antisym-T a b p.le q.le

-- k + 1 is the least integer above k
lt→suc-le-T : (k x : ℤ) → T (lt_z k x) → T (le_z (suc_ℤ k) x)
lt→suc-le-T (pos k) (pos x) l = le→leb (suc k) x (ltb→lt k x l)
lt→suc-le-T (pos k) (negsuc x) l = absurd l
lt→suc-le-T (negsuc zero) (pos x) l = le→leb 0 x (omega arith)
lt→suc-le-T (negsuc zero) (negsuc x) l = absurd (omega (arith, ltb→lt x 0 l))
lt→suc-le-T (negsuc (suc k)) (pos x) l = tt
lt→suc-le-T (negsuc (suc k)) (negsuc x) l = le→leb x k (omega (arith, ltb→lt x (suc k) l))

suc-le→lt-T : (k x : ℤ) → T (le_z (suc_ℤ k) x) → T (lt_z k x)
suc-le→lt-T (pos k) (pos x) l = lt→ltb k x (leb→le (suc k) x l)
suc-le→lt-T (pos k) (negsuc x) l = absurd l
suc-le→lt-T (negsuc zero) (pos x) l = tt
suc-le→lt-T (negsuc zero) (negsuc x) l = absurd l
suc-le→lt-T (negsuc (suc k)) (pos x) l = tt
suc-le→lt-T (negsuc (suc k)) (negsuc x) l = lt→ltb x (suc k) (omega (arith, leb→le x k l))

pub lt→suc-le : {k x : ℤ} → k <ℤ x → suc_ℤ k ≤ℤ x
lt→suc-le {k} {x} l = le_z_yes (lt→suc-le-T k x l.lt)

pub suc-le→lt : (k : ℤ) {x : ℤ} → suc_ℤ k ≤ℤ x → k <ℤ x
suc-le→lt k {x} l = lt_z_yes (suc-le→lt-T k x l.le)

pub le→lt-suc : {a k : ℤ} → a ≤ℤ k → a <ℤ suc_ℤ k
le→lt-suc {a} {k} l = ⊎_elim (λ e. e) (λ e. clash_ℤ (suc-le→lt k e) l) (lt-or-le a (suc_ℤ k))

lt→le-T : (a b : ℤ) → T (lt_z a b) → T (le_z a b)
lt→le-T (pos a) (pos b) l = le→leb a b (le_of_lt (ltb→lt a b l))
lt→le-T (pos a) (negsuc b) l = l
lt→le-T (negsuc a) (pos b) l = l
lt→le-T (negsuc a) (negsuc b) l = le→leb b a (le_of_lt (ltb→lt b a l))

pub lt→le : {a b : ℤ} → a <ℤ b → a ≤ℤ b
lt→le {a} {b} l = le_z_yes (lt→le-T a b l.lt)

-- where k is below a number that fits an i32, k + 1 fits too
suc-fits-mag : (k hi : ℤ) → mag k < 2147483648 → mag hi < 2147483648 → T (lt_z k hi) → mag (suc_ℤ k) < 2147483648
suc-fits-mag (pos k) (pos hi) p q l = omega (arith, ltb→lt k hi l)
suc-fits-mag (pos k) (negsuc hi) p q l = absurd l
suc-fits-mag (negsuc zero) hi p q l = omega arith
suc-fits-mag (negsuc (suc k)) hi p q l = omega arith

module _ {k : ℤ} where
  pub suc-fits : {hi : ℤ} → SFits w32 k → SFits w32 hi → k <ℤ hi → SFits w32 (k +ℤ pos 1)
  suc-fits {hi} p q l = rw (+ℤ_one k) (record { sfits = suc-fits-mag k hi p.sfits q.sfits l.lt })
