-- A refusal is determined by its number and the slot that it carries. Its number is at least 11, and no
-- answer without a refusal has such a number.
use Prim.Native.Nat.{ℕ, ◌≤◌}
use native.Mathlib.Omega.{arith}
use mathlib.Core.Bool.{cond}
use mathlib.Core.Path.{◌≡◌, refl, sym, ◌∙◌}
use lib.Dec.{eqb}
use Rattle.refusals.specs.Numbers.{number, slot}
use Rattle.refusals.specs.declared.Refusal.{Refusal}
use Rattle.refusals.specs.declared.Refusal.TheVariants.{Size, End, Form, Slots, Distance, Records, Lent, Buffer}
use Rattle.refusals.specs.declared.Refusal.TheVariants.{Slot, FirstLength, OtherLength, WindowLength, Bridges}
use Rattle.refusals.specs.declared.Refusal.TheVariants.{WindowCounts, CoveredCounts, SettleCount, StoredSettle}
use Rattle.refusals.specs.declared.Refusal.TheVariants.{Crossed, Unreached, Full, PagedSlots, GivenPlan}

abbrev refusal_at : (number slot : ℕ) → Refusal
refusal_at n i =
    cond (eqb n 11) Size
    (cond (eqb n 12) End
    (cond (eqb n 13) Form
    (cond (eqb n 14) Slots
    (cond (eqb n 15) Distance
    (cond (eqb n 16) Records
    (cond (eqb n 17) Lent
    (cond (eqb n 18) Buffer
    (cond (eqb n 19) Slot
    (cond (eqb n 21) FirstLength
    (cond (eqb n 22) OtherLength
    (cond (eqb n 23) WindowLength
    (cond (eqb n 24) Bridges
    (cond (eqb n 25) WindowCounts
    (cond (eqb n 26) CoveredCounts
    (cond (eqb n 27) SettleCount
    (cond (eqb n 28) StoredSettle
    (cond (eqb n 31) (Crossed i)
    (cond (eqb n 32) Unreached
    (cond (eqb n 33) Full
    (cond (eqb n 34) PagedSlots GivenPlan))))))))))))))))))))

refusal_at-number-slot : (r : Refusal) → refusal_at (number r) (slot r) ≡ r
refusal_at-number-slot Size = refl
refusal_at-number-slot End = refl
refusal_at-number-slot Form = refl
refusal_at-number-slot Slots = refl
refusal_at-number-slot Distance = refl
refusal_at-number-slot Records = refl
refusal_at-number-slot Lent = refl
refusal_at-number-slot Buffer = refl
refusal_at-number-slot Slot = refl
refusal_at-number-slot FirstLength = refl
refusal_at-number-slot OtherLength = refl
refusal_at-number-slot WindowLength = refl
refusal_at-number-slot Bridges = refl
refusal_at-number-slot WindowCounts = refl
refusal_at-number-slot CoveredCounts = refl
refusal_at-number-slot SettleCount = refl
refusal_at-number-slot StoredSettle = refl
refusal_at-number-slot (Crossed i) = refl
refusal_at-number-slot Unreached = refl
refusal_at-number-slot Full = refl
refusal_at-number-slot PagedSlots = refl
refusal_at-number-slot GivenPlan = refl

-- no two refusals share both the number and the slot
pub number-slot-injective : (q r : Refusal) → number q ≡ number r → slot q ≡ slot r → q ≡ r
number-slot-injective q r n s = sym (refusal_at-number-slot q) ∙ rw (n, s) (refusal_at-number-slot r)

pub eleven-le-number : (r : Refusal) → 11 ≤ number r
eleven-le-number Size = omega arith
eleven-le-number End = omega arith
eleven-le-number Form = omega arith
eleven-le-number Slots = omega arith
eleven-le-number Distance = omega arith
eleven-le-number Records = omega arith
eleven-le-number Lent = omega arith
eleven-le-number Buffer = omega arith
eleven-le-number Slot = omega arith
eleven-le-number FirstLength = omega arith
eleven-le-number OtherLength = omega arith
eleven-le-number WindowLength = omega arith
eleven-le-number Bridges = omega arith
eleven-le-number WindowCounts = omega arith
eleven-le-number CoveredCounts = omega arith
eleven-le-number SettleCount = omega arith
eleven-le-number StoredSettle = omega arith
eleven-le-number (Crossed i) = omega arith
eleven-le-number Unreached = omega arith
eleven-le-number Full = omega arith
eleven-le-number PagedSlots = omega arith
eleven-le-number GivenPlan = omega arith
