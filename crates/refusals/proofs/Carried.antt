-- Only 31 carries a slot.
use Prim.Native.Nat.{ℕ}
use mathlib.Core.Path.{◌≡◌, refl}
use Rattle.refusals.specs.Numbers.{slot}
use Rattle.refusals.specs.declared.Refusal.{Refusal}
use Rattle.refusals.specs.declared.Refusal.TheVariants.{Size, End, Form, Slots, Distance, Records, Lent, Buffer}
use Rattle.refusals.specs.declared.Refusal.TheVariants.{Slot, FirstLength, OtherLength, WindowLength, Bridges}
use Rattle.refusals.specs.declared.Refusal.TheVariants.{WindowCounts, CoveredCounts, SettleCount, StoredSettle}
use Rattle.refusals.specs.declared.Refusal.TheVariants.{Crossed, Unreached, Full, PagedSlots, GivenPlan}

pub none-carried : (r : Refusal) → ((i : ℕ) → r ≡ Crossed i → ⊥) → 0 ≡ slot r
none-carried Size n = refl
none-carried End n = refl
none-carried Form n = refl
none-carried Slots n = refl
none-carried Distance n = refl
none-carried Records n = refl
none-carried Lent n = refl
none-carried Buffer n = refl
none-carried Slot n = refl
none-carried FirstLength n = refl
none-carried OtherLength n = refl
none-carried WindowLength n = refl
none-carried Bridges n = refl
none-carried WindowCounts n = refl
none-carried CoveredCounts n = refl
none-carried SettleCount n = refl
none-carried StoredSettle n = refl
none-carried (Crossed i) n = absurd (n i refl)
none-carried Unreached n = refl
none-carried Full n = refl
none-carried PagedSlots n = refl
none-carried GivenPlan n = refl
