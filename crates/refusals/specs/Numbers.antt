-- The number of each refusal (document 01, "Where each refusal is checked"; 18 is of document 02, T-01, and 34 and 35
-- are of T-05), and the slot that 31 carries.
use Rattle.std.specs.Prelude.{ℕ}
use Rattle.refusals.specs.declared.Refusal.{Refusal}
use Rattle.refusals.specs.declared.Refusal.TheVariants.{Size, End, Form, Slots, Distance, Records, Lent, Buffer}
use Rattle.refusals.specs.declared.Refusal.TheVariants.{Slot, FirstLength, OtherLength, WindowLength, Bridges}
use Rattle.refusals.specs.declared.Refusal.TheVariants.{WindowCounts, CoveredCounts, SettleCount, StoredSettle}
use Rattle.refusals.specs.declared.Refusal.TheVariants.{Crossed, Unreached, Full, PagedSlots, GivenPlan}

abbrev pub number : Refusal → ℕ
number Size = 11
number End = 12
number Form = 13
number Slots = 14
number Distance = 15
number Records = 16
number Lent = 17
number Buffer = 18
number Slot = 19
number FirstLength = 21
number OtherLength = 22
number WindowLength = 23
number Bridges = 24
number WindowCounts = 25
number CoveredCounts = 26
number SettleCount = 27
number StoredSettle = 28
number (Crossed i) = 31
number Unreached = 32
number Full = 33
number PagedSlots = 34
number GivenPlan = 35

-- 0 where a refusal carries no slot
abbrev pub slot : Refusal → ℕ
slot Size = 0
slot End = 0
slot Form = 0
slot Slots = 0
slot Distance = 0
slot Records = 0
slot Lent = 0
slot Buffer = 0
slot Slot = 0
slot FirstLength = 0
slot OtherLength = 0
slot WindowLength = 0
slot Bridges = 0
slot WindowCounts = 0
slot CoveredCounts = 0
slot SettleCount = 0
slot StoredSettle = 0
slot (Crossed i) = i
slot Unreached = 0
slot Full = 0
slot PagedSlots = 0
slot GivenPlan = 0
