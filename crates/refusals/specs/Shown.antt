-- How a refusal is shown: its number, and the slot of 31.
use Rattle.std.specs.Prelude.{ℕ, List, ◌++◌, cond, eqb, codes}
use Rattle.std.specs.Fmt.{decimal}
use Rattle.refusals.specs.Numbers.{number, slot}
use Rattle.refusals.specs.declared.Refusal.{Refusal}

abbrev pub shown : Refusal → List ℕ
shown r =
    codes "refused " ++ decimal (number r)
    ++ cond (eqb (number r) 31) (codes " slot " ++ decimal (slot r)) (codes "")
