-- What the private functions of the module `marks` promise. The public contract does not rest on it.
use Rattle.std.specs.Prelude.{ℕ, Bool, cond, not, ◌&&◌, leb}
use Rattle.rule.specs.ScanState.{slots_after, bridges_after, too_soon, advanced}
use Rattle.rule.specs.Rule.{goes_with, follows}
use Rattle.rule.specs.declared.ScanState.{ScanState}
use Rattle.rule.specs.declared.Shape.{Shape}
use Rattle.std.specs.declared.option.Option.{Option}
pub use Rattle.std.specs.declared.option.Option.TheVariants.{Some as on, None as broken}

-- a slot's mark m keeps the rule so far
unfoldable pub passes : Shape → ScanState → (over : Bool) (m : ℕ) → Bool
passes shape at o m =
    goes_with o m
    && follows at.mark m
    && not (too_soon at.owed m)
    && leb (slots_after at.slots m) shape.len
    && leb (bridges_after at.bridges m) shape.h

unfoldable pub step_of : Shape → ScanState → (over : Bool) (m : ℕ) → Option ScanState
step_of shape at o m = cond (passes shape at o m) (on (advanced shape.settle at m)) broken
