-- `form1::open` meets its contract: it refuses as the rows do, and a file that passes has its trailer and records.
use native.Mathlib.Omega.{arith}
use mathlib.Core.Option.{none}
use mathlib.Core.Path.{◌≡◌, refl, sym}
use Rattle.refusals.proofs.Answer.{handed-up}
use Rattle.refusals.proofs.Table.{check-refuses}
use Rattle.form1.proofs.WholeFile.{pass→whole}
use Rattle.form1.specs.Form1.{file_refusal}
use Rattle.form1.specs.Opening.{opening}
use Rattle.form1.proofs.open.Goals as goal
use Rattle.form1.proofs.open.Goals.{In_ok-check}

pub returns-in_err-trailer : goal.returns-in_err-trailer
unfolding opening file_refusal
returns-in_err-trailer c =
    rw (handed-up _ _ c.from_residual.ensures.1, ← check-refuses _ _ _ c.in_err-trailer.ensures.refused) refl

pub returns-in_err-check : goal.returns-in_err-check
unfolding opening
returns-in_err-check c =
    rw (handed-up _ _ c.from_residual-in_err-check.ensures.1, ← c.in_ok-trailer.ensures.same, ← c.in_err-check.ensures)
    refl

-- no refusal applies to the file that the trailer is of
passing : (c : In_ok-check) → file_refusal c.in_ok-trailer.trailer.file.now ≡ none
passing c = sym c.in_ok-check.ensures

pub start-requires : goal.start-requires
start-requires c =
    let file = pass→whole _ (sym c.in_ok-check.ensures) in
    omega (arith, file.back, file.there)

pub returns : goal.returns
unfolding opening
returns c =
    rw (← c.in_ok-trailer.ensures.same, ← c.in_ok-check.ensures, c.settings.ensures, c.slots.ensures.0, c.start.ensures)
    refl
