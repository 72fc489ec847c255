-- `form1::bytes::signed_at` meets its contract: four bytes, read as a signed number (`NumberAt`).
use Prim.Native.Nat.{◌+◌}
use native.Mathlib.Omega.{arith}
use mathlib.Core.Path.{◌∙◌}
use mir.Facts.{to_z-of_z}
use mir.Syntax.{w32}
use mir.Val.{SFits}
use Rattle.form1.proofs.NumberAt.{number_at-4, toZ-signed}
use Rattle.form1.specs.Form1.{signed_at}
use Rattle.form1.proofs.bytes.signed_at.Goals as goal

pub returns : goal.returns
unfolding signed_at
returns c =
    let place = c.args.place in
    let byte = c.type_inv.file in
    let read = c.from_le_bytes in
    let fits : SFits w32 read.result = record { sfits = read.type_inv } in
    rw (to_z-of_z fits, ← number_at-4 c.args.file.now place (omega arith))
    (read.ensures ∙ toZ-signed _ (omega (arith, byte place, byte (place + 1), byte (place + 2), byte (place + 3))))
