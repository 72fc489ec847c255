-- `form1::fields::put_trailer` meets its contract: its fields, one after another (`Layout`).
use mathlib.Core.List.{flatten}
use mir.Facts.{to_z-of_z}
use mir.Syntax.{w32}
use mir.Val.{SFits}
use borrow.Author.Rules.{rules}
use Rattle.form1.proofs.NumberAt.{bytes_1, bytes_2, bytes-bits}
use Rattle.form1.specs.Layout.{counts_bytes, trailer_bytes}
use Rattle.form1.proofs.fields.put_trailer.Goals as goal

pub returns : goal.returns
unfolding trailer_bytes counts_bytes flatten
returns c =
    let fits : SFits w32 c.args.settings.k = search rules in
    rw (← bytes_2 _, ← bytes-bits _ fits)
    (simp bytes_1
    (rw (
      ← c.low.ensures,
      ← c.low-2.ensures,
      ← c.low-3.ensures,
      ← c.low-4.ensures,
      ← c.low-5.ensures,
      ← c.low-6.ensures,
      ← c.low-7.ensures,
    )
    (rw (c.to_le_bytes-back.ensures, c.to_le_bytes-k.ensures, to_z-of_z fits) at c.put_bytes.ensures)))
