-- `form1::fields::put_range` meets its contract: the lowest load, then the highest (`Written` of `buffer`).
use mir.Facts.{to_z-of_z}
use mir.Syntax.{w32}
use mir.Val.{SFits}
use borrow.Author.Rules.{rules}
use Rattle.buffer.proofs.Written.{written-append}
use Rattle.form1.proofs.NumberAt.{bytes-bits}
use Rattle.form1.specs.Layout.{record_bytes}
use Rattle.form1.proofs.fields.put_range.Goals as goal

pub returns : goal.returns
unfolding record_bytes
returns c =
    let low : SFits w32 c.args.range.lowest = search rules in
    let high : SFits w32 c.args.range.highest = search rules in
    rw (← bytes-bits _ low, ← bytes-bits _ high)
    (written-append (rw (c.to_le_bytes.ensures, to_z-of_z low) at c.put_bytes-highest.ensures)
    (rw (c.to_le_bytes-2.ensures, to_z-of_z high) at c.put_bytes.ensures))
