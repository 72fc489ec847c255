-- `listing::put::Text::slot_line` meets its contract: it is a line of four fields (`Fields`).
use native.Mathlib.Omega.{arith}
use mir.Facts.{to_z-of_z}
use Rattle.listing.proofs.Fields.{fields}
use Rattle.listing.proofs.Numerals.{decimal-printed, signed-printed}
use Rattle.listing.specs.Text.{slot_line}
use Rattle.listing.proofs.put.Text.slot_line.Goals as goal

pub returns : goal.returns
unfolding slot_line
returns c =
    let low = simp (to_z-of_z, c.ranges.lowest) at c.number-2.ensures in
    let high = simp (to_z-of_z, c.ranges.highest) at c.number-3.ensures in
    rw (
      decimal-printed c.args.i (omega arith),
      signed-printed c.args.lowest c.ranges.lowest,
      signed-printed c.args.highest c.ranges.highest,
      decimal-printed c.args.mark (omega arith),
    ) (search fields)
