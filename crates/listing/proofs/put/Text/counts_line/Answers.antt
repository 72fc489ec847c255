-- `listing::put::Text::counts_line` meets its contract: it is a line of three fields (`Fields`).
use native.Mathlib.Omega.{arith}
use Rattle.listing.proofs.Fields.{fields}
use Rattle.listing.proofs.Numerals.{decimal-printed}
use Rattle.listing.specs.Text.{counts_line}
use Rattle.listing.proofs.put.Text.counts_line.Goals as goal

pub returns : goal.returns
unfolding counts_line
returns c =
    rw (decimal-printed c.args.range.least (omega arith), decimal-printed c.args.range.most (omega arith)) (search fields)
