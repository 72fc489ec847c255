-- `listing::put::Text::thrift_line` meets its contract: it is a line of two fields (`Fields`).
use native.Mathlib.Omega.{arith}
use Rattle.listing.proofs.Fields.{fields}
use Rattle.listing.proofs.Numerals.{decimal-printed}
use Rattle.listing.specs.Text.{thrift_line}
use Rattle.listing.proofs.put.Text.thrift_line.Goals as goal

pub returns : goal.returns
unfolding thrift_line
returns c = rw (decimal-printed c.args.thrift (omega arith)) (search fields)
