-- `listing::put::Text::planned` meets its contract: three lines of counts, then those of the slots, one after another
-- (`Fields`).
use native.Mathlib.Omega.{arith}
use Rattle.listing.proofs.Lengths.{planned-short}
use Rattle.listing.proofs.Fields.{adds-append, adds-inside}
use Rattle.listing.specs.Text.{answer_text}
use Rattle.listing.proofs.put.Text.planned.Goals as goal

pub slot_lines-requires : goal.slot_lines-requires
slot_lines-requires c = adds-inside c.thrift_line.ensures

pub returns : goal.returns
unfolding answer_text
returns c =
    record {
      written =
          adds-append c.counts_line.ensures
          (adds-append c.counts_line-2.ensures (adds-append c.thrift_line.ensures c.slot_lines.ensures.written));
      short =
          λ wide. planned-short _ _ _ _ (omega (arith, c.well_formed)) (omega (arith, c.well_formed))
          (omega (arith, c.well_formed)) (c.slot_lines.ensures.short wide);
    }
