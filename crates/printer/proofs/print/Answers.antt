-- `printer::print` meets its contract: a refusal of the reader is written as such, and a file that it takes is
-- planned.
use native.Mathlib.Nat.{le_trans}
use native.Mathlib.Omega.{arith}
use mathlib.Core.Path.{sym}
use lib.Seq.{length-take-le}
use Rattle.listing.specs.Text.{answer_text, text}
use Rattle.printer.proofs.OfFile.{refusal-of, of-refusal, of-plan, few}
use Rattle.printer.proofs.print.Goals as goal

-- all three arrays have at least as many places as the file has slots
pub slice_bounds-lowest-end : goal.slice_bounds-lowest-end
slice_bounds-lowest-end c = omega (arith, few _ _ _ c.in-Ok.ensures, c.read.auto.lowest)

pub slice_bounds-highest-end : goal.slice_bounds-highest-end
slice_bounds-highest-end c = omega (arith, few _ _ _ c.in-Ok.ensures, c.read.auto.highest)

pub slice_bounds-marks-end : goal.slice_bounds-marks-end
slice_bounds-marks-end c = few _ _ _ c.in-Ok.ensures

pub slice_bounds-print_plan-end : goal.slice_bounds-print_plan-end
slice_bounds-print_plan-end c =
    sym (length-take-le _ _ (omega (arith, few _ _ _ c.in-Ok.ensures, c.read.auto.lowest)))

pub slice_bounds-print_plan-end-in-Ok : goal.slice_bounds-print_plan-end-in-Ok
slice_bounds-print_plan-end-in-Ok c =
    sym (length-take-le _ _ (omega (arith, few _ _ _ c.in-Ok.ensures, c.read.auto.highest)))

pub slice_bounds-print_plan-end-in-Ok-2 : goal.slice_bounds-print_plan-end-in-Ok-2
slice_bounds-print_plan-end-in-Ok-2 c = sym (length-take-le _ _ (few _ _ _ c.in-Ok.ensures))

pub returns-in-Err : goal.returns-in-Err
unfolding text answer_text
returns-in-Err c =
    record {
      outcome = refusal-of _;
      holds = of-refusal _ _ _ _ c.read.ensures c.in-Err.is;
      written = c.write_refusal.ensures.written;
      fits = le_trans c.write_refusal.ensures.short c.requires;
    }

pub returns-in-Ok : goal.returns-in-Ok
returns-in-Ok c =
    let p = c.print_plan.ensures in
    record {
      outcome = p.outcome;
      holds = of-plan _ _ _ _ c.read.ensures c.in-Ok.is _ p.holds;
      written = p.written;
      fits = p.fits;
    }
