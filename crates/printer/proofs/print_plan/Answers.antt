-- `printer::print_plan` meets its contract: what is written is the text of what the filter handed back.
use native.Mathlib.Nat.{le_trans}
use native.Mathlib.Omega.{arith}
use Rattle.printer.proofs.print_plan.Goals as goal

pub returns : goal.returns
returns c =
    record {
      outcome = _;
      holds = c.filter-answer.ensures;
      written = c.write_answer.ensures.written;
      fits =
          le_trans (c.write_answer.ensures.short (omega (arith, c.requires))) c.requires.1;
    }
