-- `fast::row::with_no_window` meets its contract: only a slot that is over only cannot be left uncovered.
use Rattle.rule.proofs.ClassCodes.{class-codes}
use Rattle.fast.proofs.row.with_no_window.Goals as goal

pub returns-then-class-eq-OVER : goal.returns-then-class-eq-OVER
returns-then-class-eq-OVER c = search class-codes

pub returns : goal.returns
returns c = search class-codes
