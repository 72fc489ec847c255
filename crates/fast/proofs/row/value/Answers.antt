-- `fast::row::value` meets its contract: only a slot that is over only cannot be left uncovered.
use native.Mathlib.Omega.{arith}
use Rattle.rule.proofs.ClassCodes.{cannot-be-uncovered, class-codes}
use Rattle.fast.proofs.row.value.Goals as goal

pub returns-then-class-ne-OVER : goal.returns-then-class-ne-OVER
returns-then-class-ne-OVER c = search class-codes

pub returns : goal.returns
returns c = rw (cannot-be-uncovered _ c.if-class-ne-OVER.false, ← c.from.ensures) (omega arith)
