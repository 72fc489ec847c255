-- `marks::next_mark` meets its contract: its arms are the definition's tests.
use Rattle.rule.proofs.ClassCodes.{class-codes}
use Rattle.marks.proofs.next_mark.Goals as goal

pub returns-in-0-eq1 : goal.returns-in-0-eq1
returns-in-0-eq1 c = search class-codes

pub returns-in-0-default : goal.returns-in-0-default
returns-in-0-default c = search class-codes

pub returns-in-0-default-2 : goal.returns-in-0-default-2
returns-in-0-default-2 c = search class-codes

pub returns-in_default-eq0 : goal.returns-in_default-eq0
returns-in_default-eq0 c = search class-codes

pub returns-in_default : goal.returns-in_default
returns-in_default c = search class-codes
