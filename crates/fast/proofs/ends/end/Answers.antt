-- `fast::ends::end` meets its contract: its tests are the definition's.
use Rattle.rule.proofs.ClassCodes.{class-codes}
use Rattle.fast.proofs.ends.end.Goals as goal

pub returns-then-class-eq-UNDER : goal.returns-then-class-eq-UNDER
returns-then-class-eq-UNDER c = search class-codes

pub returns : goal.returns
returns c = search class-codes
