-- `fast::reach::bridges_of` meets its contract: only a slot that is under only cannot be over.
use Rattle.rule.proofs.ClassCodes.{class-codes}
use Rattle.fast.proofs.reach.bridges_of.Goals as goal

pub returns-then-class-eq-UNDER : goal.returns-then-class-eq-UNDER
returns-then-class-eq-UNDER c = search class-codes

pub returns : goal.returns
returns c = search class-codes
