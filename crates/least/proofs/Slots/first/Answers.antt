-- `least::Slots::first` meets its contract: the slots past the limit are cut off.
use Rattle.std.proofs.lemmas.List.{take_min}
use Rattle.least.proofs.Slots.first.Goals as goal

pub returns-clause-classes : goal.returns-clause-classes
returns-clause-classes c = rw (c.min-n.ensures, take_min)
