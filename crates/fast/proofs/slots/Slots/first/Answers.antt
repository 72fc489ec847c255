-- `fast::slots::Slots::first` meets its contract: the slots that it takes are the first LIMIT ones (`FirstSlots`).
use mathlib.Core.Path.{◌∙◌}
use Rattle.fast.proofs.FirstSlots.{first-slots}
use Rattle.fast.proofs.slots.Slots.first.Goals as goal

pub returns-clause-classes : goal.returns-clause-classes
returns-clause-classes c = c.of.ensures.classes ∙ first-slots c.args.classes.now _ c.min-n.ensures
