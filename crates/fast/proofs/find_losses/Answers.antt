-- `fast::find_losses` meets its contract: either nothing is lost, or the sweep finds what is (`Solving`).
use native.Mathlib.Omega.{arith}
use mathlib.Core.Path.{ap, ◌∙◌}
use Rattle.rule.specs.ClassCodes.{decode_all}
use Rattle.fast.proofs.Solving.{turned-slots, none-loses, swept-loses}
use Rattle.fast.proofs.find_losses.Goals as goal

pub returns-then-nothing_lost-clause-lost : goal.returns-then-nothing_lost-clause-lost
returns-then-nothing_lost-clause-lost c =
    let slots = c.args.ring.now.slots.now in
    none-loses _ slots.classes.now (rw c.requires.all at c.requires.fewer) slots.few
    (c.nothing_lost.ensures c.if-nothing_lost.true)

pub of-before-requires : goal.of-before-requires
of-before-requires c =
    let slots = c.args.ring.now.slots.now in
    omega (arith, slots.few, (turned-slots slots.classes.now c.turn-turned.result c.turn-turned.ensures).0)

pub sweep-requires-clause-turned : goal.sweep-requires-clause-turned
sweep-requires-clause-turned c =
    ap decode_all c.of-before.ensures.classes
    ∙ (turned-slots c.args.ring.now.slots.now.classes.now c.turn-turned.result c.turn-turned.ensures).1

pub returns-clause-lost : goal.returns-clause-lost
returns-clause-lost c =
    swept-loses _ c.args.ring.now.slots.now.classes.now (rw c.requires.all at c.requires.fewer) c.sweep.result
    c.no_under_lost-whole.ensures (rw c.requires.all at c.sweep.ensures.lost)
