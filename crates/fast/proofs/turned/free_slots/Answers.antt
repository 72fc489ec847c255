-- `fast::turned::free_slots` meets its contract. The loop's invariant: what is known of the slots before slot i is
-- written (`FilledBefore`).
use native.Mathlib.Omega.{arith}
use mathlib.Core.Bool.{false}
use lib.ListN.{length-map}
use Rattle.rule.specs.ClassCodes.{decode}
use Rattle.fast.proofs.FromSlot.{class-at}
use Rattle.fast.proofs.FilledBefore.{filled-start, filled-step}
use Rattle.fast.proofs.turned.free_slots.Goals as goal

pub loop-i-init : goal.loop-i-init
loop-i-init c = filled-start false

pub loop-i-preserved : goal.loop-i-preserved
loop-i-preserved c =
    filled-step false c.loop-i.free c.loop-i.i _ c.loop-i.invariant (omega (arith, c.args.slots.now.few))
    c.is_free.ensures

pub returns : goal.returns
returns c =
    let classes = c.args.slots.now.classes.now in
    let as_many = length-map classes decode in
    record {
      exactly = λ i there. rw (class-at classes i, as_many) (c.loop-i.invariant.done i (omega (arith, as_many)));
    }
