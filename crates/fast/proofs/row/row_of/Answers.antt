-- `fast::row::row_of` meets its contract. The loop's invariant: the row is made from slot i on (`MadeFrom`).
use Prim.Native.Nat.{◌-◌}
use native.Mathlib.Omega.{arith}
use Rattle.fast.proofs.ReachLoop.{within}
use Rattle.fast.proofs.RowLoop.{made-start, made-step, made-end}
use Rattle.fast.proofs.row.row_of.Goals as goal

pub loop-i-init : goal.loop-i-init
loop-i-init c =
    let slots = c.args.slots.now in
    made-start _ _ _ _ slots.few slots.reaches

pub step-near-requires : goal.step-near-requires
step-near-requires c =
    let slots = c.args.slots.now in
    omega (arith, slots.few, within slots (c.loop-i.i - 1) (omega arith))

pub value-requires-clause-inside : goal.value-requires-clause-inside
value-requires-clause-inside c =
    let slots = c.args.slots.now in
    omega (arith, slots.few, within slots (c.loop-i.i - 1) (omega arith))

pub loop-i-preserved : goal.loop-i-preserved
loop-i-preserved c =
    made-step _ _ _ _ c.loop-i.row c.loop-i.minima _ c.loop-i.near _ _ _ (omega arith) c.args.slots.now.reaches
    (omega arith) c.loop-i.invariant c.step-near.ensures.near c.step-near.ensures.stepped c.value.ensures

pub returns : goal.returns
returns c = made-end _ _ _ _ (omega arith) c.loop-i.invariant
