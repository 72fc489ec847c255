-- `fast::ends::ends_of` meets its contract. The loop's invariant: the ends before slot i are known (`EndsBefore`).
use native.Mathlib.Omega.{arith}
use Rattle.fast.proofs.EndsLoop.{ends-start, ends-step, ends-end}
use Rattle.fast.proofs.ends.ends_of.Goals as goal

pub loop-i-init : goal.loop-i-init
loop-i-init c = ends-start _ _ _ (omega arith)

pub loop-i-preserved : goal.loop-i-preserved
loop-i-preserved c =
    let loop = c.loop-i in
    let slots = c.args.slots.now in
    ends-step _ _ _ loop.ends _ _ slots.few slots.lacking (omega arith) loop.invariant c.«end».ensures

pub returns : goal.returns
returns c = ends-end _ _ _ (omega arith) c.loop-i.invariant
