-- `fast::ends::lacks_of` meets its contract. The loop's invariant: what is lacking is known from slot i on
-- (`LackingFrom`).
use native.Mathlib.Omega.{arith}
use Rattle.fast.proofs.EndsLoop.{lacking-start, lacking-step, lacking-end}
use Rattle.fast.proofs.ends.lacks_of.Goals as goal

pub loop-i-init : goal.loop-i-init
loop-i-init c = lacking-start _ _ (omega arith)

pub loop-i-preserved : goal.loop-i-preserved
loop-i-preserved c =
    let loop = c.loop-i in
    lacking-step _ _ loop.lacks _ _ (omega arith) (omega arith) loop.invariant c.lacking.ensures

pub returns : goal.returns
returns c = lacking-end _ _ (omega arith) c.loop-i.invariant
