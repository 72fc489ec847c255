-- `fast::row::first_row` meets its contract. The loop's invariant: the row is filled from slot i on (`FirstRowFrom`).
use native.Mathlib.Omega.{arith}
use Rattle.fast.proofs.FirstRowLoop.{first-start, first_step, first-end}
use Rattle.fast.proofs.row.first_row.Goals as goal

pub loop-i-init : goal.loop-i-init
loop-i-init c = first-start _ c.args.slots.now.few

pub loop-i-preserved : goal.loop-i-preserved
loop-i-preserved c =
    first_step _ c.loop-i.row _ _ (omega arith) c.loop-i.invariant c.with_no_window.ensures

pub returns : goal.returns
returns c = first-end _ (omega arith) c.loop-i.invariant
