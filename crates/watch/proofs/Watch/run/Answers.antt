-- `watch::Watch::run` meets its contract: its loop runs what is left of the loads (`RunLoop`).
use Rattle.std.proofs.Common.{rules, slice_index_or, pos}
use native.Mathlib.Omega.{arith}
use mir.Facts.{to_z-of_z}
use mir.Syntax.{w32}
use mir.Val.{SFits}
use Rattle.watch.proofs.RunLoop.{run-start, run_step, run-stop, run_end}
use Rattle.watch.specs.Promise.{Steps}
use Rattle.watch.proofs.Watch.run.Goals as goal
use Rattle.watch.proofs.Watch.run.Goals.{After-step-stepped}

pub loop-i-init : goal.loop-i-init
loop-i-init c = run-start _ _

stepped : (c : After-step-stepped) →
    Steps c.loop-i.watch (slice_index_or c.args.loads.now c.loop-i.i (pos 0)) c.step-stepped.result
stepped c =
    let fits : SFits w32 (slice_index_or c.args.loads.now c.loop-i.i (pos 0)) = search rules in
    simp (to_z-of_z, fits) at c.step-stepped.ensures

pub returns-in-Err : goal.returns-in-Err
returns-in-Err c =
    run-stop _ _ _ _ c.loop-i.invariant _ c.loop-i-test.true
    (stepped (goal.at.returns-in-Err c).After-step-stepped) c.in-Err.is

pub loop-i-preserved : goal.loop-i-preserved
loop-i-preserved c =
    run_step _ _ _ _ c.loop-i.invariant _ c.loop-i-test.true
    (stepped (goal.at.loop-i-preserved c).After-step-stepped) c.in_default.is

pub returns : goal.returns
returns c = run_end _ _ _ _ c.loop-i.invariant (omega arith)
