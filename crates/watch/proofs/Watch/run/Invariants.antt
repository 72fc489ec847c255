-- `watch::Watch::run` meets its contract: its loop runs what is left of the loads (`RunLoop`).
use Rattle.watch.proofs.RunLoop.{LeftToRun}
use Rattle.watch.proofs.Watch.run.Given as goal

abbrev pub invariant-loop-i : goal.invariant-loop-i
invariant-loop-i l = LeftToRun l.fn.self l.loads l.i l.watch
