-- `judge::marks::legal` meets its contract. The loop's invariant: the plan is legal exactly when the slots that are
-- left keep the rule from the scan state on (`LegalLoop.LeftToScan`).
use lib.ListN.{length}
use Rattle.judge.proofs.LegalLoop.{LeftToScan}
use Rattle.judge.proofs.marks.legal.Given as goal

abbrev pub invariant-loop-load : goal.invariant-loop-load
invariant-loop-load l = LeftToScan l.settings.k l.settings.shape l.loads l.marks l.at (length l.yielded)
