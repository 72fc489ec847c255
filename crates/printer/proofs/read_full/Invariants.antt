-- `printer::read_full` is safe and ends: each turn leaves less to fill.
use Rattle.std.proofs.Common.{length, ◌-◌, ◌≤◌, ◌≡◌}
use Rattle.printer.proofs.read_full.Given as goal

abbrev pub invariant-loop-size : goal.invariant-loop-size
invariant-loop-size g l = (length l.out ≡ length l.initial.out) × (l.size ≤ length l.out)

abbrev pub decreases-loop-size : goal.decreases-loop-size
decreases-loop-size g l = length l.out - l.size
