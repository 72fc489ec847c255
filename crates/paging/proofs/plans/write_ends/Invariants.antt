-- `paging::plans::write_ends` meets its contract. The loop's invariant: the loads are the ends as far as slot i.
use mathlib.Core.Path.{◌≡◌}
use lib.ListN.{take}
use Rattle.requests.specs.Request.{paired}
use Rattle.rule.specs.Ranges.{ends_for}
use Rattle.paging.proofs.plans.write_ends.Given as goal

abbrev pub invariant-loop-i : goal.invariant-loop-i
invariant-loop-i l = take l.i l.loads ≡ take l.i (ends_for (paired l.lowest l.highest) l.marks)
