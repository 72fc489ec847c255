-- `fast::ring::fill` meets its contract: each turn makes a row (`FillLoop`).
use Rattle.rule.specs.ClassCodes.{decode_all}
use Rattle.fast.proofs.FillLoop.{UpTo}
use Rattle.fast.proofs.ring.fill.Given as goal

abbrev pub invariant-loop-v : goal.invariant-loop-v
invariant-loop-v l = UpTo l.slots.settings.shape (decode_all l.slots.classes.now) l.most l.rows l.row l.found l.fewer l.v
