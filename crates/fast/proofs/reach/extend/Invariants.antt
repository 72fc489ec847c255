-- `fast::reach::extend` meets its contract. The loop's invariant: the span goes from slot x up to slot i (`SpanTo`).
use Rattle.fast.proofs.SpanLoop.{SpanTo}
use Rattle.fast.proofs.reach.extend.Given as goal

abbrev pub invariant-loop-i : goal.invariant-loop-i
invariant-loop-i l = SpanTo l.len l.h l.classes l.x l.slots l.bridges l.i
