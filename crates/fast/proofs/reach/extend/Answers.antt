-- `fast::reach::extend` meets its contract. The loop's invariant: the span goes from slot x up to slot i (`SpanTo`).
use native.Mathlib.Omega.{arith}
use mathlib.Core.Path.{refl}
use Rattle.fast.proofs.SpanLoop.{span-step, span-full, span-stopped, span_last}
use Rattle.fast.proofs.reach.extend.Goals as goal

pub loop-i-init : goal.loop-i-init
loop-i-init c = rw c.from.ensures record { place = refl; covers = c.requires.covers }

pub returns-then-slots-len-clause-whole : goal.returns-then-slots-len-clause-whole
returns-then-slots-len-clause-whole c = span-full _ _ _ _ c.loop-i.invariant c.if-slots-len.true

pub returns-then-more-h-clause-whole : goal.returns-then-more-h-clause-whole
returns-then-more-h-clause-whole c =
    span-stopped _ _ _ _ c.loop-i.invariant _ (omega arith) c.bridges_of-more.ensures (omega arith)

pub loop-i-preserved : goal.loop-i-preserved
loop-i-preserved c =
    span-step _ _ _ _ c.loop-i.invariant _ (omega arith) (omega arith) c.bridges_of-more.ensures (omega arith)

pub returns-clause-whole : goal.returns-clause-whole
returns-clause-whole c = span_last _ _ _ _ c.loop-i.invariant (omega arith)
