-- `fast::reach::without_first` meets its contract: a span that is not empty counts the bridges of its first slot.
use native.Mathlib.Omega.{arith}
use Rattle.fast.proofs.SpanLoop.{covers-empty, covers-tail}
use Rattle.fast.proofs.reach.without_first.Goals as goal

pub returns-then-span-eq0 : goal.returns-then-span-eq0
returns-then-span-eq0 c = λ len h cs covers. covers-empty covers c.if-span-eq0.true

pub returns : goal.returns
returns c = λ len h cs covers. covers-tail covers _ _ (omega arith) (omega arith)
