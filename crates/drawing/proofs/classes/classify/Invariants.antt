-- `drawing::classes::classify` meets its contract. The loop's invariant: to store the classes of the slots that are left
-- is to store all (`LeftToClass`).
use Rattle.drawing.proofs.ClassifyLoop.{LeftToClass}
use Rattle.drawing.proofs.classes.classify.Given as goal

abbrev pub invariant-loop-i : goal.invariant-loop-i
invariant-loop-i l =
    let places = l.i-iterator in
    let slots = places.iter.iter in
    LeftToClass l.k l.lowest l.highest l.codes places.count places.iter.n slots.a.rest.now slots.b.rest.now
