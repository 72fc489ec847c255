-- `fast::pen::draw_on` meets its contract. The loop's invariant: to draw on is to draw on from the start
-- (`LeftToDraw`).
use native.Mathlib.Omega.{arith}
use mathlib.Core.Logic.{inl, inr}
use Rattle.fast.proofs.DrawLoop.{draw-start, draw-step, draw-again, draw-end}
use Rattle.fast.proofs.pen.draw_on.Goals as goal

pub loop-i-init : goal.loop-i-init
loop-i-init c = draw-start _ _ _ _ _

pub returns-then-mark-eq1 : goal.returns-then-mark-eq1
returns-then-mark-eq1 c = record {
  ended = inr c.if-mark-eq1.true;
  further = λ some. omega (arith, c.loop-i.invariant.begun);
  drawn = draw-step _ _ _ _ _ c.loop-i.marks c.loop-i.i c.loop-i.mark c.loop-i.covered _ c.min-n.ensures
      c.loop-i.invariant (omega arith) c.args.slots.now.lacking c.unless_lacking.ensures
      c.close_window-closed.ensures c.next_mark-mark.ensures c.left_of-covered.ensures;
}

pub loop-i-preserved : goal.loop-i-preserved
loop-i-preserved c =
    draw-again _ _ _ _ _ c.loop-i.marks c.loop-i.i c.loop-i.mark c.loop-i.covered _ c.min-n.ensures c.loop-i.invariant
    (omega arith) c.args.slots.now.lacking c.unless_lacking.ensures c.close_window-closed.ensures
    c.next_mark-mark.ensures c.left_of-covered.ensures c.if-mark-eq1.false

pub returns : goal.returns
returns c = record {
  ended = inl (omega (arith, c.min-n.ensures));
  further = λ some. omega (arith, c.min-n.ensures);
  drawn = draw-end _ _ _ _ _ c.loop-i.marks c.loop-i.i c.loop-i.mark c.loop-i.covered _ c.min-n.ensures
      c.loop-i.invariant (omega arith);
}
