-- `fast::solve` meets its contract: what the called functions gave, taken together (`Solving`).
use native.Mathlib.Omega.{arith}
use mathlib.Core.Path.{refl, sym, ap}
use lib.ListN.{take}
use Rattle.settings.specs.Refusals.{limit}
use Rattle.fast.proofs.FillLoop.{ring-last}
use Rattle.fast.proofs.Solving.{no-plan-solves, plan-solves}
use Rattle.fast.proofs.solve.Goals as goal

pub returns-then-covered-most : goal.returns-then-covered-most
returns-then-covered-most c =
    let filled = c.fill-filled.ensures in
    let is = c.first-slots.ensures.settings in
    let first = c.first-slots.ensures.classes in
    no-plan-solves _ (take limit c.args.classes.now)
    (rw (is, first) at (ring-last filled.ring filled.last c.place.ensures))
    (rw (is, first) at filled.counted) refl c.if-covered-most.true

pub find_losses-solved-requires : goal.find_losses-solved-requires
find_losses-solved-requires c =
    let filled = c.fill-filled.ensures in
    record {
      all = sym (ap (λ s. s.windows.most) c.first-slots.ensures.settings);
      last = filled.last;
      fewer = filled.counted.fewer;
    }

pub returns : goal.returns
returns c =
    let filled = c.fill-filled.ensures in
    let drawn = c.draw_on-pen.ensures in
    let found = c.find_losses-solved.ensures in
    let is = c.first-slots.ensures.settings in
    let first = c.first-slots.ensures.classes in
    plan-solves _ (take limit c.args.classes.now)
    (rw (is, first) at (ring-last filled.ring filled.last c.place.ensures))
    (rw (is, first) at filled.counted) c.if-covered-most.false c.draw_on-pen.result
    c.draw_on-pen.new.marks c.draw_on-pen.auto.marks (rw first at drawn.ended)
    ((rw (is, first) at drawn.drawn) _) (rw (is, first) at found.drawn) refl (omega arith)
    (rw (is, first) at found.lost)
