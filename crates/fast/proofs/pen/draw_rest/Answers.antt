-- `fast::pen::draw_rest` meets its contract: each turn draws up to the next window (`DrawRestLoop`).
use native.Mathlib.Omega.{arith}
use mathlib.Core.Path.{refl, ◌∙◌}
use Rattle.fast.proofs.DrawRestLoop.{rest-start, rest-less, rest-step, rest_end}
use Rattle.fast.proofs.FillLoop.{ring-next}
use Rattle.fast.proofs.pen.draw_rest.Goals as goal

pub loop-pen-init : goal.loop-pen-init
loop-pen-init c = (refl, rest-start _ _ _ _ _)

pub loop-pen-smaller : goal.loop-pen-smaller
loop-pen-smaller c =
    rest-less _ _ _ _ _ c.loop-pen.pen c.loop-pen.invariant.1 c.draw_on-pen.result c.min-n.ensures
    c.loop-pen-test.true c.draw_on-pen.ensures.further

pub loop-pen-preserved : goal.loop-pen-preserved
loop-pen-preserved c =
    let drawn = c.draw_on-pen in
    let ready = c.make_ready.ensures in
    let used = c.use_one.ensures in
    let same = used.slots ∙ ready.slots ∙ c.loop-pen.invariant.0 in
    let row = ring-next c.use_one.new.self c.args.ring.now.slots.now same (omega arith) c.row.ensures in (
      same,
      rest-step _ _ _ _ _ c.loop-pen.pen c.loop-pen.invariant.1 drawn.result drawn.auto.marks (omega arith) row
          drawn.ensures.ended drawn.ensures.drawn,
    )

pub returns : goal.returns
returns c = rest_end _ _ _ _ _ c.loop-pen.pen c.loop-pen.invariant.1 (omega (arith, c.min-n.ensures))
