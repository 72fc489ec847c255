-- `fast::sweep::sweep` meets its contract: each turn takes one window over to the slots before (`SweepTurns`), and
-- draws on (`DrawRestLoop`).
use Prim.Native.Nat.{◌-◌}
use native.Mathlib.Omega.{arith}
use mathlib.Core.Logic.{inl, inr}
use mathlib.Core.Path.{◌≡◌, refl, sym, ◌∙◌}
use Rattle.std.specs.Cmp.Lexicographic.{same_text}
use Rattle.rule.specs.ClassCodes.{decode_all}
use Rattle.fast.proofs.DrawRestLoop.{rest-start, rest-step}
use Rattle.fast.proofs.ReachLoop.{within}
use Rattle.fast.proofs.SweepLoop.{Decides, sweep-end}
use Rattle.fast.proofs.SweepTurns.{turn-rows, sweep-begun, sweep-turned, turn-repeats}
use Rattle.fast.specs.Pen.{drawn_on}
use Rattle.fast.proofs.sweep.sweep.Goals as goal
use Rattle.fast.proofs.sweep.sweep.Goals.{else-loop-ring-test, then-loop-ring-test+then-eq}

pub loop-ring-init : goal.loop-ring-init
loop-ring-init c =
    let ring = c.args.ring.now in
    let slots = ring.slots.now in
    let pre = c.requires in (
      refl,
      rw pre.all (rest-start slots.settings.shape slots.classes.now slots.settings.windows.most _ _),
      sweep-begun slots c.args.before.now c.args.whole pre.settings pre.turned c.free_slots-free.ensures ring
          c.first_row-side.ensures refl pre.all pre.last c.row.ensures c.sweep_gaps.ensures,
    )

pub sweep_windows-requires : goal.sweep_windows-requires
sweep_windows-requires c = within c.args.ring.now.slots.now

pub loop-ring-preserved : goal.loop-ring-preserved
loop-ring-preserved c =
    let slots = c.args.ring.now.slots.now in
    let pre = c.requires in
    let loop = c.loop-ring in
    let ready = c.make_ready.ensures in
    let used = c.use_one.ensures in
    let spare = c.spare_reaches-spare.ensures in
    let fewer : c.use_one.new.self.left ≡ loop.ring.left - 1 = omega arith in
    let rows =
    turn-rows slots loop.ring c.make_ready.new.self c.use_one.new.self loop.invariant.0 ready.slots ready.left
    ready.recent used.slots used.left used.last c.row-row.ensures c.row-next.ensures in (
      used.slots ∙ ready.slots ∙ loop.invariant.0,
      rest-step slots.settings.shape slots.classes.now slots.settings.windows.most _ _ loop.pen loop.invariant.1 _
          c.draw_on-pen.auto.marks fewer rows.1 c.draw_on-pen.ensures.ended c.draw_on-pen.ensures.drawn,
      sweep-turned slots c.args.before.now c.args.whole pre.settings pre.turned c.free_slots-free.ensures
          loop.invariant.2 c.loop-ring-test.true c.ends_of-starts.ensures c.row_of-longer.ensures fewer
          spare.within spare.spare rows c.ends_of-ends.ensures _ _ _ c.sweep_windows.ensures
          c.sweep_windows-in-loop-ring.ensures c.sweep_gaps-in-loop-ring.ensures,
    )

-- the rest is drawn, and what slots lose is found
pub returns : goal.returns
returns c =
    let slots = c.args.ring.now.slots.now in
    let pre = c.requires in
    let loop = c.loop-ring in
    let spare = c.spare_reaches-spare.ensures in
    let (drawn, found) : (c.draw_rest.new.marks
    ≡ drawn_on slots.settings.shape (decode_all slots.classes.now) (slots.settings.windows.most - 1) c.args.begun
    c.args.marks.now)
    × Decides slots.settings slots.classes.now c.args.whole c.loop-ring-test.far c.loop-ring-test.bridged c.loop-ring-test.gaps =
    rw c.draw_rest.ensures elim c.loop-ring-test.branch [
      | else-loop-ring-test w ↦
          rw (w.ring-is, w.marks-is, w.pen-is, w.far-is, w.bridged-is, w.gaps-is) (
            rw loop.invariant.0 loop.invariant.1.whole,
            sweep-end slots.settings slots.classes.now c.args.whole loop.invariant.2
                (inl (omega (arith, w.loop-ring-test.false))),
          )
      | then-loop-ring-test+then-eq w ↦
          let ready = w.make_ready.ensures in
          let used = w.use_one.ensures in
          let same = used.slots ∙ ready.slots ∙ loop.invariant.0 in
          let fewer : w.use_one.new.self.left ≡ loop.ring.left - 1 = omega arith in
          let rows =
          turn-rows slots loop.ring w.make_ready.new.self w.use_one.new.self loop.invariant.0 ready.slots ready.left
          ready.recent used.slots used.left used.last w.row-row.ensures w.row-next.ensures in
          rw (w.ring-is, w.marks-is, w.pen-is, w.far-is, w.bridged-is, w.gaps-is) (
            rw same
                (rest-step slots.settings.shape slots.classes.now slots.settings.windows.most _ _ loop.pen
                loop.invariant.1 _ w.draw_on-pen.auto.marks fewer rows.1 w.draw_on-pen.ensures.ended
                w.draw_on-pen.ensures.drawn).whole,
            sweep-end slots.settings slots.classes.now c.args.whole
                (sweep-turned slots c.args.before.now c.args.whole pre.settings pre.turned c.free_slots-free.ensures
                loop.invariant.2 w.loop-ring-test.true w.ends_of-starts.ensures w.row_of-longer.ensures fewer
                spare.within spare.spare rows w.ends_of-ends.ensures _ _ _ w.sweep_windows.ensures
                w.sweep_windows-in-loop-ring.ensures w.sweep_gaps-in-loop-ring.ensures)
                (inr (turn-repeats slots c.args.before.now c.args.whole pre.settings pre.turned
                c.free_slots-free.ensures loop.invariant.2 w.loop-ring-test.true
                w.ends_of-starts.ensures w.row_of-longer.ensures fewer
                (same_text _ _ (sym w.if-eq.true ∙ w.eq.ensures)))),
          )
    ] in
    record {
      drawn = rw pre.all drawn;
      lost = λ small kept i there.
          c.losses.ensures i there ∙ found.loses small (rw pre.all at kept) i there;
    }
