-- `card::records::fill` meets its contract: each turn of the loop fills one place of each slice (`FillLoop`).
use Prim.Native.Nat.{◌+◌, ◌*◌}
use native.Mathlib.Omega.{arith}
use mathlib.Core.Path.{ap, ◌∙◌}
use borrow.Author.Rules.{rules}
use mir.Facts.{to_z-of_z}
use mir.Syntax.{w32}
use mir.Val.{SFits}
use Rattle.form1.proofs.Opening.{slot_at}
use Rattle.card.proofs.FillLoop.{filled-start, filled-step}
use Rattle.card.proofs.records.fill.Goals as goal

pub loop-slot-init : goal.loop-slot-init
loop-slot-init c = (filled-start, filled-start)

pub loop-slot-preserved : goal.loop-slot-preserved
loop-slot-preserved c =
    let slot = c.loop-slot.slot in
    let low : SFits w32 c.range_at-range.result.lowest = search rules in
    let high : SFits w32 c.range_at-range.result.highest = search rules in
    let there =
    slot_at c.args.file.now slot _ (ap (λ s. s + 8 * slot) c.requires.start_value.0) (omega arith) in
    let is = c.range_at-range.ensures ∙ there in
    rw (to_z-of_z low, to_z-of_z high) (
      filled-step (omega arith) (ap (λ r. r.lowest) is) c.loop-slot.invariant.0,
      filled-step (omega arith) (ap (λ r. r.highest) is) c.loop-slot.invariant.1,
    )
