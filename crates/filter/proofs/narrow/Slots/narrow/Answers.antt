-- `filter::narrow::Slots::narrow` meets its contract. The loop's invariant: the ranges before slot i are
-- cut, and the rest are as they were lent (`CutBefore`).
use native.Mathlib.Nat.{le_refl}
use native.Mathlib.Omega.{arith}
use mathlib.Core.Path.{◌≡◌, ◌∙◌}
use mir.Facts.{to_z-of_z}
use mir.Syntax.{w32}
use mir.Val.{SFits, of_z, to_z}
use Rattle.std.proofs.Common.{rules}
use Rattle.filter.proofs.NarrowLoop.{cut-start, cut_step, cut-end, loses}
use Rattle.requests.specs.Request.{at}
use Rattle.filter.proofs.narrow.Slots.narrow.Goals as goal
use Rattle.filter.proofs.narrow.Slots.narrow.Goals.{After-loss_at}

pub loop-i-init : goal.loop-i-init
loop-i-init c = (cut-start, cut-start)

-- what `cut` is given: k, and slot i's range as it was lent
given : (c : After-loss_at) →
    let loop = c.loop-i in
    let args = c.args in
    let k = args.self.now.settings.k in
    (to_z w32 (of_z w32 k) ≡ k)
    × (to_z w32 (of_z w32 (at loop.lowest loop.i)) ≡ at args.lowest.now loop.i)
    × (to_z w32 (of_z w32 (at loop.highest loop.i)) ≡ at args.highest.now loop.i)
given c =
    let loop = c.loop-i in
    let args = c.args in
    let k-fits : SFits w32 args.self.now.settings.k = search rules in
    let lo : SFits w32 (at loop.lowest loop.i) = search rules in
    let hi : SFits w32 (at loop.highest loop.i) = search rules in (
      to_z-of_z k-fits,
      to_z-of_z lo ∙ loop.invariant.0.rest loop.i (le_refl _),
      to_z-of_z hi ∙ loop.invariant.1.rest loop.i (le_refl _),
    )

pub cut-kept-requires : goal.cut-kept-requires
cut-kept-requires c =
    let args = c.args in
    let (k-fits, lo, hi) = given (goal.at.cut-kept-requires c).After-loss_at in
    rw (k-fits, lo, hi)
    (loses args.self.now.settings args.lowest.now args.highest.now c.requires.2 _ c.loss_at.result c.loss_at.ensures
    (omega arith) (omega arith))

pub loop-i-preserved : goal.loop-i-preserved
loop-i-preserved c =
    let loop = c.loop-i in
    let low : SFits w32 c.cut-kept.result.lowest = search rules in
    let high : SFits w32 c.cut-kept.result.highest = search rules in
    let (k-fits, lo, hi) = given (goal.at.loop-i-preserved c).After-loss_at in
    let (below, above) = rw (k-fits, lo, hi, c.loss_at.ensures) at c.cut-kept.ensures in
    rw (to_z-of_z low, to_z-of_z high) (
      cut_step loop.lowest loop.i loop.invariant.0 _ (omega arith) below,
      cut_step loop.highest loop.i loop.invariant.1 _ (omega arith) above,
    )

pub returns : goal.returns
returns c =
    let loop = c.loop-i in (
      cut-end loop.lowest loop.i loop.invariant.0 (omega arith),
      cut-end loop.highest loop.i loop.invariant.1 (omega arith),
    )
