-- `fast::after::after_windows` meets its contract. The loop's invariant: the counts before slot i are written
-- (`FilledBefore`).
use native.Mathlib.Omega.{arith}
use mathlib.Core.Path.{◌∙◌}
use lib.ListN.{length-map}
use Rattle.rule.specs.ClassCodes.{decode}
use Rattle.fast.proofs.DrawLoop.{unless-lacking-after}
use Rattle.fast.proofs.FilledBefore.{filled-start, filled-step}
use Rattle.fast.proofs.after.after_windows.Goals as goal

pub loop-i-init : goal.loop-i-init
loop-i-init c = filled-start 0

pub loop-i-preserved : goal.loop-i-preserved
loop-i-preserved c =
    let loop = c.loop-i in
    filled-step 0 loop.after loop.i _ loop.invariant (omega (arith, c.args.slots.now.few)) c.unless_lacking.ensures

pub returns : goal.returns
returns c =
    let loop = c.loop-i in
    let slots = c.args.slots.now in
    λ w row.
    record {
      wide = loop.invariant.wide;
      counts = λ i l.
          loop.invariant.done i (omega (arith, l, length-map slots.classes.now decode))
          ∙ unless-lacking-after slots.lacking row i l;
    }
