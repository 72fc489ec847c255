-- `least::extend` meets its contract: its tests are the definition's.
use native.Mathlib.Omega.{arith}
use Rattle.std.proofs.Common.{◌≡◌, ◌+◌, min}
use Rattle.requests.specs.Solution.{sentinel}
use Rattle.rule.proofs.ClassCodes.{can-be-over, class-codes}
use Rattle.least.proofs.extend.Goals as goal

pub returns-then-class-ne-UNDER : goal.returns-then-class-ne-UNDER
returns-then-class-ne-UNDER c =
    let args = c.args in
    let least : c.min-least.result ≡ min args.window.least (min sentinel (args.window.covered + 1 + args.after)) =
    omega arith in
    rw (can-be-over args.class c.if-class-ne-UNDER.true, least)

pub returns-then-window-eq0 : goal.returns-then-window-eq0
returns-then-window-eq0 c = search class-codes

pub returns : goal.returns
returns c = search class-codes
