-- `checks::first_crossed` meets its contract: the place that `position` finds is that of the first crossed range.
use Rattle.std.proofs.Common.{rules}
use Rattle.checks.proofs.FirstCrossed.{first-crossed, none-crossed}
use Rattle.checks.proofs.first_crossed.Goals as goal

pub returns-in-Some : goal.returns-in-Some
returns-in-Some c =
    first-crossed c.args.lowest.now c.args.highest.now c.in-Some.slot c.requires (search rules) (search rules)
    (λ k l. search rules)

pub returns-in-None : goal.returns-in-None
returns-in-None c = none-crossed c.args.lowest.now c.args.highest.now (λ k l. search rules)
