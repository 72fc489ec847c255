-- `rule::over` meets its contract: its test is the definition's.
use Rattle.facts.proofs.Tests.{rules}
use Rattle.rule.specs.Rule
use Rattle.rule.proofs.over.Goals as goal

pub returns : goal.returns
unfolding Rule.over
returns c = search rules
