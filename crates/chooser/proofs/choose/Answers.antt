-- `chooser::choose` meets its contract: what `prefer` gave is the choice between the two judgments, by the contract of
-- the judge alone, and each arm hands back what that choice says.
use mathlib.Core.Path.{◌≡◌, refl, sym, ◌∙◌}
use Rattle.chooser.specs.Choice.{choice}
use Rattle.judge.specs.Judgment.{judgment}
use Rattle.chooser.proofs.choose.Goals as goal
use Rattle.chooser.proofs.choose.Goals.{After-prefer-better}

chosen : (c : After-prefer-better) → let args = c.args in
    choice (judgment args.settings args.loads.now args.first.now)
    (judgment args.settings args.loads.now args.second.now) ≡ c.prefer-better.result
chosen c = rw (← c.judge-one.ensures, ← c.judge-two.ensures) (sym c.prefer-better.ensures)

pub returns-in-First : goal.returns-in-First
returns-in-First c = rw (chosen (goal.at.returns-in-First c).After-prefer-better ∙ c.in-First.is)

pub returns-in-Second : goal.returns-in-Second
returns-in-Second c = rw (chosen (goal.at.returns-in-Second c).After-prefer-better ∙ c.in-Second.is)

pub returns-in-Neither : goal.returns-in-Neither
returns-in-Neither c = rw (chosen (goal.at.returns-in-Neither c).After-prefer-better ∙ c.in-Neither.is) (refl, refl)
