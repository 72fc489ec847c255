-- `fast::sweep::spare_reaches` meets its contract: windows with one bridge fewer keep one (`SpareReach`).
use native.Mathlib.Omega.{arith}
use mathlib.Core.Bool.{true≢false}
use mathlib.Core.Logic.{⊎_elim}
use mathlib.Core.Path.{sym, subst, ◌∙◌}
use lib.ListN.{length-map}
use Rattle.rule.specs.ClassCodes.{decode}
use Rattle.settings.specs.Refusals.{places}
use Rattle.fast.proofs.ReachLoop.{bounded}
use Rattle.fast.proofs.SpareReach.{reaches-with, none_within, none-spare}
use Rattle.fast.specs.Rows.{Bounded}
use Rattle.fast.proofs.sweep.spare_reaches.Goals as goal

pub returns-then-whole : goal.returns-then-whole
returns-then-whole c =
    record {
      within = none_within places;
      spare = λ e.
          ⊎_elim (λ all. absurd (true≢false (sym all ∙ e))) (λ none. none-spare _ 1 _ places (omega (arith, none.1)))
          c.then-whole.either;
    }

pub returns : goal.returns
returns c =
    let classes = c.args.slots.now.classes.now in
    record {
      within = (subst (Bounded _) (length-map classes decode) (bounded c.reaches.ensures)).within;
      spare = λ e. reaches-with _ 1 (omega arith) c.reaches.ensures;
    }
