-- `paging::parting::Search::is_plan` meets its contract: it is what the judge answers (`PlanTest`).
use mathlib.Core.Path.{◌≡◌, ap, ◌∙◌}
use Rattle.std.proofs.Common.{rules}
use Rattle.paging.proofs.PlanTest.{yes?, plan-is-yes}
use Rattle.paging.proofs.parting.Search.is_plan.Goals as goal

pub returns : goal.returns
returns c =
    let ready = c.args.self.now.ready in
    let is : c.is_ok_and.result ≡ yes? c.judge.result = search rules in
    is ∙ ap yes? c.judge.ensures ∙ plan-is-yes _ _ _ _ _ ready.accepted ready.width c.requires c.write_ends.ensures
