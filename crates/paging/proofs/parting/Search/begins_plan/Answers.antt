-- `paging::parting::Search::begins_plan` meets its contract: what is drawn is tested (`Drawn`).
use native.Mathlib.Omega.{arith}
use lib.Seq.{length-take-le}
use Rattle.paging.proofs.Drawn.{drawn-all}
use Rattle.paging.proofs.parting.Search.begins_plan.Goals as goal

pub returns : goal.returns
returns c =
    let ready = c.args.self.now.ready in
    let marks = drawn-all ready c.args.front.now _ (length-take-le _ _ (omega (arith, ready.short))) c.complete.ensures in
    rw (← marks) c.is_plan.ensures
