-- `paging::turn` meets its contract: it draws where the last plan parts from the given marks (`NextIsFirst`).
use mathlib.Core.Path.{refl}
use Rattle.paging.proofs.Drawn.{drawn-all}
use Rattle.paging.proofs.NextIsFirst.{no_further, next-first}
use Rattle.paging.proofs.Passes.{accepted→passed}
use Rattle.paging.proofs.turn.Goals as goal

pub returns-in_default : goal.returns-in_default
returns-in_default c =
    (c.requires, no_further _ (accepted→passed c.requires).formed c.args.search.now.given.now c.in_default.ensures, refl)

pub returns : goal.returns
returns c =
    let formed = (accepted→passed c.requires).formed in
    let search = c.args.search.now in
    let drawn = drawn-all search.ready _ _ formed.marked c.complete.ensures in
    (c.requires, rw (drawn, c.parted-front.ensures.1) (next-first _ formed search.given.now _ _ c.in-Some.ensures))
