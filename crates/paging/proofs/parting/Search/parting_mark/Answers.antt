-- `paging::parting::Search::parting_mark` meets its contract: marks are tried from 0 on.
use mathlib.Core.Bool.{Bool, true, false}
use mathlib.Core.Path.{◌≡◌}
use Prim.Native.Nat.{ℕ}
use Rattle.std.proofs.Common.{rules}
use Rattle.std.proofs.lemmas.Iterator.{first_from_Range}
use Rattle.paging.specs.Parting.{parts}
use Rattle.paging.proofs.PartingSearch.{first-parting}
use Rattle.paging.proofs.parting.Search.parting_mark.Goals as goal

pub returns : goal.returns
returns c =
    let s = c.args.self.now in
    let tried : ℕ → Bool = parts s.settings s.lowest.now s.highest.now s.given.now c.args.slot in
    first-parting tried c.find.result
    (first_from_Range _ _ _ c.find.result (λ m. tried m ≡ true) (λ m. tried m ≡ false) c.find.ensures.ran
    (λ m q called. search rules) (λ m q called. search rules))
