-- `paging::parting::Search::last_parting` meets its contract. The loop's invariant: no plan parts at a later slot.
use lib.ListN.{length}
use Rattle.paging.specs.Parting.{parts, partings, NonePartsFrom}
use Rattle.paging.proofs.parting.Search.last_parting.Given as goal

abbrev pub invariant-loop-slot : goal.invariant-loop-slot
invariant-loop-slot l =
    NonePartsFrom (parts l.self.settings l.self.lowest.now l.self.highest.now l.self.given.now) l.slot
    (partings (length l.self.lowest.now) (length l.self.given.now))
