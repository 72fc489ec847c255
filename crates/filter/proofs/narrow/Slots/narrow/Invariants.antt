-- `filter::narrow::Slots::narrow` meets its contract. The loop's invariant: the ranges before slot i are
-- cut, and the rest are as they were lent (`CutBefore`).
use Rattle.filter.proofs.NarrowLoop.{CutBefore}
use lib.ListN.{take}
use Rattle.rule.specs.ClassCodes.{decode_all}
use Rattle.requests.specs.Promise.{lowest_after, highest_after}
use Rattle.requests.specs.Solution.{loss}
use Rattle.filter.proofs.narrow.Slots.narrow.Given as goal

abbrev pub invariant-loop-i : goal.invariant-loop-i
invariant-loop-i l =
    CutBefore (λ j. lowest_after l.self.settings.k (loss l.self.settings (decode_all (take l.self.n l.self.codes)) j)) l.initial.lowest l.lowest l.i
    × CutBefore (λ j. highest_after l.self.settings.k (loss l.self.settings (decode_all (take l.self.n l.self.codes)) j)) l.initial.highest l.highest l.i
