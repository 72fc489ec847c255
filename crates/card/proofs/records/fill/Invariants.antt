-- `card::records::fill` meets its contract: each turn of the loop fills one place of each slice (`FillLoop`).
use Rattle.form1.specs.Form1.{range_of}
use Rattle.card.proofs.FillLoop.{Filled}
use Rattle.card.proofs.records.fill.Given as goal

abbrev pub invariant-loop-slot : goal.invariant-loop-slot
invariant-loop-slot l = Filled (λ i. (range_of i l.file).lowest) l.initial.lowest l.slot l.lowest
    × Filled (λ i. (range_of i l.file).highest) l.initial.highest l.slot l.highest
