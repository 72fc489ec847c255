-- `listing::put::Text::slot_lines` meets its contract. The loop's invariant: the lines from slot i on are left to write
-- (`SlotsLeft`).
use Rattle.std.proofs.Common.{length}
use Rattle.listing.proofs.SlotLinesLoop.{SlotsLeft}
use Rattle.listing.proofs.put.Text.slot_lines.Given as goal

abbrev pub invariant-loop-i : goal.invariant-loop-i
invariant-loop-i l = SlotsLeft l.lowest l.highest l.marks l.fn.self (length l.yielded) l.self
