-- `least::Slots::last_row` meets its contract: the row for w windows is made from those for fewer.
use Rattle.least.proofs.Slots.last_row.Goals as goal

pub returns : goal.returns
returns c = c.after_window.ensures _ (c.next_row-row.ensures _ c.fill_rows.ensures.0)
