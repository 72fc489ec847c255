-- `writer::put_records` meets its contract, by the loop's invariant (`PutRecordsLoop`).
use borrow.Author.Rules.{rules}
use mathlib.Core.Logic.{⊎_elim}
use mir.Facts.{to_z-of_z}
use mir.Syntax.{w32}
use mir.Val.{SFits}
use Rattle.writer.proofs.PutRecordsLoop.{records-step, records-end, none-low, none-high}
use Rattle.writer.proofs.put_records.Goals as goal

pub loop-low-preserved : goal.loop-low-preserved
loop-low-preserved c =
    let lo : SFits w32 c.in-Some.low.now = search rules in
    let hi : SFits w32 c.in-Some.high.now = search rules in
    records-step (rw (c.in-Some.ensures.steps.0, c.in-Some.ensures.steps.1) at c.loop-low.invariant)
    (rw (to_z-of_z lo, to_z-of_z hi) at c.put_range-next.ensures)

pub returns : goal.returns
returns c =
    records-end c.loop-low.invariant (⊎_elim (λ w. none-low _ _ w.1.0) (λ w. none-high _ _ w.1.0) c.in-None.ensures.steps)
