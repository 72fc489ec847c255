-- `writer::put_records` meets its contract. The loop's invariant: the records of what the slices have left are left to
-- write (`RecordsLeft`).
use Rattle.writer.proofs.PutRecordsLoop.{RecordsLeft}
use Rattle.writer.proofs.put_records.Given as goal

abbrev pub invariant-loop-low : goal.invariant-loop-low
invariant-loop-low l =
    RecordsLeft l.lowest l.highest l.initial.out l.low-iterator.a.rest.now l.low-iterator.b.rest.now l.out l.next
