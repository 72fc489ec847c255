-- `least::Slots::least_counts` meets its contract: the counts are read off the rows.
use native.Mathlib.Omega.{arith}
use mathlib.Core.Path.{◌∙◌}
use Rattle.least.proofs.RowLoops.{thrift-step}
use Rattle.least.proofs.Slots.least_counts.Goals as goal

pub returns : goal.returns
returns c =
    let slots = c.args.self in
    let (after, first, thrift) = c.fill_rows-last.ensures in
    let covered = (c.next_row.ensures _ after).counts 0 (omega arith) in
    let kept = thrift-step slots.settings slots.classes.now _ first thrift covered in
    (first, c.thrift_after.ensures ∙ kept, covered)
