-- `paging::check_call` meets its contract: lengths, the number of slots, then what else is checked of a request.
use Rattle.refusals.proofs.Answer.{handed-up}
use Rattle.refusals.proofs.Table.{rows}
use Rattle.paging.specs.Paging
use Rattle.paging.proofs.check_call.Goals as goal

pub returns-in_err-check_lengths : goal.returns-in_err-check_lengths
unfolding Paging.checks_refusal
returns-in_err-check_lengths c =
    rw (handed-up _ _ c.from_residual.ensures.1, ← c.differ.ensures, ← c.marks_differ-different.ensures)
    (search (rows, c.in_err-check_lengths.ensures) depth 9)

pub returns-then-too_many_slots : goal.returns-then-too_many_slots
unfolding Paging.checks_refusal
returns-then-too_many_slots c =
    rw (← c.differ.ensures, ← c.marks_differ-different.ensures)
    (search (rows, c.in_ok-check_lengths.ensures) depth 9)

pub returns : goal.returns
unfolding Paging.checks_refusal
returns c =
    rw (← c.differ.ensures, ← c.marks_differ-different.ensures)
    (search (rows, c.in_ok-check_lengths.ensures, c.check_request.ensures) depth 9)
