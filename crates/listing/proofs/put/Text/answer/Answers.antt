-- `listing::put::Text::answer` meets its contract: an arm for each answer.
use mathlib.Core.Path.{◌≡◌}
use Rattle.requests.specs.Promise.{no_plan, planned}
use Rattle.listing.proofs.Fields.{fields}
use Rattle.listing.proofs.Lengths.{no-plan-short}
use Rattle.listing.specs.Text.{answer_text}
use Rattle.listing.proofs.put.Text.answer.Goals as goal

pub returns-in-Err : goal.returns-in-Err
unfolding answer_text
returns-in-Err c =
    rw c.in-Err.is (record { written = c.refusal_line.ensures.written; short = λ _. c.refusal_line.ensures.short })

pub returns-in-Ok-None : goal.returns-in-Ok-None
unfolding answer_text
returns-in-Ok-None c =
    let none : c.in-Ok-None.field-0 ≡ no_plan = rw c.in-Ok-None.is at c.in-Ok-None.field-0-is in
    rw (c.in-Ok-None.is, none) (record { written = search fields; short = λ _. no-plan-short })

pub returns-in-Ok-Some : goal.returns-in-Ok-Some
unfolding answer_text
returns-in-Ok-Some c =
    let some : c.in-Ok-Some.field-0 ≡ planned c.in-Ok-Some.counts = rw c.in-Ok-Some.is at c.in-Ok-Some.field-0-is in
    rw (c.in-Ok-Some.is, some) (record { written = c.planned.ensures.written; short = c.planned.ensures.short })
