-- `card::read` meets its contract: the refusals are tested in their order (`Rows` of `form1`), and a file that passes
-- has all records.
use native.Mathlib.Omega.{arith}
use Rattle.std.proofs.lemmas.Bool.Decides.{nat_tests}
use mathlib.Core.Option.{none}
use mathlib.Core.Path.{◌≡◌, sym, ap, ◌∙◌}
use Rattle.refusals.specs.Answer.{gives}
use Rattle.refusals.proofs.Answer.{handed-up}
use Rattle.form1.proofs.Opening.{rows-refuse, rows_pass}
use Rattle.form1.proofs.WholeFile.{pass→whole}
use Rattle.form1.proofs.Rows.{refuses-early, refuses-last}
use Rattle.form1.specs.Form1.{file_refusal}
use Rattle.form1.specs.Opening.{contents}
use Rattle.card.proofs.ReaderAnswers.{takes, nothing-altered, records-put}
use Rattle.card.specs.Reading.{lent_too_short, read_answer}
use Rattle.card.proofs.read.Goals as goal
use Rattle.card.proofs.read.Goals.{In_ok-contents}

-- where the file passes: none of its refusals applies, and the contents are what its trailer says
known : (c : In_ok-contents) →
    let file = c.args.file.now in
    (file_refusal file ≡ none) × (c.in_ok-contents.contents ≡ contents file)
known c = rows_pass _ c.«open».ensures c.in_ok-contents.was

pub returns-then-lowest-n : goal.returns-then-lowest-n
unfolding read_answer lent_too_short
returns-then-lowest-n c =
    let (pass, is) = known (goal.at.returns-then-lowest-n c).In_ok-contents in
    nothing-altered _ _ _ (refuses-last _ _ _ pass (rw (← ap (λ t. t.n) is) (grind (arith, nat_tests))))

pub fill-requires-clause-start_value : goal.fill-requires-clause-start_value
fill-requires-clause-start_value c =
    let (pass, is) = known (goal.at.fill-requires-clause-start_value c).In_ok-contents in
    let file = pass→whole _ pass in
    let first-record = ap (λ t. t.start) is in
    (first-record, omega (arith, first-record, ap (λ t. t.n) is, file.back, file.there))

pub returns-in_err-contents : goal.returns-in_err-contents
unfolding read_answer
returns-in_err-contents c =
    rw (handed-up _ _ c.from_residual.ensures.1)
    (nothing-altered _ _ _ (refuses-early _ _ _ (rows-refuse _ c.«open».ensures c.in_err-contents.was)))

pub returns : goal.returns
returns c =
    let (pass, is) = known (goal.at.returns c).In_ok-contents in
    records-put _ _ _ _
    (takes _ _ _ pass (rw (← ap (λ t. t.n) is) c.if-lowest-n.false) (rw (← ap (λ t. t.n) is) c.if-highest-n.false)
    ∙ ap (λ t. gives (record { settings = t.settings; n = t.n })) (sym is))
    c.fill.ensures.lowest_after c.fill.ensures.highest_after
