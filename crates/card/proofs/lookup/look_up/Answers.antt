-- `card::lookup::look_up` meets its contract: the refusals are tested in their order (`Rows` of `form1`), and a file
-- that passes has the record.
use Prim.Native.Nat.{◌+◌, ◌*◌, ◌≤◌, ◌<◌}
use native.Mathlib.Omega.{arith}
use mathlib.Core.Option.{none}
use mathlib.Core.Path.{◌≡◌, sym, ap}
use borrow.Author.Tests.{le-leb, lt-leb}
use lib.ListN.{length}
use Rattle.refusals.proofs.Answer.{handed-up}
use Rattle.form1.proofs.Opening.{rows-refuse, rows_pass, slot_at}
use Rattle.form1.proofs.WholeFile.{pass→whole}
use Rattle.form1.proofs.Rows.{refuses-early, refuses-last, gives-asked}
use Rattle.form1.specs.Form1.{file_refusal}
use Rattle.form1.specs.Opening.{contents}
use Rattle.card.specs.LookUp.{no_slot, looking}
use Rattle.card.proofs.lookup.look_up.Goals as goal
use Rattle.card.proofs.lookup.look_up.Goals.{In_ok-contents}

-- where the file passes: none of its refusals applies, and the contents are what its trailer says
known : (c : In_ok-contents) →
    let file = c.args.file.now in
    (file_refusal file ≡ none) × (c.in_ok-contents.contents ≡ contents file)
known c = rows_pass _ c.«open».ensures c.in_ok-contents.was

pub returns-then-contents-slot : goal.returns-then-contents-slot
unfolding looking no_slot
returns-then-contents-slot c =
    let n = c.in_ok-contents.contents.n in
    let (pass, is) = known (goal.at.returns-then-contents-slot c).In_ok-contents in
    sym (refuses-last _ _ _ pass
    (rw (← ap (λ t. t.n) is) (le-leb n c.args.slot (omega (arith, c.if-contents-slot.true)))))

-- where the slot is also below n, the file has its record
there : (c : In_ok-contents) → c.args.slot < c.in_ok-contents.contents.n →
    let args = c.args in
    c.in_ok-contents.contents.start + 8 * args.slot + 8 ≤ length args.file.now
there c below =
    let (pass, is) = known c in
    let file = pass→whole _ pass in
    omega (arith, file.back, file.there, ap (λ t. t.n) is, ap (λ t. t.start) is)

pub overflow_mul-slot : goal.overflow_mul-slot
overflow_mul-slot c =
    record { fits = omega (arith, there (goal.at.overflow_mul-slot c).In_ok-contents c.if-contents-slot.false) }

pub overflow_add-contents : goal.overflow_add-contents
overflow_add-contents c =
    record { fits = omega (arith, there (goal.at.overflow_add-contents c).In_ok-contents c.if-contents-slot.false) }

pub returns-in_err-contents : goal.returns-in_err-contents
unfolding looking
returns-in_err-contents c =
    rw (handed-up _ _ c.from_residual.ensures.1) (sym (refuses-early _ _ _ (rows-refuse _ c.«open».ensures c.in_err-contents.was)))

pub returns : goal.returns
unfolding looking no_slot
returns c =
    let file = c.args.file.now in
    let slot = c.args.slot in
    let point = (goal.at.returns c).In_ok-contents in
    let (pass, is) = known point in
    let below = c.if-contents-slot.false in
    rw (c.range_at.ensures, slot_at file slot _ (ap (λ t. t.start + 8 * slot) is) (there point below))
    (sym (gives-asked _ _ _ pass (rw (← ap (λ t. t.n) is) (lt-leb _ slot below))))
