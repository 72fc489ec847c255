-- `writer::write` meets its contract: every check comes before the first byte, and what is put then is the file.
use Prim.Native.Nat.{◌+◌, ◌*◌, ◌≤◌}
use native.Mathlib.Omega.{arith}
use mathlib.Core.Bool.{false}
use mathlib.Core.Option.{none}
use mathlib.Core.Path.{◌≡◌, sym}
use lib.ListN.{length}
use Rattle.buffer.proofs.Written.{written-append, written-whole}
use Rattle.buffer.specs.Written.{Written}
use Rattle.refusals.proofs.Answer.{handed-up}
use Rattle.form1.specs.Layout.{encode}
use Rattle.requests.proofs.ChosenIn.{paired-length}
use Rattle.requests.proofs.Formed.{passes→accepted}
use Rattle.requests.specs.Request.{request_refusal}
use Rattle.writer.proofs.WriterAnswers.{file-length, nothing_written, request-refused, settle-refused}
use Rattle.writer.proofs.WriterAnswers.{short-refused, fits→passes, file-written}
use Rattle.writer.specs.Writing.{file_of}
use Rattle.writer.proofs.write.Goals as goal
use Rattle.writer.proofs.write.Goals.{After-put_trailer, In_ok-check_request}

-- where the checks passed: no refusal of the request applies, both slices have one length, and that is at most 64
passed : (c : In_ok-check_request) →
    let args = c.args in
    request_refusal args.settings args.lowest.now args.highest.now false ≡ none
passed c = sym c.in_ok-check_request.ensures

sizes : (c : In_ok-check_request) →
    let args = c.args in
    (length args.highest.now ≡ length args.lowest.now) × (length args.lowest.now ≤ 64)
sizes c = let (pass, wide, _, _) = passes→accepted _ _ _ (passed c) in (wide, pass.slots.1)

size : (c : In_ok-check_request) →
    let args = c.args in
    length (file_of args.settings args.lowest.now args.highest.now) ≡ 16 + 8 * length args.lowest.now
size c =
    let args = c.args in
    file-length args.settings args.lowest.now args.highest.now (sizes c).0

pub returns-in_err-check_request : goal.returns-in_err-check_request
returns-in_err-check_request c =
    rw (handed-up _ _ c.from_residual.ensures.1)
    (nothing_written _ _ _ _ (request-refused _ _ _ _ (sym c.in_err-check_request.ensures)))

pub returns-then-settings-ne-SETTLE : goal.returns-then-settings-ne-SETTLE
returns-then-settings-ne-SETTLE c =
    nothing_written _ _ _ _
    (settle-refused _ _ _ _ (passed (goal.at.returns-then-settings-ne-SETTLE c).In_ok-check_request)
    c.if-settings-ne-SETTLE.true)

pub overflow_add-n : goal.overflow_add-n
overflow_add-n c = record { fits = omega (arith, (sizes (goal.at.overflow_add-n c).In_ok-check_request).1) }

pub returns-then-out-n : goal.returns-then-out-n
returns-then-out-n c =
    let point = (goal.at.returns-then-out-n c).In_ok-check_request in
    nothing_written _ _ _ _
    (short-refused _ _ _ _ (passed point) c.if-settings-ne-SETTLE.false (omega (arith, size point)))

pub overflow_cast-n : goal.overflow_cast-n
overflow_cast-n c = record { fits = omega (arith, (sizes (goal.at.overflow_cast-n c).In_ok-check_request).1) }

-- the records and the trailer are the file
whole : (c : After-put_trailer) → request_refusal c.args.settings c.args.lowest.now c.args.highest.now false ≡ none →
    let args = c.args in
    Written (file_of args.settings args.lowest.now args.highest.now) 0 args.out.now
    c.put_trailer.new.out c.put_trailer.result
unfolding encode
whole c pass =
    let (_, wide, _, _) = passes→accepted _ _ _ pass in
    rw (paired-length _ _ (sym wide))
    (written-append c.put_records-trailer.ensures c.put_trailer.ensures)

pub returns : goal.returns
returns c =
    let point = (goal.at.returns c).In_ok-check_request in
    let args = c.args in
    let fits : length (file_of args.settings args.lowest.now args.highest.now) ≤ length args.out.now
    = omega (arith, size point) in
    let (ends, holds) = written-whole (whole (goal.at.returns c).After-put_trailer (passed point)) fits in
    file-written _ _ _ _ (fits→passes _ _ _ _ (passed point) c.if-settings-ne-SETTLE.false fits) ends holds
