-- With which refusals the writer refuses, what it leaves with each answer, and which requests it stores.
use Prim.Native.Nat.{ℕ, ◌+◌, ◌*◌, ◌≤◌, ◌<◌}
use native.Mathlib.Omega.{arith}
use mathlib.Core.Bool.{false}
use mathlib.Core.List.{List, [], ◌++◌}
use mathlib.Core.Logic.{◌↔◌}
use mathlib.Core.Option.{none, some}
use mathlib.Core.Path.{◌≡◌, refl, sym, ap, ◌∙◌}
use borrow.Author.Tests.{ltb-false, lt-ltb, le-ltb, eqb-true, eq-eqb, ne_eqb, not-false}
use lib.IntN.{ℤ}
use lib.ListN.{length, take, drop}
use lib.Seq.{take_at}
use Rattle.refusals.proofs.Answer.{answer-refuses, answer-gives}
use Rattle.refusals.proofs.Table.{first-none-check, first-none-row}
use Rattle.refusals.specs.Answer.{refuses, gives}
use Rattle.refusals.specs.Table.{row, first}
use Rattle.refusals.specs.declared.Refusal.{Refusal}
use Rattle.refusals.specs.declared.Refusal.TheVariants.{StoredSettle, Buffer}
use Rattle.settings.specs.declared.Settings.{Settings}
use Rattle.settings.proofs.Accepted.{differs_false}
use Rattle.form1.proofs.ReadBack.{encode-length}
use Rattle.form1.specs.Form1.{stored_settle}
use Rattle.requests.proofs.ChosenIn.{paired-length}
use Rattle.requests.specs.Request.{paired, request_of, request_refusal, filter_refusal}
use Rattle.writer.specs.Writing.{file_of, other_settle, buffer_too_short, writer_refusal, write_answer, writing}
use Rattle.writer.specs.Writing.{StoresAccepted}

-- without a mark slice the request is refused as with one of the right length
same-refusal : (s : Settings) (los his : List ℤ) (ms : List ℕ) → length ms ≡ length los →
    filter_refusal (request_of s los his ms) ≡ request_refusal s los his false
unfolding filter_refusal
same-refusal s los his ms same = ap (request_refusal s los his) ((differs_false (length los) (length ms)).1 same)

pub file-length : (s : Settings) (los his : List ℤ) → length his ≡ length los →
    length (file_of s los his) ≡ 16 + 8 * length los
file-length s los his wide =
    omega (arith, encode-length [] (paired los his) s, paired-length los his (sym wide))

module _ (s : Settings) (los his : List ℤ) (buffer : List ℕ) where
  -- the writer refuses with the first refusal that applies, and in no other situation
  pub writer-refuses : (r : Refusal) →
      ((writing s los his buffer).answer ≡ refuses r) ↔ (writer_refusal s los his buffer ≡ some r)
  unfolding writing write_answer
  writer-refuses r = answer-refuses (writer_refusal s los his buffer) _ r

  pub nothing_written : {r : Refusal} → writer_refusal s los his buffer ≡ some r →
      record { answer = refuses r; buffer = buffer } ≡ writing s los his buffer
  unfolding writing write_answer
  nothing_written e = rw e refl

  pub refused-unaltered : (r : Refusal) → (writing s los his buffer).answer ≡ refuses r →
      (writing s los his buffer).buffer ≡ buffer
  unfolding writing
  refused-unaltered r e = rw e refl

  pub file-written : {buffer' : List ℕ} {end : ℕ} → writer_refusal s los his buffer ≡ none →
      end ≡ length (file_of s los his) → buffer' ≡ file_of s los his ++ drop (length (file_of s los his)) buffer →
      record { answer = gives end; buffer = buffer' } ≡ writing s los his buffer
  unfolding writing write_answer
  file-written e ends holds = rw (e, ends, holds) refl

  -- the first refusal is one of the request, or the settle count is another, or the file does not fit
  pub request-refused : {r : Refusal} → request_refusal s los his false ≡ some r →
      writer_refusal s los his buffer ≡ some r
  unfolding writer_refusal first
  request-refused e = rw e refl

  pub settle-refused : request_refusal s los his false ≡ none → (s.shape.settle ≡ stored_settle → ⊥) →
      writer_refusal s los his buffer ≡ some StoredSettle
  unfolding writer_refusal other_settle first row
  settle-refused checked other = rw (checked, ne_eqb s.shape.settle stored_settle other) refl

  pub short-refused : request_refusal s los his false ≡ none → s.shape.settle ≡ stored_settle →
      length buffer < length (file_of s los his) → writer_refusal s los his buffer ≡ some Buffer
  unfolding writer_refusal other_settle buffer_too_short first row
  short-refused checked settle short =
      rw (
        checked,
        eq-eqb s.shape.settle stored_settle settle,
        lt-ltb (length buffer) (length (file_of s los his)) short,
      )
      refl

  -- no refusal applies exactly when none of the request does, the settle count is that of the files, and the file fits
  pub passes→fits : writer_refusal s los his buffer ≡ none →
      (request_refusal s los his false ≡ none) × (s.shape.settle ≡ stored_settle)
      × (length (file_of s los his) ≤ length buffer)
  unfolding writer_refusal other_settle buffer_too_short
  passes→fits e =
      let (checked, e) = first-none-check _ _ e in
      let (settle, e) = first-none-row _ _ _ e in
      (checked, eqb-true _ _ (not-false _ settle), ltb-false _ _ (first-none-row _ _ _ e).0)

  pub fits→passes : request_refusal s los his false ≡ none → s.shape.settle ≡ stored_settle →
      length (file_of s los his) ≤ length buffer → writer_refusal s los his buffer ≡ none
  unfolding writer_refusal other_settle buffer_too_short first row
  fits→passes checked settle fits =
      rw (
        checked,
        eq-eqb s.shape.settle stored_settle settle,
        le-ltb (length buffer) (length (file_of s los his)) fits,
      )
      refl

  -- where a length is given, the request is accepted, and the first bytes of the buffer are its file
  pub stored→buffer : {n : ℕ} → (writing s los his buffer).answer ≡ gives n →
      (writing s los his buffer).buffer ≡ file_of s los his ++ drop n buffer
  unfolding writing
  stored→buffer e = rw e refl

  pub stored→file : {n : ℕ} → (writing s los his buffer).answer ≡ gives n →
      (request_refusal s los his false ≡ none) × (s.shape.settle ≡ stored_settle) × (n ≡ length (file_of s los his))
      × (take n (writing s los his buffer).buffer ≡ file_of s los his)
  unfolding writing write_answer
  stored→file {n} e =
      let (pass, size) = answer-gives _ _ e in
      let (checked, settle, _) = passes→fits pass in
      (checked, settle, size, rw (stored→buffer e) (take_at (file_of s los his) (drop n buffer) n (sym size)))

  pub stored-fits : {n : ℕ} → (writing s los his buffer).answer ≡ gives n → n ≤ length buffer
  unfolding writing write_answer
  stored-fits e = let (pass, size) = answer-gives _ _ e in omega (arith, passes→fits pass)

pub stores_accepted : StoresAccepted
unfolding writing write_answer
stores_accepted s los his buffer ms same = (
  (λ e. rw (same-refusal s los his ms same) (passes→fits s los his buffer (answer-gives _ _ e).0)),
  λ (formed, settle, fits).
      let checked = sym (same-refusal s los his ms same) ∙ formed in
      rw (fits→passes s los his buffer checked settle fits) refl,
)
