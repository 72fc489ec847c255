-- What the writer gives for settings and load ranges (document 02, T-01 and T-06).
use Rattle.std.specs.Prelude.{ℕ, ◌≤◌, Bool, false, not, List, [], ◌∷◌, ◌++◌, ◌↔◌, ◌≡◌, eqb, ltb, ℤ, length, drop}
use Rattle.std.proofs.Math.Option.{Option}
use Rattle.refusals.specs.Answer.{Answer, refuses, gives, answer}
use Rattle.refusals.specs.Table.{row, first}
use Rattle.refusals.specs.declared.Refusal.{Refusal}
use Rattle.refusals.specs.declared.Refusal.TheVariants.{StoredSettle, Buffer}
use Rattle.settings.specs.declared.Settings.{Settings}
use Rattle.form1.specs.Form1.{stored_settle}
use Rattle.form1.specs.Layout.{encode}
use Rattle.requests.specs.Request.{paired, request_of, request_refusal, WellFormed}

-- the file of a request: no note, the load ranges as they are given, the settings as they are given
abbrev pub file_of : Settings → (lowest highest : List ℤ) → List ℕ
file_of s los his = encode [] (paired los his) s

-- 28: the settle count is another than that of form 1's files
unfoldable pub other_settle : (settle : ℕ) → Bool
other_settle settle = not (eqb settle stored_settle)

-- 18: the lent buffer is shorter than the file
unfoldable pub buffer_too_short : (file buffer : List ℕ) → Bool
buffer_too_short file buffer = ltb (length buffer) (length file)

-- Every check of a request comes first, from lengths to slots; 22 is about the highest loads only, since no other slice
-- comes with the lowest. Then 28, and 18.
unfoldable pub writer_refusal : Settings → (lowest highest : List ℤ) (buffer : List ℕ) → Option Refusal
writer_refusal s los his buffer =
    first
    (request_refusal s los his false
    ∷ row StoredSettle (other_settle s.shape.settle)
    ∷ row Buffer (buffer_too_short (file_of s los his) buffer)
    ∷ [])

-- all that comes back: the answer, and what the buffer holds then
pub record WriterOutcome : Type 0 where
  pub answer : Answer ℕ
  pub buffer : List ℕ

abbrev pub outcome_of : Answer ℕ → (buffer : List ℕ) → WriterOutcome
outcome_of r buffer = record { answer = r; buffer = buffer }

-- the first bytes hold the file, and no later byte is altered; on a refusal no byte is altered
abbrev pub stored : Answer ℕ → (file buffer : List ℕ) → List ℕ
stored (refuses r) file buffer = buffer
stored (gives length) file buffer = file ++ drop length buffer

-- the file's length, unless the request or the buffer is refused
unfoldable pub write_answer : Settings → (lowest highest : List ℤ) (buffer : List ℕ) → Answer ℕ
write_answer s los his buffer = answer (writer_refusal s los his buffer) (length (file_of s los his))

unfoldable pub writing : Settings → (lowest highest : List ℤ) (buffer : List ℕ) → WriterOutcome
writing s los his buffer =
    record {
      answer = write_answer s los his buffer;
      buffer = stored (write_answer s los his buffer) (file_of s los his) buffer;
    }

-- A request is stored exactly where the filter, lent as many marks as there are slots, would not refuse it, its settle
-- count is 1, and the buffer has room (proofs/WriterAnswers.antt). So one that has no plan is stored.
abbrev pub StoresAccepted : Type 0
StoresAccepted =
    (s : Settings) (los his : List ℤ) (buffer ms : List ℕ) → length ms ≡ length los →
    ((writing s los his buffer).answer ≡ gives (length (file_of s los his)))
    ↔ (WellFormed (request_of s los his ms) × (s.shape.settle ≡ stored_settle)
    × (length (file_of s los his) ≤ length buffer))
