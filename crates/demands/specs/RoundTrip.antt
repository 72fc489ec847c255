-- The writer beside the reader and the filter (document 02, T-01). What the writer stores is the first bytes of the
-- buffer that it leaves, as many as it says.
use Rattle.std.specs.Prelude.{ℕ, ◌≤◌, List, [], ◌++◌, ◌≡◌, ℤ, length, take, drop}
use Rattle.std.specs.Int.{w32}
use Rattle.std.proofs.Common.{SFits}
use Rattle.refusals.specs.Answer.{gives}
use Rattle.settings.specs.declared.Settings.{Settings}
use Rattle.form1.specs.Form1.{note}
use Rattle.form1.specs.Layout.{FitRanges, Bytes}
use Rattle.requests.specs.Request.{paired, request_of, WellFormed}
use Rattle.card.specs.Reading.{reading}
use Rattle.writer.specs.Writing.{writing}

-- the reader takes a file as a request: it gives these settings and n, and puts these loads into the first n places of
-- the lent slices
abbrev pub TakenAs : (file : List ℕ) → Settings → (lowest highest lent-lowest lent-highest : List ℤ) → Type 0
TakenAs file s los his lent-los lent-his =
    reading file lent-los lent-his
    ≡ record {
      answer = gives (record { settings = s; n = length los });
      lowest = los ++ drop (length los) lent-los;
      highest = his ++ drop (length los) lent-his;
    }

-- What is stored is read back as the request, whatever slices of at least n places are lent. That threshold and loads
-- fit into 32 bits is known of every call from their types.
abbrev pub ReadsBack : Type 0
ReadsBack =
    (s : Settings) (los his : List ℤ) (buffer : List ℕ) (size : ℕ) → SFits w32 s.k → FitRanges (paired los his) →
    (writing s los his buffer).answer ≡ gives size →
    (lent-los lent-his : List ℤ) → length los ≤ length lent-los → length los ≤ length lent-his →
    TakenAs (take size (writing s los his buffer).buffer) s los his lent-los lent-his

-- Writing what was read from a file without a note gives that file's bytes, where the buffer has room and the filter
-- does not refuse what was read, lent with any n marks.
abbrev pub WritesBack : Type 0
WritesBack =
    (file : List ℕ) (s : Settings) (los his lent-los lent-his : List ℤ) → Bytes file →
    TakenAs file s los his lent-los lent-his → note file ≡ [] →
    (ms buffer : List ℕ) → length ms ≡ length los → WellFormed (request_of s los his ms) →
    length file ≤ length buffer →
    writing s los his buffer ≡ record { answer = gives (length file); buffer = file ++ drop (length file) buffer }

-- Every file that the reader takes as the request has at least the length of the one stored, and is the one stored
-- where it has that length.
abbrev pub Shortest : Type 0
Shortest =
    (s : Settings) (los his : List ℤ) (buffer : List ℕ) (size : ℕ) →
    (writing s los his buffer).answer ≡ gives size →
    (file : List ℕ) (lent-los lent-his : List ℤ) → Bytes file → TakenAs file s los his lent-los lent-his →
    (size ≤ length file) × (length file ≡ size → file ≡ take size (writing s los his buffer).buffer)
