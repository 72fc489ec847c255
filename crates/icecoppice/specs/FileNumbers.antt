-- The answers of the reader, the look-up and the writer for C, in numbers, and what these promise.
use Rattle.std.specs.Prelude.{ℕ, ◌≤◌, List, ◌≡◌, ℤ, pos}
use Rattle.refusals.specs.Answer.{Answer, refuses, gives}
use Rattle.refusals.specs.Numbers.{number, slot}
use Rattle.refusals.specs.declared.Refusal.{Refusal}
use Rattle.rule.specs.declared.Range.{Range}
use Rattle.settings.specs.declared.Settings.{Settings}
use Rattle.card.specs.Reading.{reading}
use Rattle.card.specs.declared.Header.{Header}
use Rattle.writer.specs.Writing.{writing}
use Rattle.icecoppice.specs.Numbers.{settings_of}
use Rattle.icecoppice.specs.declared.files.FoundNumbers.{FoundNumbers}
use Rattle.icecoppice.specs.declared.files.ReadingNumbers.{ReadingNumbers}
use Rattle.icecoppice.specs.declared.files.WritingNumbers.{WritingNumbers}

abbrev pub reading_numbers : (code n : ℕ) → Settings → ReadingNumbers
reading_numbers code n s =
    record {
      code = code;
      n = n;
      k = s.k;
      len = s.shape.len;
      h = s.shape.h;
      settle = s.shape.settle;
      windows_least = s.windows.least;
      windows_most = s.windows.most;
      covered_least = s.covered.least;
      covered_most = s.covered.most;
    }

-- the code is 0 for a file that is taken, else the refusal's number, with zeros
abbrev pub header_numbers : Answer Header → ReadingNumbers
header_numbers (refuses r) = reading_numbers (number r) 0 (settings_of (pos 0) 0 0 0 0 0 0 0)
header_numbers (gives header) = reading_numbers 0 header.n header.settings

-- the code is 0 for a slot of the file, else the refusal's number, with zeros
abbrev pub found_numbers : Answer Range → FoundNumbers
found_numbers (refuses r) = record { code = number r; lowest = pos 0; highest = pos 0 }
found_numbers (gives range) = record { code = 0; lowest = range.lowest; highest = range.highest }

-- the code is 0 for a file that is stored, with its length, else the refusal's number; 31 also has its slot
abbrev pub writing_numbers : Answer ℕ → WritingNumbers
writing_numbers (refuses r) = record { code = number r; slot = slot r; length = 0 }
writing_numbers (gives n) = record { code = 0; slot = 0; length = n }

-- The numbers are those of what the reader gives, and the slices hold what it leaves.
pub record ReadsInNumbers (file : List ℕ) (lowest highest : List ℤ) (numbers : ReadingNumbers)
    (lowest' highest' : List ℤ) : Type 0 where
  pub is : numbers ≡ header_numbers (reading file lowest highest).answer
  pub lowest_left : lowest' ≡ (reading file lowest highest).lowest
  pub highest_left : highest' ≡ (reading file lowest highest).highest

-- The numbers are those of what the writer gives, and the buffer holds what it leaves.
pub record WritesInNumbers (s : Settings) (lowest highest : List ℤ) (buffer : List ℕ) (numbers : WritingNumbers)
    (buffer' : List ℕ) : Type 0 where
  pub is : numbers ≡ writing_numbers (writing s lowest highest buffer).answer
  pub buffer_left : buffer' ≡ (writing s lowest highest buffer).buffer

-- What a caller can tell from a code (proofs/CodeMeans.antt): 0 is an answer, any other number the refusal's.
pub record CodeMeans {A : Type 0} (a : Answer A) (code : ℕ) : Type 0 where
  pub given : (x : A) → a ≡ gives x → code ≡ 0
  pub refused : (r : Refusal) → a ≡ refuses r → (code ≡ number r) × (11 ≤ code)
