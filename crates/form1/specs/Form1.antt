-- Form 1, the file on the card, as a list of bytes (document 01, "Form 1, on the card").
use Rattle.std.specs.Prelude.{ℕ, zero, suc, ◌+◌, ◌-◌, ◌*◌, Bool, cond, not, ◌||◌, List, [], ◌∷◌, ◌++◌, eqb, ltb, ℤ, pos, ◌-ℤ◌, length, take, drop}
use Rattle.std.proofs.Math.Option.{Option}
use Rattle.rule.specs.declared.Range.{Range}
use Rattle.refusals.specs.Table.{row, first}
use Rattle.refusals.specs.declared.Refusal.{Refusal}
use Rattle.refusals.specs.declared.Refusal.TheVariants.{Size, End, Form, Slots, Distance, Records}
use Rattle.settings.specs.declared.Settings.{Settings}

-- numbers are little-endian
unfoldable pub little_endian : List ℕ → ℕ
little_endian [] = 0
little_endian (b ∷ bs) = b + 256 * little_endian bs

-- every signed number has 32 bits, in two's complement
unfoldable pub signed : ℕ → ℤ
signed n = cond (ltb n 2147483648) (pos n) (pos n -ℤ pos 4294967296)

-- the number that `size` bytes hold, from a place on
unfoldable pub number_at : (size place : ℕ) → List ℕ → ℕ
number_at size place file = little_endian (take size (drop place file))

unfoldable pub signed_at : (place : ℕ) → List ℕ → ℤ
signed_at place file = signed (number_at 4 place file)

-- the place where the trailer, the last 16 bytes, begins
abbrev pub trailer : List ℕ → ℕ
trailer file = length file - 16

-- the trailer's fields, one after the other
unfoldable pub distance : List ℕ → ℕ
distance file = number_at 2 (trailer file) file

unfoldable pub slots : List ℕ → ℕ
slots file = number_at 1 (trailer file + 2) file

-- the settle count of every file, as form 1 has no field for it (document 02, T-06)
abbrev pub stored_settle : ℕ
stored_settle = 1

unfoldable pub settings : List ℕ → Settings
settings file =
    record {
      k = signed_at (trailer file + 9) file;
      shape = record {
        len = number_at 1 (trailer file + 3) file;
        h = number_at 1 (trailer file + 4) file;
        settle = stored_settle;
      };
      windows = record { least = number_at 1 (trailer file + 5) file; most = number_at 1 (trailer file + 6) file };
      covered = record { least = number_at 1 (trailer file + 7) file; most = number_at 1 (trailer file + 8) file };
    }

unfoldable pub form : List ℕ → ℕ
form file = number_at 1 (trailer file + 13) file

-- Before the trailer stand n records of 8 bytes, each the lowest and the highest load of a slot. The distance counts
-- back from the trailer's start to the first record.
unfoldable pub range_of : (slot : ℕ) → List ℕ → Range
range_of slot file =
    record {
      lowest = signed_at (trailer file - distance file + 8 * slot) file;
      highest = signed_at (trailer file - distance file + 8 * slot + 4) file;
    }

-- what comes before the records is a free note
abbrev pub note : List ℕ → List ℕ
note file = take (trailer file - distance file) file

-- what f gives for each number below n, in order
unfoldable pub tabulate : {A : Type 0} (n : ℕ) → (ℕ → A) → List A
tabulate zero f = []
tabulate (suc n) f = tabulate n f ++ (f n ∷ [])

-- 11: fewer than 16 or more than 4,096 bytes
unfoldable pub wrong_size : List ℕ → Bool
wrong_size file = ltb (length file) 16 || ltb 4096 (length file)

-- 12: the last two bytes are not 54 43 (hexadecimal)
unfoldable pub wrong_end : List ℕ → Bool
wrong_end file = not (eqb (number_at 1 (trailer file + 14) file) 84) || not (eqb (number_at 1 (trailer file + 15) file) 67)

-- 13: the form byte is not 1
unfoldable pub wrong_form : List ℕ → Bool
wrong_form file = not (eqb (form file) 1)

-- 14: n is 0 or above 64
unfoldable pub wrong_slots : List ℕ → Bool
wrong_slots file = eqb (slots file) 0 || ltb 64 (slots file)

-- 15: the distance back is not 8 times n
unfoldable pub wrong_distance : List ℕ → Bool
wrong_distance file = not (eqb (distance file) (8 * slots file))

-- 16: fewer than 16 + 8 times n bytes
unfoldable pub records_missing : List ℕ → Bool
records_missing file = ltb (length file) (16 + 8 * slots file)

-- the refusals of the file place (document 01, "Where each refusal is checked") that the reader and the look-up
-- share: 11 to 16
unfoldable pub file_refusal : List ℕ → Option Refusal
file_refusal file =
    first
    (row Size (wrong_size file)
    ∷ row End (wrong_end file)
    ∷ row Form (wrong_form file)
    ∷ row Slots (wrong_slots file)
    ∷ row Distance (wrong_distance file)
    ∷ row Records (records_missing file)
    ∷ [])

-- the same with one row more at the end: 17 for the reader, 19 for the look-up
abbrev pub refusal : (last : Option Refusal) → List ℕ → Option Refusal
refusal last file = first (file_refusal file ∷ last ∷ [])
