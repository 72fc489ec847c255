-- Form 1 as document 01 lays it out ("Form 1, on the card"): a free note, n records, the trailer. `Form1` reads a
-- file from its end; here a file is encoded from its front. The two agree in both directions (proofs/ReadBack.antt,
-- proofs/OnlyEncoded.antt).
use Rattle.std.specs.Prelude.{ℕ, zero, suc, ◌-◌, ◌*◌, ◌/◌, ◌%◌, ◌≤◌, ◌<◌, ◌≡◌, ℤ, pos, negsuc, length, get_or}
use mathlib.Core.List.{List, [], ◌∷◌, ◌++◌, flatten, flat_map}
use Rattle.std.proofs.Math.Option.{none}
use Rattle.std.specs.Int.{w32}
use Rattle.std.proofs.Common.{SFits}
use Rattle.rule.specs.declared.Range.{Range}
use Rattle.settings.specs.declared.CountRange.{CountRange}
use Rattle.settings.specs.declared.Settings.{Settings}
use Rattle.form1.specs.Form1.{stored_settle, settings, slots, range_of, note, tabulate, file_refusal}

-- a number in `size` bytes, the least significant first
unfoldable pub bytes : (size n : ℕ) → List ℕ
bytes zero n = []
bytes (suc size) n = n % 256 ∷ bytes size (n / 256)

-- the 32 bits of a signed number
unfoldable pub bits : ℤ → ℕ
bits (pos n) = n
bits (negsuc n) = 4294967295 - n

unfoldable pub record_bytes : Range → List ℕ
record_bytes r = bytes 4 (bits r.lowest) ++ bytes 4 (bits r.highest)

unfoldable pub counts_bytes : CountRange → List ℕ
counts_bytes range = bytes 1 range.least ++ bytes 1 range.most

unfoldable pub trailer_bytes : Settings → (n : ℕ) → List ℕ
trailer_bytes s n =
    flatten
    (bytes 2 (8 * n)
    ∷ bytes 1 n
    ∷ bytes 1 s.shape.len
    ∷ bytes 1 s.shape.h
    ∷ counts_bytes s.windows
    ∷ counts_bytes s.covered
    ∷ bytes 4 (bits s.k)
    ∷ bytes 1 1
    ∷ bytes 1 84
    ∷ bytes 1 67
    ∷ [])

unfoldable pub encode : (note : List ℕ) → List Range → Settings → List ℕ
encode note rs s = note ++ flat_map record_bytes rs ++ trailer_bytes s (length rs)

-- every load fits into 32 bits
abbrev pub FitRanges : List Range → Type 0
FitRanges [] = Unit
FitRanges (r ∷ rs) = SFits w32 r.lowest × SFits w32 r.highest × FitRanges rs

-- every setting fits into its bytes, and the settle count is the one that all files have
pub record FitSettings (s : Settings) : Type 0 where
  pub k : SFits w32 s.k
  pub len : s.shape.len < 256
  pub h : s.shape.h < 256
  pub settle : s.shape.settle ≡ stored_settle
  pub windows : (s.windows.least < 256) × (s.windows.most < 256)
  pub covered : (s.covered.least < 256) × (s.covered.most < 256)

-- every number is a byte
abbrev pub Bytes : List ℕ → Type 0
Bytes [] = Unit
Bytes (b ∷ bs) = (b < 256) × Bytes bs

-- A file that is encoded with 1 to 64 records and has at most 4,096 bytes passes the checks of refusals 11 to 16, and
-- is read as what it was encoded from (`ReadBack`).
pub record ReadAs (file : List ℕ) (rs : List Range) (s : Settings) : Type 0 where
  pub passes : file_refusal file ≡ none
  pub all_slots : slots file ≡ length rs
  pub same_settings : settings file ≡ s
  pub same_ranges : (i : ℕ) (d : Range) → i < length rs → range_of i file ≡ get_or rs i d

abbrev pub ReadBack : Type 0
ReadBack =
    (note : List ℕ) (rs : List Range) (s : Settings) →
    1 ≤ length rs → length rs ≤ 64 → length (encode note rs s) ≤ 4096 → FitRanges rs → FitSettings s →
    ReadAs (encode note rs s) rs s

-- Every file that passes these checks is the encoding of some note and of what is read from it.
abbrev pub OnlyEncoded : Type 0
OnlyEncoded =
    (file : List ℕ) → Bytes file → file_refusal file ≡ none →
    file ≡ encode (note file) (tabulate (slots file) (λ i. range_of i file)) (settings file)
