-- An encoded file is read as what it was encoded from (`ReadBack`).
use Prim.Native.Nat.{ℕ, zero, suc, ◌+◌, ◌-◌, ◌*◌, ◌/◌, ◌^◌, ◌≤◌, ◌<◌}
use native.Mathlib.Omega.{arith}
use mathlib.Core.List.{List, [], ◌∷◌, ◌++◌, flatten, flat_map, append_assoc}
use mathlib.Core.Option.{none}
use mathlib.Core.Path.{◌≡◌, refl, sym, ap, ◌∙◌}
use borrow.Author.Tests.{lt-ltb, le-ltb, eq-eqb, ne_eqb}
use lib.IntN.{ℤ, pos, negsuc}
use lib.ListN.{length, take, drop, get_or, length-append}
use lib.Seq.{drop-append-add, drop-drop}
use mir.Syntax.{w32}
use mir.Val.{SFits}
use Rattle.rule.specs.declared.Range.{Range}
use Rattle.refusals.specs.Table.{row, first}
use Rattle.settings.proofs.Accepted.{Accepted, bridges-le}
use Rattle.settings.specs.declared.Settings.{Settings}
use Rattle.form1.specs.Form1.{little_endian, signed, number_at, signed_at, trailer, distance, slots, settings, form}
use Rattle.form1.specs.Form1.{range_of, wrong_size, wrong_end, wrong_form, wrong_slots, wrong_distance, records_missing}
use Rattle.form1.specs.Form1.{stored_settle, file_refusal}
use Rattle.form1.specs.Layout.{bytes, bits, record_bytes, counts_bytes, trailer_bytes, encode, FitRanges}
use Rattle.form1.specs.Layout.{FitSettings, ReadBack}

-- a number that is encoded in bytes and read again is the same number
little-bytes : (size n : ℕ) → n < 256 ^ size → little_endian (bytes size n) ≡ n
unfolding little_endian bytes
little-bytes zero n bound = omega (arith, bound)
little-bytes (suc size) n bound = rw (little-bytes size (n / 256) (omega (arith, bound))) (omega arith)

fits_bits : (z : ℤ) → SFits w32 z → bits z < 256 ^ 4
unfolding bits
fits_bits (pos n) f = let bounded : n < 2147483648 = f.sfits in omega arith
fits_bits (negsuc n) f = omega arith

signed-bits : (z : ℤ) → SFits w32 z → signed (bits z) ≡ z
unfolding signed bits
signed-bits (pos n) f = rw (lt-ltb n 2147483648 f.sfits) refl
signed-bits (negsuc n) f =
    let bounded : n < 2147483648 = f.sfits in
    let again : 4294967296 - suc (4294967295 - n) ≡ n = omega arith in
    rw (le-ltb (4294967295 - n) 2147483648 (omega arith), lt-ltb (4294967295 - n) 4294967296 (omega arith), again) refl

signed_back : (z : ℤ) → SFits w32 z → signed (little_endian (bytes 4 (bits z))) ≡ z
signed_back z f = rw (little-bytes 4 (bits z) (fits_bits z f)) (signed-bits z f)

-- a number that stands after a front part is read from the rest
number_at-append : (size j : ℕ) (front rest : List ℕ) →
    number_at size (length front + j) (front ++ rest) ≡ little_endian (take size (drop j rest))
unfolding number_at
number_at-append size j front rest = rw (drop-append-add front rest j) refl

length-records : (rs : List Range) → length (flat_map record_bytes rs) ≡ 8 * length rs
unfolding flat_map record_bytes bytes
length-records [] = refl
length-records (r ∷ rs) = omega (arith, length-records rs)

-- the bytes from record i on
from-record : (i : ℕ) (rs : List Range) (d : Range) (rest : List ℕ) → i < length rs →
    (more : List ℕ)
    × (drop (8 * i) (flat_map record_bytes rs ++ rest)
    ≡ bytes 4 (bits (get_or rs i d).lowest) ++ (bytes 4 (bits (get_or rs i d).highest) ++ more))
unfolding flat_map record_bytes bytes
from-record zero [] d rest bound = elim bound [ ]
from-record (suc i) [] d rest bound = elim bound [ ]
from-record zero (r ∷ rs) d rest bound = (flat_map record_bytes rs ++ rest, refl)
from-record (suc i) (r ∷ rs) d rest bound =
    let (more, e) = from-record i rs d rest (omega arith) in
    let ahead : 8 * suc i ≡ 8 + 8 * i = omega arith in (
      more,
      ap (λ count. drop count (flat_map record_bytes (r ∷ rs) ++ rest)) ahead
          ∙ sym (drop-drop (8 * i) 8 (flat_map record_bytes (r ∷ rs) ++ rest)) ∙ e,
    )

loads-at : (rs : List Range) (i : ℕ) (d : Range) → i < length rs → FitRanges rs →
    SFits w32 (get_or rs i d).lowest × SFits w32 (get_or rs i d).highest
loads-at [] i d bound _ = elim bound [ ]
loads-at (r ∷ rs) zero d bound (low, high, fits) = (low, high)
loads-at (r ∷ rs) (suc i) d bound (low, high, fits) = loads-at rs i d (omega arith) fits

module _ (note : List ℕ) (rs : List Range) (s : Settings) where
  abbrev file : List ℕ
  file = encode note rs s

  front_length : length (note ++ flat_map record_bytes rs) ≡ length note + 8 * length rs
  front_length = rw (length-append note (flat_map record_bytes rs), length-records rs) refl

  pub encode-length : length file ≡ length note + 8 * length rs + 16
  unfolding encode trailer_bytes flatten counts_bytes bytes
  encode-length = rw (length-append (note ++ flat_map record_bytes rs) (trailer_bytes s (length rs)), front_length) refl

  -- a field of the trailer
  in-trailer : (size j place : ℕ) → place ≡ length note + 8 * length rs + j →
      number_at size place file ≡ little_endian (take size (drop j (trailer_bytes s (length rs))))
  unfolding encode
  in-trailer size j place e =
      ap (λ p. number_at size p file) (e ∙ ap (λ l. l + j) (sym front_length))
      ∙ number_at-append size j (note ++ flat_map record_bytes rs) (trailer_bytes s (length rs))

  field : (j b : ℕ) → little_endian (take 1 (drop j (trailer_bytes s (length rs)))) ≡ b →
      number_at 1 (trailer file + j) file ≡ b
  field j b e = in-trailer 1 j _ (rw encode-length (omega arith)) ∙ e

  module _ (few : length rs ≤ 64) where
    n-read : slots file ≡ length rs
    unfolding slots trailer_bytes flatten counts_bytes bytes little_endian
    n-read = field 2 (length rs) (omega arith)

    back : distance file ≡ 8 * length rs
    unfolding distance trailer_bytes flatten counts_bytes bytes
    back =
        in-trailer 2 0 _ (rw encode-length (omega arith))
        ∙ little-bytes 2 (8 * length rs) (omega arith)

    settings-read : FitSettings s → settings file ≡ s
    unfolding settings signed_at trailer_bytes flatten counts_bytes bytes little_endian
    settings-read f =
        rw (
          in-trailer 4 9 (trailer file + 9) (rw encode-length (omega arith)),
          signed_back s.k f.k,
          field 3 s.shape.len (omega (arith, f.len)),
          field 4 s.shape.h (omega (arith, f.h)),
          field 5 s.windows.least (omega (arith, f.windows)),
          field 6 s.windows.most (omega (arith, f.windows)),
          field 7 s.covered.least (omega (arith, f.covered)),
          field 8 s.covered.most (omega (arith, f.covered)),
        )
        λ i. record {
          k = s.k;
          shape = record { len = s.shape.len; h = s.shape.h; settle = sym f.settle i };
          windows = s.windows;
          covered = s.covered;
        }

    -- a load of a record: m is 0 for the lowest, 4 for the highest
    in-record : (i m place : ℕ) → place ≡ length note + (8 * i + m) →
        signed_at place file ≡ signed
        (little_endian (take 4 (drop m (drop (8 * i) (flat_map record_bytes rs ++ trailer_bytes s (length rs))))))
    unfolding signed_at encode
    in-record i m place e =
        rw (
          e,
          append_assoc note (flat_map record_bytes rs) (trailer_bytes s (length rs)),
          number_at-append 4 (8 * i + m) note (flat_map record_bytes rs ++ trailer_bytes s (length rs)),
          ← drop-drop m (8 * i) (flat_map record_bytes rs ++ trailer_bytes s (length rs)),
        )
        refl

    range-read : FitRanges rs → (i : ℕ) (d : Range) → i < length rs → range_of i file ≡ get_or rs i d
    unfolding range_of bytes
    range-read fits i d bound =
        let (more, e) = from-record i rs d (trailer_bytes s (length rs)) bound in
        let (low, high) = loads-at rs i d bound fits in
        let from : trailer file - distance file ≡ length note = rw (back, encode-length) (omega arith) in
        rw (
          from,
          in-record i 0 (length note + 8 * i) (omega arith),
          in-record i 4 (length note + 8 * i + 4) (omega arith),
          e,
          signed_back (get_or rs i d).lowest low,
          signed_back (get_or rs i d).highest high,
        )
        refl

    passes : 1 ≤ length rs → length file ≤ 4096 → file_refusal file ≡ none
    unfolding file_refusal first row wrong_size wrong_end wrong_form form wrong_slots wrong_distance records_missing
        trailer_bytes flatten counts_bytes bytes little_endian
    passes some short-file =
        rw (
          le-ltb (length file) 16 (rw encode-length (omega arith)),
          le-ltb 4096 (length file) short-file,
          field 13 1 refl,
          field 14 84 refl,
          field 15 67 refl,
          n-read,
          back,
          ne_eqb (length rs) 0 (omega arith),
          le-ltb 64 (length rs) few,
          eq-eqb (8 * length rs) (8 * length rs) refl,
          le-ltb (length file) (16 + 8 * length rs) (rw encode-length (omega arith)),
        )
        refl

pub read_back : ReadBack
read_back note rs s some few short-file loads k-fits =
    record {
      passes = passes note rs s few some short-file;
      all_slots = n-read note rs s few;
      same_settings = settings-read note rs s few k-fits;
      same_ranges = range-read note rs s few loads;
    }

-- accepted settings of fewer than 256 slots fit into the bytes of a trailer, if their settle count is that of all files
pub accepted→fit : (n : ℕ) (s : Settings) → n < 256 → SFits w32 s.k → s.shape.settle ≡ stored_settle →
    Accepted n s → FitSettings s
accepted→fit n s few k settle a =
    record {
      k = k;
      len = omega (arith, a.length);
      h = omega (arith, bridges-le s.shape a.bridges, a.length);
      settle = settle;
      windows = (omega (arith, a.windows), omega (arith, a.windows));
      covered = (omega (arith, a.covered), omega (arith, a.covered));
    }
