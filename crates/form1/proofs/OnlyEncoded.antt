-- A file that passes the checks is the encoding of what is read from it (`OnlyEncoded`).
use Prim.Native.Nat.{ℕ, zero, suc, ◌+◌, ◌-◌, ◌*◌, ◌/◌, ◌%◌, ◌^◌, ◌≤◌, ◌<◌}
use native.Mathlib.Omega.{arith}
use mathlib.Core.Bool.{Bool, true, false}
use mathlib.Core.List.{List, [], ◌∷◌, ◌++◌, flatten, flat_map, append-nil, append_assoc}
use mathlib.Core.Option.{none}
use mathlib.Core.Path.{◌≡◌, refl, sym}
use borrow.Author.Tests.{lt-ltb}
use lib.Dec.{ltb}
use lib.ListN.{length, take, drop, length-drop, take-append-drop, drop_of_length-le}
use lib.Seq.{drop-drop, take-add}
use Rattle.rule.specs.declared.Range.{Range}
use Rattle.form1.proofs.Tabulate.{length-tabulate}
use Rattle.form1.proofs.WholeFile.{WholeFile, pass→whole}
use Rattle.form1.specs.Form1.{little_endian, signed, number_at, signed_at, trailer, distance, slots, settings, form}
use Rattle.form1.specs.Form1.{range_of, tabulate, file_refusal}
use Rattle.form1.specs.Layout.{bytes, bits, record_bytes, counts_bytes, trailer_bytes, encode, Bytes, OnlyEncoded}

bytes_drop : (i : ℕ) (l : List ℕ) → Bytes l → Bytes (drop i l)
bytes_drop zero l f = f
bytes_drop (suc i) [] f = tt
bytes_drop (suc i) (b ∷ l) (bound, f) = bytes_drop i l f

-- bytes that are read as a number and encoded again are the same bytes
bytes-little : (size : ℕ) (l : List ℕ) → Bytes l → size ≤ length l →
    bytes size (little_endian (take size l)) ≡ take size l
unfolding bytes little_endian
bytes-little zero l f bound = refl
bytes-little (suc size) [] f bound = elim bound [ ]
bytes-little (suc size) (b ∷ l) (byte_fits, f) bound =
    let low : (b + 256 * little_endian (take size l)) % 256 ≡ b = omega arith in
    let rest : (b + 256 * little_endian (take size l)) / 256 ≡ little_endian (take size l) = omega arith in
    rw (low, rest, bytes-little size l f (omega arith)) refl

little-fits : (size : ℕ) (l : List ℕ) → Bytes l → little_endian (take size l) < 256 ^ size
unfolding little_endian
little-fits zero l f = omega arith
little-fits (suc size) [] f = omega (arith, little-fits size [] tt)
little-fits (suc size) (b ∷ l) (byte_fits, f) = omega (arith, little-fits size l f)

bits-signed : (n : ℕ) → n < 256 ^ 4 → bits (signed n) ≡ n
unfolding bits signed
bits-signed n bound = by (ltb n 2147483648) refl
  where
    by : (b : Bool) → ltb n 2147483648 ≡ b → bits (signed n) ≡ n
    by true e = rw e refl
    by false e = rw (e, lt-ltb n 4294967296 (omega arith)) (omega arith)

records-snoc : (rs : List Range) (r : Range) →
    flat_map record_bytes (rs ++ (r ∷ [])) ≡ flat_map record_bytes rs ++ record_bytes r
unfolding flat_map
records-snoc [] r = append-nil (record_bytes r)
records-snoc (q ∷ rs) r = rw (records-snoc rs r) (sym (append_assoc (record_bytes q) (flat_map record_bytes rs) _))

module _ (file : List ℕ) (fits : Bytes file) where
  signed-bytes : (place : ℕ) → place + 4 ≤ length file → bytes 4 (bits (signed_at place file)) ≡ take 4 (drop place file)
  unfolding signed_at number_at
  signed-bytes place bound =
      let front = bytes_drop place file fits in
      rw (bits-signed (little_endian (take 4 (drop place file))) (little-fits 4 (drop place file) front))
      (bytes-little 4 (drop place file) front (rw (length-drop place file) (omega arith)))

  -- the ranges in the records from a place on
  abbrev ranges : (start : ℕ) → ℕ → Range
  ranges start i = record { lowest = signed_at (start + 8 * i) file; highest = signed_at (start + 8 * i + 4) file }

  records-from : (start n : ℕ) → start + 8 * n ≤ length file →
      flat_map record_bytes (tabulate n (ranges start)) ≡ take (8 * n) (drop start file)
  unfolding tabulate flat_map record_bytes
  records-from start zero bound = refl
  records-from start (suc n) bound =
      let place = start + 8 * n in
      let ahead : 8 * suc n ≡ 8 * n + (4 + 4) = omega arith in
      rw (
        records-snoc (tabulate n (ranges start)) _,
        records-from start n (omega arith),
        signed-bytes place (omega arith),
        signed-bytes (place + 4) (omega arith),
        ahead,
        take-add (8 * n) (4 + 4) (drop start file),
        drop-drop (8 * n) start file,
        take-add 4 4 (drop place file),
        drop-drop 4 place file,
      )
      refl

  -- the file from a place on is the bytes of the number there and the rest
  number-then : (size place : ℕ) → place + size ≤ length file →
      drop place file ≡ bytes size (number_at size place file) ++ drop (place + size) file
  unfolding number_at
  number-then size place bound =
      rw (
        bytes-little size (drop place file) (bytes_drop place file fits) (rw (length-drop place file) (omega arith)),
        ← drop-drop size place file,
      )
      (sym (take-append-drop size (drop place file)))

  number_fits : (size place : ℕ) → number_at size place file < 256 ^ size
  unfolding number_at
  number_fits size place = little-fits size (drop place file) (bytes_drop place file fits)

  module _ (pass : file_refusal file ≡ none) where
    abbrev file-is : WholeFile file
    file-is = pass→whole file pass

    -- a field of the trailer, and what follows it
    field-then : (size j : ℕ) → j + size ≤ 16 → drop (trailer file + j) file
        ≡ bytes size (number_at size (trailer file + j) file) ++ drop (trailer file + (j + size)) file
    field-then size j bound =
        let next : trailer file + (j + size) ≡ trailer file + j + size = omega arith in
        rw next (number-then size (trailer file + j) (omega (arith, file-is.long)))

    trailer-encoded : drop (trailer file) file ≡ trailer_bytes (settings file) (slots file)
    unfolding trailer_bytes flatten counts_bytes bytes distance slots settings signed_at form
    trailer-encoded =
        rw (
          number-then 2 (trailer file) (omega (arith, file-is.long)),
          file-is.back,
          field-then 1 2 (omega arith),
          field-then 1 3 (omega arith),
          field-then 1 4 (omega arith),
          field-then 1 5 (omega arith),
          field-then 1 6 (omega arith),
          field-then 1 7 (omega arith),
          field-then 1 8 (omega arith),
          field-then 4 9 (omega arith),
          bits-signed (number_at 4 (trailer file + 9) file) (number_fits 4 (trailer file + 9)),
          field-then 1 13 (omega arith),
          file-is.first_form,
          field-then 1 14 (omega arith),
          field-then 1 15 (omega arith),
          file-is.ends.0,
          file-is.ends.1,
          drop_of_length-le file {i = trailer file + 16} (omega arith),
        )
        refl

pub only_encoded : OnlyEncoded
unfolding encode range_of
only_encoded file fits pass =
    let whole-file = pass→whole file pass in
    let start = trailer file - distance file in
    let end : start + 8 * slots file ≡ trailer file = omega (arith, whole-file.back, whole-file.there) in
    rw (
      length-tabulate (slots file) (λ i. range_of i file),
      records-from file fits start (slots file) (omega (arith, whole-file.back, whole-file.there)),
      ← trailer-encoded file fits pass,
      ← take-add start (8 * slots file) file,
      end,
    )
    (sym (take-append-drop (trailer file) file))
