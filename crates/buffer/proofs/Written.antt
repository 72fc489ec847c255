-- Bytes written one after another are one list of bytes.
use Prim.Native.Nat.{ℕ, ◌+◌, ◌-◌, ◌≤◌, ◌<◌, min}
use native.Mathlib.Omega.{arith}
use mathlib.Core.List.{List, [], ◌∷◌, ◌++◌, append_assoc, append-nil, flatten}
use mathlib.Core.Path.{◌≡◌, refl, sym, ap, ◌∙◌}
use lib.ListN.{
  length,
  get_or,
  set,
  take,
  drop,
  length-append,
  length-take,
  length-drop,
  drop_of_length-le,
  take-append-drop,
}
use lib.Seq.{set_out, sets, sets-eq, length-sets}
use Rattle.facts.proofs.Lists.{uncons, sets-front, sets-full, sets-clipped, sets-append}
use Rattle.buffer.specs.Written.{Written}

-- a byte, where it fits and where it does not
module _ (b : ℕ) (out : List ℕ) (place : ℕ) where
  pub written_byte : place < length out → Written (b ∷ []) place out (set out place b) (place + 1)
  written_byte bound = record { stored = refl; ends = omega arith }

  pub written-full : length out ≤ place → Written (b ∷ []) place out out (length out)
  written-full bound = record { stored = sym (set_out out place b bound); ends = omega arith }

-- what would be stored past the end is not missed
stored-fitting : (bytes out : List ℕ) (start n : ℕ) → min (length bytes) (length out - start) ≤ n →
    sets out start (take n bytes) ≡ sets out start bytes
stored-fitting bytes out start n fits =
    let front = sets out start (take n bytes) in
    let none : sets front (start + length (take n bytes)) (drop n bytes) ≡ front =
    sets-full (drop n bytes) front (start + length (take n bytes))
    (omega (arith, length-take n bytes, length-drop n bytes, length-sets out start (take n bytes))) in
    sym none ∙ sets-append (take n bytes) (drop n bytes) out start ∙ rw (take-append-drop n bytes) refl

-- what fits of a text, stored at once
pub written-fitting : {bytes out : List ℕ} {place start n : ℕ} → start ≡ min place (length out) →
    n ≡ min (length bytes) (length out - start) →
    Written bytes place out (take start out ++ (take n bytes ++ drop (start + n) out)) (start + n)
written-fitting {bytes} {out} {place} {start} {n} starts fits =
    let part : length (take n bytes) ≡ n = omega (arith, length-take n bytes) in
    record {
      stored =
          ap (λ m. take start out ++ (take n bytes ++ drop (start + m) out)) (sym part)
          ∙ sym (append_assoc (take start out) (take n bytes) (drop (start + length (take n bytes)) out))
          ∙ sym (sets-eq (take n bytes) out start (omega arith))
          ∙ stored-fitting bytes out start n (omega arith)
          ∙ ap (λ i. sets out i bytes) starts
          ∙ sets-clipped bytes out place;
      ends = omega arith;
    }

pub written-nil : {out : List ℕ} {place : ℕ} → place ≤ length out → Written [] place out out place
written-nil bound = record { stored = refl; ends = omega arith }

pub written-length : {s before after : List ℕ} {p q : ℕ} → Written s p before after q → length after ≡ length before
written-length {s} {before} {after} {p} w = ap length w.stored ∙ length-sets before p s

-- a text that fits is at the front, and the rest of the buffer is as it was
pub written-whole : {s before after : List ℕ} {q : ℕ} → Written s 0 before after q → length s ≤ length before →
    (q ≡ length s) × (after ≡ s ++ drop (length s) before)
written-whole {s} {before} w fits = (omega (arith, w.ends), w.stored ∙ sets-front s before fits)

module _ {s t : List ℕ} {p q r : ℕ} {before between after : List ℕ} where
  pub written-append : Written s p before between q → Written t q between after r → Written (s ++ t) p before after r
  written-append v w =
      let same : length between ≡ length before = written-length v in
      record {
        stored =
            w.stored
            ∙ ap (λ j. sets between j t) (v.ends ∙ ap (min (p + length s)) (sym same))
            ∙ sets-clipped t between (p + length s)
            ∙ ap (λ l. sets l (p + length s) t) v.stored
            ∙ sets-append s t before p;
        ends = omega (arith, length-append s t, v.ends, w.ends);
      }

-- a text in the middle of its writing: to write the rest from `here` on is to write the whole text from `place` on
pub record LeftToWrite (text : List ℕ) (place : ℕ) (before rest : List ℕ) (now : List ℕ) (here : ℕ) : Type 0 where
  pub whole : (after : List ℕ) (end : ℕ) → Written rest here now after end → Written text place before after end

module _ {text : List ℕ} {place : ℕ} {before : List ℕ} where
  pub left-start : LeftToWrite text place before text before place
  left-start = record { whole = λ after end w. w }

  pub left_step : {s t out next : List ℕ} {p q : ℕ} → LeftToWrite text place before (s ++ t) out p →
      Written s p out next q →
      LeftToWrite text place before t next q
  left_step l v = record { whole = λ after end w. l.whole after end (written-append v w) }

  pub left-length : {rest out : List ℕ} {p : ℕ} → LeftToWrite text place before rest out p → length out ≡ length before
  left-length {rest} {out} {p} l =
      sym (length-sets out p rest)
      ∙ written-length (l.whole (sets out p rest) _ (record { stored = refl; ends = refl }))

  -- the bytes of a list, one by one, with a text t after them
  module _ (bytes t : List ℕ) (i : ℕ) {out : List ℕ} {p : ℕ}
      (l : LeftToWrite text place before (drop i bytes ++ t) out p) where
    pub left-byte : {next : List ℕ} {q : ℕ} → i < length bytes → Written (get_or bytes i 0 ∷ []) p out next q →
        LeftToWrite text place before (drop (i + 1) bytes ++ t) next q
    left-byte bound = left_step (rw (uncons bytes i 0 bound) at l)

    pub left_end : length bytes ≤ i → LeftToWrite text place before t out p
    left_end bound = rw (drop_of_length-le bytes bound) at l

-- fields, one after another
module _ (field : List ℕ) {p q : ℕ} {before between : List ℕ} where
  pub written_last : Written field p before between q → Written (flatten (field ∷ [])) p before between q
  unfolding flatten
  written_last v = rw (append-nil field) v

  pub written-more : (fields : List (List ℕ)) {r : ℕ} {after : List ℕ} → Written field p before between q →
      Written (flatten fields) q between after r → Written (flatten (field ∷ fields)) p before after r
  unfolding flatten
  written-more fields v w = written-append v w
