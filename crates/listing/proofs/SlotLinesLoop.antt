-- The lines of the slots, one by one, up to the end of the shortest list.
use Prim.Native.Nat.{ℕ, ◌+◌, ◌*◌, ◌≤◌, ◌<◌, min}
use native.Mathlib.Numerals.{add-one}
use native.Mathlib.Omega.{arith}
use mathlib.Core.List.{List, [], ◌∷◌, ◌++◌}
use mathlib.Core.Path.{◌≡◌, refl, ap, ◌∙◌}
use lib.IntN.{ℤ, pos}
use lib.ListN.{length, get_or, drop, length-append, length-drop}
use Rattle.std.proofs.Common.{Option, Some, None, Iter, Bor}
use Rattle.std.specs.List.{zip, enumerate_from}
use Rattle.std.specs.Iterator.{Yields}
use Rattle.std.specs.Iterator.Adapters.{zip_first, zip_second, enumerate_source, enumerate_count, enumerate_steps}
use Rattle.std.specs.Slice.Iter.{iter_rest}
use Rattle.std.specs.declared.iter.Enumerate.{Enumerate}
use Rattle.std.specs.declared.iter.Zip.{Zip}
use Rattle.std.proofs.iter.Yields.{fronts}
use Rattle.std.proofs.lemmas.Iterator.{YieldsList, YieldsList-from_slice, YieldsList-from_zip, zips}
use Rattle.std.proofs.lemmas.Iterator.Consumers.{YieldsList-from_enumerate, YieldsList-turn, YieldsList-end}
use Rattle.std.proofs.lemmas.List.FromFn.{length-enumerate_from, get_or-enumerate_from}
use Rattle.std.proofs.lemmas.Slice.Zip.{length-zip, get_or-zip}
use Rattle.std.proofs.lemmas.List.{get_or_default}
use Rattle.facts.proofs.Lists.{uncons}
use Rattle.facts.proofs.Naturals.{min-sub}
use Rattle.settings.specs.Refusals.{limit}
use Rattle.buffer.proofs.Written.{written-length}
use Rattle.listing.proofs.Fields.{adds-nil, adds-append}
use Rattle.listing.specs.Adds.{Adds}
use Rattle.listing.specs.declared.put.Text.{Text}
use Rattle.listing.specs.Text.{slot_line, slot_lines, max_line_length}

abbrev shortest : (lowest highest : List ℤ) (marks : List ℕ) → ℕ
shortest los his ms = min (length los) (min (length his) (length ms))

-- an item of the loop, and its iterator
abbrev Item : Type 0
Item = ℕ × ((Bor ℤ × Bor ℤ) × Bor ℕ)

abbrev Slots : Type 0
Slots = Enumerate (Zip (Zip (Iter ℤ) (Iter ℤ)) (Iter ℕ))

abbrev steps : Slots → Option Item → Slots → Type 0
steps = enumerate_steps (zips (zips fronts fronts) fronts)

slot_lines-nil : (i : ℕ) (los his : List ℤ) (ms : List ℕ) → shortest los his ms ≤ 0 → slot_lines i los his ms ≡ []
unfolding slot_lines
slot_lines-nil i [] his ms e = refl
slot_lines-nil i (lo ∷ los) [] ms e = refl
slot_lines-nil i (lo ∷ los) (hi ∷ his) [] e = refl
slot_lines-nil i (lo ∷ los) (hi ∷ his) (m ∷ ms) e = absurd (omega arith)

module _ (los his : List ℤ) (ms : List ℕ) where
  -- the slots that the loop goes through, each with its number, its ends and its mark
  abbrev slots : List (ℕ × ((ℤ × ℤ) × ℕ))
  slots = enumerate_from 0 (zip (zip los his) ms)

  slots-length : length slots ≡ shortest los his ms
  slots-length = omega (arith, length-enumerate_from 0 (zip (zip los his) ms), length-zip (zip los his) ms, length-zip los his)

  -- what stands at place i of it
  slot_at : (i : ℕ) {n : ℕ} {lo hi : ℤ} {m : ℕ} → i < shortest los his ms →
      ◌≡◌ {A = ℕ × ((ℤ × ℤ) × ℕ)} (n, ((lo, hi), m)) (get_or slots i (n, ((lo, hi), m))) →
      (n ≡ i) × (lo ≡ get_or los i (pos 0)) × (hi ≡ get_or his i (pos 0)) × (m ≡ get_or ms i 0)
  slot_at i {n} {lo} {hi} {m} inside e =
      let pairs = length-zip los his in
      let is = e
      ∙ get_or-enumerate_from 0 (zip (zip los his) ms) i (n, ((lo, hi), m)) (omega (arith, pairs, length-zip (zip los his) ms))
      ∙ ap (λ (s : (ℤ × ℤ) × ℕ). (0 + i, s)) (get_or-zip (zip los his) ms i ((lo, hi), m) (omega (arith, pairs)) (omega arith))
      ∙ ap (λ (s : ℤ × ℤ). (0 + i, (s, get_or ms i m))) (get_or-zip los his i (lo, hi) (omega arith) (omega arith)) in (
        ap (λ s. s.0) is ∙ omega arith,
        ap (λ s. s.1.0.0) is ∙ get_or_default los i lo (pos 0) (omega arith),
        ap (λ s. s.1.0.1) is ∙ get_or_default his i hi (pos 0) (omega arith),
        ap (λ s. s.1.1) is ∙ get_or_default ms i m 0 (omega arith),
      )

  module _ (s : Slots)
      (first : iter_rest (zip_first (zip_first (enumerate_source s))) ≡ los)
      (second : iter_rest (zip_second (zip_first (enumerate_source s))) ≡ his)
      (third : iter_rest (zip_second (enumerate_source s)) ≡ ms)
      (count : enumerate_count s ≡ 0) where
    goes : YieldsList steps (λ p. (p.0, ((p.1.0.0.now, p.1.0.1.now), p.1.1.now))) s slots
    goes =
        YieldsList-from_enumerate
        (YieldsList-from_zip (YieldsList-from_zip (YieldsList-from_slice los first) (YieldsList-from_slice his second))
        (YieldsList-from_slice ms third))
        count

    -- a turn of the loop after the items xs, and its end
    module _ (xs : List Item) (t u : Slots) (r : Option Item) (y : Yields steps s xs t) (p : steps t r u) where
      pub slots_turn : {n : ℕ} {lo hi : Bor ℤ} {m : Bor ℕ} → r ≡ Some (n, ((lo, hi), m)) → let i = length xs in
          (i < shortest los his ms) × (n ≡ i) × (lo.now ≡ get_or los i (pos 0)) × (hi.now ≡ get_or his i (pos 0)) × (m.now ≡ get_or ms i 0)
      slots_turn e =
          let (inside, is) = YieldsList-turn goes xs t y r u _ e p in
          let bound : length xs < shortest los his ms = omega (arith, slots-length) in
          let (n, lo, hi, m) = slot_at (length xs) bound is in
          (bound, n, lo, hi, m)

      pub slots_end : r ≡ None → length xs ≡ shortest los his ms
      slots_end e = (YieldsList-end goes xs t y r u e p).1 ∙ slots-length

  -- the lines of the slots from number i on, and the line of slot i
  abbrev lines_from : ℕ → List ℕ
  lines_from i = slot_lines i (drop i los) (drop i his) (drop i ms)

  abbrev line_at : ℕ → List ℕ
  line_at i = slot_line i (get_or los i (pos 0)) (get_or his i (pos 0)) (get_or ms i 0)

  lines_from-cons : (i : ℕ) → i < shortest los his ms → lines_from i ≡ line_at i ++ lines_from (i + 1)
  unfolding slot_lines
  lines_from-cons i bound =
      rw (uncons los i (pos 0) (omega arith), uncons his i (pos 0) (omega arith), uncons ms i 0 (omega arith), add-one)

  lines_from-length : (i : ℕ) → i < shortest los his ms →
      length (lines_from i) ≡ length (line_at i) + length (lines_from (i + 1))
  lines_from-length i bound = ap length (lines_from-cons i bound) ∙ length-append (line_at i) (lines_from (i + 1))

  -- the lines from slot i on are left to write, and those before it are within their bound
  pub record SlotsLeft (first : Text) (i : ℕ) (now : Text) : Type 0 where
    pub passed : i ≤ shortest los his ms
    pub left : (last : Text) → Adds (lines_from i) now last → Adds (slot_lines 0 los his ms) first last
    pub inside : now.place ≤ length now.out.now
    pub short : length los ≤ limit → length (slot_lines 0 los his ms) ≤ i * max_line_length + length (lines_from i)

  pub lines_start : {first : Text} → first.place ≤ length first.out.now → SlotsLeft first 0 first
  lines_start bound = record { passed = omega arith; left = λ last w. w; inside = bound; short = λ wide. omega arith }

  module _ {first now : Text} {i : ℕ} (s : SlotsLeft first i now) where
    pub lines_step : {next : Text} → i < shortest los his ms → Adds (line_at i) now next →
        (i < limit → length (line_at i) ≤ max_line_length) → SlotsLeft first (i + 1) next
    lines_step bound w short =
        record {
          passed = omega arith;
          left = λ last v. s.left last (rw (lines_from-cons i bound) (adds-append w v));
          inside = omega (arith, w.written.ends, written-length w.written);
          short = λ wide. omega (arith, s.short wide, lines_from-length i bound, short (omega arith));
        }

    module _ (bound : shortest los his ms ≤ i) where
      ended : lines_from i ≡ []
      ended = slot_lines-nil i (drop i los) (drop i his) (drop i ms) (simp (length-drop, min-sub) (omega arith))

      pub lines_end : Adds (slot_lines 0 los his ms) first now
      lines_end = s.left now (rw ended (adds-nil s.inside))

      pub all_short : length los ≤ limit → length (slot_lines 0 los his ms) ≤ max_line_length * limit
      all_short wide = omega (arith, s.short wide, s.passed, ap length ended)
