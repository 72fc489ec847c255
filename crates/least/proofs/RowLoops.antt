-- Rows, filled from the last slot back to the first, the window counts that they rule out, and the thrift.
use Prim.Native.Nat.{ℕ, zero, suc, ◌+◌, ◌≤◌, ◌<◌, min}
use native.Mathlib.Nat.{le_refl, eq-or-lt_of_le}
use native.Mathlib.Numerals.{add-one}
use native.Mathlib.Omega.{arith}
use mathlib.Core.Bool.{Bool, true, false, cond}
use mathlib.Core.List.{List, []}
use mathlib.Core.Logic.{◌⊎◌, inl, inr, ⊎_elim}
use mathlib.Core.Path.{◌≡◌, refl, sym, ap, subst, ◌∙◌}
use borrow.Author.Tests.{lt-ltb, le-ltb, ltb-true, ltb-false}
use lib.Dec.{ltb}
use lib.ListN.{length, drop, get_or, set, replicate, drop_of_length-le, length-map, length-set, length-replicate}
use lib.ListN.{get_or-replicate}
use lib.Seq.{get_or-set_same, get_or-set_other}
use mir.Val.{bool_byte}
use Rattle.rule.specs.Ranges.{Class}
use Rattle.settings.specs.declared.Settings.{Settings}
use Rattle.settings.specs.Refusals.{limit, places}
use Rattle.rule.proofs.ClassCodes.{can-be-uncovered, cannot-be-uncovered}
use Rattle.requests.proofs.BestIsLeast.{best-antitone}
use Rattle.requests.proofs.LeastCounts.{fewest-is, fewest-le, fewest-longer}
use Rattle.least.proofs.InsideLoop.{from-slot}
use Rattle.requests.specs.Best.{using_one, saturating_suc, best, fewest}
use Rattle.rule.specs.ClassCodes.{decode, decode_all}
use Rattle.least.specs.Rows.{Row, RowAfter, least_from, after_from, inside_from, first_below, thrift_below}
use Rattle.requests.specs.Solution.{sentinel}

module _ (s : Settings) (classes : List ℕ) where
  abbrev cs : List Class
  cs = decode_all classes

  -- the least covered count of the slots from i on, and of all slots, with at most w windows
  abbrev least : (i w : ℕ) → ℕ
  least i w = least_from s cs i w

  abbrev covers : (w : ℕ) → ℕ
  covers w = best sentinel s.shape cs w

  -- a slot that can be uncovered is left so
  pub least-uncovered : (i w next : ℕ) → i < length classes → (get_or classes i 0 ≡ 1 → ⊥) →
      next ≡ least (i + 1) w → next ≡ least i w
  unfolding best
  least-uncovered i w next e n is = rw (from-slot classes i e, can-be-uncovered (get_or classes i 0) n) is

  -- any other opens a window
  module _ (after : List ℕ) (i w : ℕ) (b : RowAfter s cs w after) where
    pub least-opening : (later : ℕ) → i < length classes → i < limit → get_or classes i 0 ≡ 1 →
        later ≡ using_one sentinel w (inside_from s cs (i + 1)) →
        min (min (get_or after (i + 1) 0) later + 1) sentinel ≡ least i w
    unfolding best
    least-opening later e l o is =
        let after_is = b.counts (i + 1) (omega arith) in
        rw (from-slot classes i e, cannot-be-uncovered (get_or classes i 0) o, is, after_is) (by w)
      where
        by : (w : ℕ) → min
            (min (using_one sentinel w (after_from s cs (i + 1))) (using_one sentinel w (inside_from s cs (i + 1))) + 1)
            sentinel
            ≡ saturating_suc sentinel
            (using_one sentinel w λ v. min (after_from s cs (i + 1) v) (inside_from s cs (i + 1) v))
        by zero = omega arith
        by (suc w) = omega arith

  -- a row that is filled from slot i on
  pub record RowFrom (after row : List ℕ) (i : ℕ) : Type 0 where
    pub inside : i ≤ length classes
    pub wide : length row ≡ places
    pub counts : (w : ℕ) → RowAfter s cs w after → (j : ℕ) → i ≤ j → j ≤ limit → get_or row j 0 ≡ least j w

  module _ {after : List ℕ} where
    pub row-start : length classes ≤ limit → RowFrom after (replicate places 0) (length classes)
    unfolding best
    row-start e =
        record {
          inside = le_refl _;
          wide = length-replicate {A = ℕ} places 0;
          counts = λ w b j p q.
              let none : drop j cs ≡ [] = drop_of_length-le cs {i = j} (omega (arith, p, length-map classes decode)) in
              rw none (get_or-replicate places j 0 0 (omega arith));
        }

    pub row_step : (row : List ℕ) (i v : ℕ) {j : ℕ} → length classes ≤ limit → j ≡ i + 1 → RowFrom after row j →
        ((w : ℕ) → RowAfter s cs w after → get_or row (i + 1) 0 ≡ least (i + 1) w → v ≡ least i w) →
        RowFrom after (set row i v) i
    row_step row i v e at g is =
        let f = subst (RowFrom after row) at g in
        record {
          inside = omega (arith, f.inside);
          wide = length-set row i v ∙ f.wide;
          counts = λ w b j p q.
              let here = is w b (f.counts w b (i + 1) (le_refl _) (omega (arith, e, f.inside))) in
              ⊎_elim
              (λ s. rw (← s) (get_or-set_same row i v 0 (omega (arith, e, f.inside, f.wide)) ∙ here))
              (λ l. get_or-set_other row i j v 0 (omega (arith, l)) ∙ f.counts w b j (omega (arith, l)) q)
              (eq-or-lt_of_le p);
        }

    pub row-end : {row : List ℕ} {i : ℕ} → i ≤ 0 → RowFrom after row i → (w : ℕ) →
        RowAfter s cs w after → Row s cs w row
    row-end e f w b = record { wide = f.wide; counts = λ j l. f.counts w b j (omega arith) l }

  abbrev c : ℕ
  c = s.covered.most

  -- after the rows for fewer than v windows: `first` is the first window count with which the
  -- covered maximum is kept, or v
  pub record FirstSoFar (v first : ℕ) : Type 0 where
    pub within : first ≤ v
    pub above_max : (u : ℕ) → u < first → c < covers u
    pub enough : first < v → covers first ≤ c

  first-start : FirstSoFar 0 0
  first-start =
      record { within = omega arith; above_max = λ u l. absurd (omega arith); enough = λ l. absurd (omega arith) }

  first_step : (v first : ℕ) → FirstSoFar v first → FirstSoFar (v + 1) (first + bool_byte (ltb c (covers v)))
  first_step v first p = by (ltb c (covers v)) refl (eq-or-lt_of_le p.within)
    where
      by : (b : Bool) → ltb c (covers v) ≡ b → (first ≡ v) ⊎ (first < v) → FirstSoFar (v + 1) (first + bool_byte b)
      by false e o =
          let same : first + 0 ≡ first = omega arith in
          let within-max = ⊎_elim (λ q. subst (λ u. covers u ≤ c) (sym q) (ltb-false _ _ e)) p.enough o in
          rw same (record { within = omega arith; above_max = p.above_max; enough = λ _. within-max })
      by true e (inl q) =
          record {
            within = omega arith;
            above_max = λ u l.
                let at_most : u ≤ first = omega arith in
                ⊎_elim (λ t. subst (λ u. c < covers u) (sym (t ∙ q)) (ltb-true _ _ e)) (p.above_max u)
                (eq-or-lt_of_le at_most);
            enough = λ l. absurd (omega arith);
          }
      by true e (inr l) =
          let above_max : c < covers v = ltb-true _ _ e in
          absurd (omega (arith, above_max, p.enough l, best-antitone sentinel s.shape cs p.within))

  -- at the end this is the count that `fewest` finds
  first-end : (w first : ℕ) → FirstSoFar w first → first ≡ first_below s cs w
  first-end w first p =
      fewest-is sentinel s.shape cs c w 0 first (omega arith) (omega (arith, p.within))
      (λ u _ l. p.above_max u l) (λ l. p.enough (omega arith))

  -- the thrift with one row more
  pub thrift-step : (v : ℕ) {first thrift count : ℕ} → first ≡ first_below s cs v → thrift ≡ thrift_below s cs v →
      count ≡ covers v → cond (ltb first v) thrift count ≡ covers (first_below s cs v)
  unfolding fewest
  thrift-step zero f t n = rw (f, n) refl
  thrift-step (suc u) f t n = rw (f, t, n) (by _ (fewest-longer sentinel s.shape cs c 0 u))
    where
      by : (v : ℕ) → (v ≡ first_below s cs u) ⊎ (v ≡ 0 + suc u) →
          cond (ltb v (suc u)) (covers (first_below s cs u)) (covers (suc u)) ≡ covers v
      by v (inl e) =
          rw (lt-ltb v (suc u) (omega (arith, e, fewest-le sentinel s.shape cs c 0 u))) (ap covers (sym e))
      by v (inr e) = rw (le-ltb v (suc u) (omega arith)) (ap covers (omega arith))

  -- the row of what comes after a window where v windows are left, the first window count found below v, and the thrift
  pub record RowsSoFar (v : ℕ) (after : List ℕ) (first thrift : ℕ) : Type 0 where
    pub row : RowAfter s cs v after
    pub first_so_far : FirstSoFar v first
    pub thrift_so_far : thrift ≡ thrift_below s cs v

  pub rows_start : length classes ≤ limit → RowsSoFar 0 (replicate places sentinel) 0 sentinel
  rows_start e =
      record {
        row = record {
          wide = length-replicate {A = ℕ} places sentinel;
          counts = λ i l. get_or-replicate places i sentinel 0 (omega arith);
        };
        first_so_far = first-start;
        thrift_so_far = refl;
      }

  pub rows_step : (v first more : ℕ) {thrift thrift' : ℕ} {after row after' : List ℕ} →
      RowsSoFar v after first thrift → ((w : ℕ) → RowAfter s cs w after → Row s cs w row) →
      ((w : ℕ) → Row s cs w row → RowAfter s cs (w + 1) after') → more ≡ bool_byte (ltb c (get_or row 0 0)) →
      thrift' ≡ cond (ltb first v) thrift (get_or row 0 0) → RowsSoFar (v + 1) after' (first + more) thrift'
  rows_step v first more r next mask is kept =
      let row = next v r.row in
      let count = row.counts 0 (omega arith) in
      record {
        row = mask v row;
        first_so_far = rw (is, count) (first_step v first r.first_so_far);
        thrift_so_far =
            rw add-one (kept ∙ thrift-step v (first-end v first r.first_so_far) r.thrift_so_far count);
      }

  pub rows_end : {v w first thrift : ℕ} {after : List ℕ} → v ≡ w → RowsSoFar v after first thrift →
      RowAfter s cs w after × (first ≡ first_below s cs w) × (thrift ≡ thrift_below s cs w)
  rows_end {first = first} {thrift} {after} e r =
      subst (λ v. RowAfter s cs v after × (first ≡ first_below s cs v) × (thrift ≡ thrift_below s cs v)) e
      (r.row, first-end _ first r.first_so_far, r.thrift_so_far)
