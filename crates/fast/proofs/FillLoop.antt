-- Rows made one after another into the ring, and the counts that go up with them, for the loop of `fast::ring::fill`.
use Prim.Native.Nat.{ℕ, zero, suc, ◌+◌, ◌≤◌, ◌<◌, min}
use native.Mathlib.Nat.{le_refl, eq-or-lt_of_le}
use native.Mathlib.Numerals.{add-one}
use native.Mathlib.Omega.{arith}
use mathlib.Core.Bool.{Bool, true, false, cond}
use mathlib.Core.List.{List, []}
use mathlib.Core.Logic.{◌⊎◌, ⊎_elim}
use mathlib.Core.Path.{◌≡◌, refl, sym, ap, subst, ◌∙◌}
use borrow.Author.Tests.{leb-true, leb-false}
use lib.Dec.{leb}
use lib.ListN.{length, drop, get_or, set, length-set}
use lib.Seq.{get_or-set_same, get_or-set_other}
use Rattle.rule.specs.ClassCodes.{decode_all}
use Rattle.rule.specs.Ranges.{Class}
use Rattle.rule.specs.declared.Shape.{Shape}
use Rattle.settings.specs.declared.Settings.{Settings}
use Rattle.requests.proofs.LeastCounts.{fewest-is}
use Rattle.requests.specs.Best.{using_one, best}
use Rattle.requests.specs.Solution.{sentinel}
use Rattle.fast.proofs.Steady.{steady}
use Rattle.fast.specs.Found.{or_found, Counted}
use Rattle.fast.specs.Ring.{ring_rows, place_of, row_at, Ring}
use Rattle.fast.specs.Rows.{Row}
use Rattle.fast.specs.declared.ring.Filled.{Filled}
use Rattle.fast.specs.declared.ring.Found.{Found}
use Rattle.fast.specs.declared.ring.RowRing.{RowRing}
use Rattle.fast.specs.declared.slots.Slots.{Slots}

module _ (shape : Shape) (cs : List Class) where
  abbrev covers : (w : ℕ) → ℕ
  covers w = best sentinel shape cs w

  pub row_first : {w : ℕ} {row : List ℕ} → Row shape cs w row → get_or row 0 0 ≡ covers w
  row_first r = r.counts 0 (omega arith)

  -- of the window counts up to v: the first with which at most c slots are covered, or v
  pub record FirstUpTo (c : ℕ) (found : Found) (v : ℕ) : Type 0 where
    within : found.windows ≤ v
    thrift : found.thrift ≡ covers found.windows
    too_few : (u : ℕ) → u < found.windows → c < covers u
    last : c < found.thrift → found.windows ≡ v

  module _ {c : ℕ} where
    first-start : {count : ℕ} → count ≡ covers 0 → FirstUpTo c (record { windows = 0; thrift = count }) 0
    first-start e =
        record { within = le_refl 0; thrift = e; too_few = λ u l. absurd (omega arith); last = λ l. refl }

    first_step : (found : Found) (v count : ℕ) → count ≡ covers (suc v) → FirstUpTo c found v →
        FirstUpTo c (or_found found (suc v) count c) (suc v)
    first_step found v count e f = by (leb found.thrift c) refl
      where
        by : (b : Bool) → leb found.thrift c ≡ b →
            FirstUpTo c (cond b found (record { windows = suc v; thrift = count })) (suc v)
        by true t =
            record {
              within = omega (arith, f.within);
              thrift = f.thrift;
              too_few = f.too_few;
              last = λ l. absurd (omega (arith, leb-true found.thrift c t));
            }
        by false t =
            let over : c < found.thrift = leb-false found.thrift c t in
            record {
              within = le_refl (suc v);
              thrift = e;
              too_few = λ u l.
                  let at_most : u ≤ v = omega arith in
                  ⊎_elim (λ s. subst (λ u. c < covers u) (f.last over ∙ sym s) (rw f.thrift at over))
                  (λ m. f.too_few u (omega (arith, m, f.last over))) (eq-or-lt_of_le at_most);
              last = λ l. refl;
            }

  -- the rows up to row v are in the ring, as far back as it goes
  pub record UpTo (c : ℕ) (rows : List (List ℕ)) (row : List ℕ) (found : Found) (fewer v : ℕ) : Type 0 where
    pub wide : length rows ≡ ring_rows
    pub recent : (u : ℕ) → u ≤ v → v < u + ring_rows → Row shape cs u (row_at rows u)
    pub now : Row shape cs v row
    pub first : FirstUpTo c found v
    pub one_fewer : fewer ≡ using_one sentinel v covers

  pub fill_start : {c : ℕ} (rows : List (List ℕ)) {row : List ℕ} → length rows ≡ ring_rows → Row shape cs 0 row →
      UpTo c (set rows 0 row) row (record { windows = 0; thrift = get_or row 0 0 }) sentinel 0
  fill_start rows {row} wide r =
      record {
        wide = length-set rows 0 row ∙ wide;
        recent = λ u l m.
            let none : u ≡ 0 = omega arith in
            rw (none, get_or-set_same rows 0 row [] (omega (arith, wide))) r;
        now = r;
        first = first-start (row_first r);
        one_fewer = refl;
      }

  -- row v repeats the one before it, and so do all rows after it
  pub record Repeats (v : ℕ) : Type 0 where
    pub before : ℕ
    pub is : v ≡ suc before
    pub same : (u : ℕ) → before ≤ u → (i : ℕ) → i ≤ length cs →
        best sentinel shape (drop i cs) u ≡ best sentinel shape (drop i cs) before

  pub repeats-of : {v : ℕ} {row next : List ℕ} → Row shape cs v row → Row shape cs (suc v) next → next ≡ row →
      Repeats (suc v)
  repeats-of {v} before next same =
      record {
        before = v;
        is = refl;
        same = steady sentinel shape cs v
            (λ i l. sym (next.counts i l) ∙ ap (λ t. get_or t i 0) same ∙ before.counts i l);
      }

  -- one turn of the loop: the next row goes into the ring
  module _ {c : ℕ} {rows : List (List ℕ)} {row next : List ℕ} (found : Found) {fewer v : ℕ}
      (so_far : UpTo c rows row found fewer v) (made : Row shape cs (suc v) next) where
    fill_step : UpTo c (set rows (place_of (suc v)) next) next (or_found found (suc v) (get_or next 0 0) c)
        (get_or row 0 0) (suc v)
    fill_step =
        record {
          wide = length-set rows (place_of (suc v)) next ∙ so_far.wide;
          recent = λ u l m.
              ⊎_elim
              (λ s. rw (s, get_or-set_same rows (place_of (suc v)) next [] (omega (arith, so_far.wide))) made)
              (λ k. rw (get_or-set_other rows (place_of (suc v)) (place_of u) next [] (λ e. absurd (omega arith)))
              (so_far.recent u (omega arith) (omega arith)))
              (eq-or-lt_of_le l);
          now = made;
          first = first_step found v _ (row_first made) so_far.first;
          one_fewer = row_first so_far.now;
        }

    pub fill-turn : {q : ℕ} {found' : Found} → q ≡ place_of (v + 1) →
        found' ≡ or_found found (v + 1) (get_or next 0 0) c →
        UpTo c (set rows q next) next found' (get_or row 0 0) (v + 1)
    fill-turn to e = rw (e, to, add-one v) fill_step

    pub fill-repeats : next ≡ row → Repeats (v + 1)
    fill-repeats same = rw (add-one v) (repeats-of so_far.now made same)

-- the rows and counts at the end, where the last row is the one for w windows, or repeats
module _ (s : Settings) (cs : List Class) {rows : List (List ℕ)} {row : List ℕ} {w : ℕ} (r : Filled)
    (end : UpTo s.shape cs s.covered.most rows row r.found r.fewer r.last) (within : r.last ≤ w) (ended : (r.last ≡ w) ⊎ Repeats s.shape cs r.last) where
  abbrev least : (i w : ℕ) → ℕ
  least i w = best sentinel s.shape (drop i cs) w

  same-least : (u i : ℕ) → r.last ≤ u → u ≤ w → i ≤ length cs → least i u ≡ least i r.last
  same-least u i l m e =
      ⊎_elim
      (λ f.
      let here : u ≡ r.last = omega arith in
      ap (least i) here)
      (λ p. p.same u (omega (arith, p.is)) i e ∙ sym (p.same r.last (omega (arith, p.is)) i e)) ended

  pub fill-ring : Ring s.shape cs w rows r.last
  fill-ring =
      record {
        recent = end.recent;
        repeated = λ u l m.
            record { counts = λ i e. (end.recent r.last (le_refl _) (omega arith)).counts i e ∙ sym (same-least u i l m e) };
      }

  kept : best sentinel s.shape cs w ≤ s.covered.most → r.found.thrift ≤ s.covered.most
  kept e = by (leb r.found.thrift s.covered.most) refl
    where
      by : (b : Bool) → leb r.found.thrift s.covered.most ≡ b → r.found.thrift ≤ s.covered.most
      by true t = leb-true _ _ t
      by false t =
          let over : s.covered.most < r.found.thrift = leb-false _ _ t in
          let at_last = ap (least 0) (end.first.last over) in
          absurd (omega (arith, over, e, end.first.thrift, at_last, same-least w 0 within (le_refl w) (omega arith)))

  fewer-is : r.fewer ≡ using_one sentinel w (best sentinel s.shape cs)
  fewer-is =
      end.one_fewer
      ∙ ⊎_elim (λ e. ap (λ v. using_one sentinel v (best sentinel s.shape cs)) e)
      (λ p. ap (λ v. using_one sentinel v (best sentinel s.shape cs)) p.is ∙ by w p (omega (arith, p.is))) ended
    where
      by : (w : ℕ) (p : Repeats s.shape cs r.last) → suc p.before ≤ w →
          best sentinel s.shape cs p.before ≡ using_one sentinel w (best sentinel s.shape cs)
      by zero p l = absurd (omega arith)
      by (suc w) p l = sym (p.same w (omega arith) 0 (omega arith))

  pub fill-counted : Counted s cs w r
  fill-counted =
      record {
        windows = λ e.
            fewest-is sentinel s.shape cs s.covered.most w 0 r.found.windows (omega arith)
            (omega (arith, end.first.within)) (λ u _ l. end.first.too_few u l)
            (λ l. omega (arith, kept e, end.first.thrift));
        thrift = end.first.thrift;
        fewer = fewer-is;
      }

-- the row for u windows is in the ring
pub ring-row : {shape : Shape} {cs : List Class} {top last : ℕ} {rows : List (List ℕ)} → Ring shape cs top rows last →
    (u : ℕ) → u ≤ top → last < u + ring_rows → Row shape cs u (row_at rows (min u last))
ring-row {shape} {cs} {last = last} {rows} g u e l = by (leb u last) refl
  where
    by : (b : Bool) → leb u last ≡ b → Row shape cs u (row_at rows (min u last))
    by true t =
        let m : min u last ≡ u = omega (arith, leb-true u last t) in
        rw m (g.recent u (leb-true u last t) l)
    by false t =
        let m : min u last ≡ last = omega (arith, leb-false u last t) in
        rw m (g.repeated u (omega (arith, leb-false u last t)) e)

-- the row for as many windows as are left, where the ring has it
pub ring-next : (ring : RowRing) (slots : Slots) {row : List ℕ} → ring.slots.now ≡ slots →
    ring.last < ring.left + ring_rows → row ≡ row_at ring.rows (min ring.left ring.last) →
    Row slots.settings.shape (decode_all slots.classes.now) ring.left row
ring-next ring slots is recent here =
    rw (← is, here) (ring-row ring.made ring.left (le_refl ring.left) recent)

-- the last row is the one for the most windows
pub ring-last : {shape : Shape} {cs : List Class} {top : ℕ} {rows : List (List ℕ)} {last at : ℕ} →
    Ring shape cs top rows last → last ≤ top → at ≡ place_of last → Row shape cs top (get_or rows at [])
ring-last {top = top} g e is = rw is (g.repeated top e (le_refl top))
