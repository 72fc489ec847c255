-- A window under way, slot by slot, for the loop of `least::least_inside`.
use Prim.Native.Nat.{ℕ, zero, suc, ◌+◌, ◌-◌, ◌≤◌, ◌<◌, min}
use native.Mathlib.Omega.{arith}
use mathlib.Core.Bool.{Bool, true, false, cond}
use mathlib.Core.List.{List, [], ◌∷◌}
use mathlib.Core.Path.{◌≡◌, refl, sym, ap, ◌∙◌}
use mathlib.Core.Logic.{◌⊎◌, ⊎_elim}
use borrow.Author.Tests.{ne_eqb}
use lib.Dec.{eqb}
use lib.ListN.{length, drop, get_or, drop_of_length-le, length-map, get_or-map}
use Rattle.facts.proofs.Tests.{cond_cases}
use Rattle.facts.proofs.Lists.{uncons}
use Rattle.facts.proofs.Naturals.{min_assoc, suc-sub-one}
use Rattle.rule.specs.Ranges.{Class, allows}
use Rattle.rule.specs.declared.Shape.{Shape}
use Rattle.settings.specs.declared.Settings.{Settings}
use Rattle.settings.specs.Refusals.{limit}
use Rattle.requests.proofs.BestIsLeast.{using_one-capped, best_inside-le, best_inside-no-slots}
use Rattle.requests.specs.Best.{using_one, saturating_suc, best_inside, best_after, best_closable}
use Rattle.rule.specs.ClassCodes.{decode, decode_all}
use Rattle.least.specs.Rows.{RowAfter, extended_by, extended}
use Rattle.requests.specs.Solution.{sentinel}
use Rattle.least.specs.declared.UnderWay.{UnderWay}

-- the classes from a slot on
pub from-slot : (classes : List ℕ) (i : ℕ) → i < length classes →
    drop i (decode_all classes) ≡ decode (get_or classes i 0) ∷ drop (i + 1) (decode_all classes)
from-slot classes i e =
    uncons (decode_all classes) i (decode 0) (omega (arith, e, length-map classes decode))
    ∙ ap (λ c. c ∷ drop (i + 1) (decode_all classes)) (get_or-map decode classes i 0)

module _ (shape : Shape) where
  -- where at most w windows are left, this one included: the least covered count in a window that
  -- continues with r slots and b bridges left, and after a window that closed
  abbrev pub inside_with : (w : ℕ) → List Class → (r b : ℕ) → ℕ
  inside_with w cs r b = using_one sentinel w λ v. best_inside sentinel shape cs r b v

  abbrev pub after_with : (w : ℕ) → List Class → ℕ
  after_with w cs = using_one sentinel w λ v. best_after sentinel shape cs v

  inside_with-le : (w : ℕ) (cs : List Class) (r b : ℕ) → inside_with w cs r b ≤ sentinel
  inside_with-le w cs r b = using_one-capped sentinel (best_inside-le sentinel shape cs r b) w

  -- the count in a window that continues, with one slot more in front, which can be over or not
  abbrev inside_cons : (w : ℕ) (over : Bool) → List Class → (r b : ℕ) → ℕ
  inside_cons w over cs r b =
      saturating_suc sentinel
      (cond over (min (after_with w cs) (inside_with w cs r b)) (using_one sentinel b λ b. inside_with w cs r b))

  inside-cons : (w : ℕ) (c : Class) (cs : List Class) (r b : ℕ) →
      inside_with w (c ∷ cs) (suc r) b ≡ inside_cons w (allows c 2) cs r b
  unfolding best_inside
  inside-cons w c cs r b = by w (allows c 2) b
    where
      by : (w : ℕ) (over : Bool) (b : ℕ) →
          using_one sentinel w (λ v.
          saturating_suc sentinel
          (cond over (best_closable sentinel shape cs r b v)
          (using_one sentinel b λ b. best_inside sentinel shape cs r b v)))
          ≡ inside_cons w over cs r b
      by (suc w) over b = refl
      by zero true b = omega arith
      by zero false zero = omega arith
      by zero false (suc b) = omega arith

  inside_with-no-slots : (w : ℕ) (cs : List Class) (b : ℕ) → inside_with w cs 0 b ≡ sentinel
  inside_with-no-slots zero cs b = refl
  inside_with-no-slots (suc w) cs b = best_inside-no-slots sentinel shape cs b w

  inside-nil : (w r b : ℕ) → inside_with w [] r b ≡ sentinel
  unfolding best_inside
  inside-nil zero r b = refl
  inside-nil (suc w) r b = refl

  -- the least covered count of a window under way: the least found so far, or what it has covered with what is to come
  abbrev total : (w : ℕ) → UnderWay → List Class → ℕ
  total w g cs = min g.least (min sentinel (g.covered + inside_with w cs g.slots g.bridges))

  min-add-distrib : (d x y : ℕ) → min sentinel (d + min x y) ≡ min (min sentinel (d + x)) (min sentinel (d + y))
  min-add-distrib d x y = omega arith

  bridge-total : (l d y : ℕ) → min l (min sentinel (d + saturating_suc sentinel y)) ≡ min l (min sentinel (d + 1 + y))
  bridge-total l d y = omega arith

  over-total : (l d x y : ℕ) →
      min l (min sentinel (d + saturating_suc sentinel (min x y)))
      ≡ min (min l (min sentinel (d + 1 + x))) (min sentinel (d + 1 + y))
  over-total l d x y = bridge-total l d (min x y) ∙ (rw (min-add-distrib (d + 1) x y) (min_assoc l _ _))

  extended-total : (w : ℕ) (g : UnderWay) (c : Class) (cs : List Class) → 1 ≤ g.slots →
      total w (extended g c (after_with w cs)) cs ≡ total w g (c ∷ cs)
  extended-total w g c cs e = by g.slots g.bridges (allows c 2) e (inside-cons w c cs)
    where
      by : (s b : ℕ) (over : Bool) → 1 ≤ s → ((r b : ℕ) → inside_with w (c ∷ cs) (suc r) b ≡ inside_cons w over cs r b) →
          total w (extended_by over s b g.covered g.least (after_with w cs)) cs
          ≡ min g.least (min sentinel (g.covered + inside_with w (c ∷ cs) s b))
      by zero b over e f = absurd (omega arith)
      by (suc r) b true e f =
          rw (suc-sub-one r, f r b) (sym (over-total g.least g.covered (after_with w cs) (inside_with w cs r b)))
      by (suc r) zero false e f = rw (f r 0, inside_with-no-slots w cs 0)
      by (suc r) (suc b) false e f =
          rw (suc-sub-one r, suc-sub-one b, f r (suc b), ne_eqb (suc b) 0 (omega arith))
          (sym (bridge-total g.least g.covered (inside_with w cs r b)))

-- the covered count grows by at most one slot, and the least found never grows
extended-bounded : (over : Bool) (s b d l after : ℕ) →
    ((extended_by over s b d l after).covered ≤ d + 1) × ((extended_by over s b d l after).least ≤ l)
extended-bounded true s b d l after = omega arith
extended-bounded false s b d l after =
    cond_cases (λ (g : UnderWay). (g.covered ≤ d + 1) × (g.least ≤ l)) (eqb b 0) (omega arith) (omega arith)

-- Before slot i, what the window has found and covered, with what is to come, makes the least covered
-- count of the slots from `from` on, in a window that continues there with these slots and bridges left.
module _ (classes after : List ℕ) (from slots bridges : ℕ) where
  abbrev cs : List Class
  cs = decode_all classes

  pub record Scan (g : UnderWay) (i : ℕ) : Type 0 where
    pub covered_le : g.covered ≤ i
    pub least_le : g.least ≤ sentinel
    pub same : (s : Settings) (w : ℕ) → RowAfter s cs w after →
        total s.shape w g (drop i cs) ≡ inside_with s.shape w (drop from cs) slots bridges

  pub scan-start : Scan (record { slots = slots; bridges = bridges; covered = 0; least = sentinel }) from
  scan-start =
      record {
        covered_le = omega arith;
        least_le = omega arith;
        same = λ s w b. omega (arith, inside_with-le s.shape w (drop from cs) slots bridges);
      }

  module _ (g : UnderWay) (i : ℕ) (scan : Scan g i) where
    pub scan_step : i < length classes → i < limit → 1 ≤ g.slots →
        Scan (extended g (decode (get_or classes i 0)) (get_or after (i + 1) 0)) (i + 1)
    scan_step e l r =
        let over = allows (decode (get_or classes i 0)) 2 in
        let (one_more, no_more) =
        extended-bounded over g.slots g.bridges g.covered g.least (get_or after (i + 1) 0) in
        record {
          covered_le = omega (arith, one_more, scan.covered_le);
          least_le = omega (arith, no_more, scan.least_le);
          same = λ s w b.
              rw (b.counts (i + 1) (omega arith))
              (extended-total s.shape w g _ _ r ∙ rw (← from-slot classes i e) (scan.same s w b));
        }

    -- where no slot is left to scan, or none to the window, the least found is the count of a
    -- window that had all its later slots left at the start
    pub scan-end : (length classes ≤ i) ⊎ (g.slots ≡ 0) → (s : Settings) → slots ≡ s.shape.len - 1 → (w : ℕ) →
        RowAfter s cs w after →
        g.least ≡ inside_with s.shape w (drop from cs) (s.shape.len - 1) bridges
    scan-end e s all w b =
        let over : inside_with s.shape w (drop i cs) g.slots g.bridges ≡ sentinel =
        ⊎_elim
        (λ l.
        let none : drop i cs ≡ [] = drop_of_length-le cs {i = i} (omega (arith, l, length-map classes decode)) in
        rw none (inside-nil s.shape w g.slots g.bridges))
        (λ z. rw z (inside_with-no-slots s.shape w (drop i cs) g.bridges))
        e in
        let found : g.least ≡ inside_with s.shape w (drop from cs) slots bridges =
        omega (arith, over, scan.least_le, scan.same s w b) in
        found ∙ ap (λ r. inside_with s.shape w (drop from cs) r bridges) all
