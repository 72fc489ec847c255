-- What the sweep has found, in the words of good windows and gaps; and what slots lose by it.
use Prim.Native.Nat.{ℕ, suc, ◌+◌, ◌-◌, ◌≤◌, ◌<◌}
use native.Mathlib.Nat.{eq-or-lt_of_le}
use native.Mathlib.Numerals.{add-one}
use native.Mathlib.Omega.{arith}
use mathlib.Core.Bool.{Bool, true, false, cond, ◌||◌}
use mathlib.Core.List.{List, reverse}
use mathlib.Core.Logic.{◌↔◌, ◌⊎◌, inl, inr, ⊎_elim}
use mathlib.Core.Path.{◌≡◌, refl, ap, subst, ◌∙◌}
use borrow.Author.Tests.{le-leb, leb-true, leb-false, lt-ltb, ltb-true}
use lib.Dec.{leb, ltb}
use lib.ListN.{length, drop, get_or, set, length-reverse}
use Rattle.facts.proofs.Lists.{reverse-at}
use Rattle.facts.proofs.Tests.{bool-ext, or-true}
use Rattle.rule.specs.Ranges.{Class, under_only, over_only, either, allows}
use Rattle.rule.specs.declared.Shape.{Shape}
use Rattle.settings.specs.declared.Settings.{Settings}
use Rattle.requests.specs.Best.{clearable, best}
use Rattle.requests.specs.Solution.{sentinel, possible, loss_of, loss}
use Rattle.sides.proofs.Free.{clear-round-iff}
use Rattle.sides.proofs.Far.{round}
use Rattle.sides.proofs.Parts.{good-seam, window-earlier, gap-earlier, over-left, under_left}
use Rattle.sides.specs.Far.{highest, Furthest}
use Rattle.sides.specs.Sides.{before, least_before, least_from, ClearRound, GoodWindow, GoodGap, InWindow, InGap}
use Rattle.fast.proofs.FillLoop.{Repeats}
use Rattle.fast.specs.Rows.{Row, Ends, LacksFrom}
use Rattle.fast.specs.Sweep.{ReachesWith, Fits, Further, FreeSlots, GapAt, loss_by, under_stays, over_stays}

-- a count under two tests that is below the sentinel passed both
twice-open : {v m u : ℕ} {b c : Bool} → u ≡ cond b (cond c v sentinel) sentinel → m < sentinel → u ≤ m →
    (b ≡ true) × (c ≡ true) × (u ≡ v)
twice-open {b = true} {c = true} e l f = (refl, refl, e)
twice-open {b = true} {c = false} e l f = absurd (omega arith)
twice-open {b = false} e l f = absurd (omega arith)

twice_of : {v : ℕ} {b c : Bool} → b ≡ true → c ≡ true → cond b (cond c v sentinel) sentinel ≡ v
twice_of e f = rw (e, f) refl

turned-at : {A : Type 0} (cs : List A) (x : ℕ) (d : A) → x < length cs →
    get_or (reverse cs) (length cs - suc x) d ≡ get_or cs x d
turned-at cs x d l =
    let place : length cs - (length cs - suc x + 1) ≡ x = omega arith in
    reverse-at cs (length cs - suc x) d (omega arith) ∙ ap (λ i. get_or cs i d) place

module _ (shape : Shape) (cs : List Class) (w n : ℕ) (small : n < sentinel) where
  abbrev window : (g a x e : ℕ) → Type 0
  window g a x e = GoodWindow sentinel shape cs w n g a x e

  -- the furthest ends of windows with fewer than a windows before them
  pub record WindowsFound (g : ℕ) (far : List ℕ) (a : ℕ) : Type 0 where
    pub met : (x : ℕ) → x < length cs → 0 < get_or far x 0 → (a : ℕ) × window g a x (get_or far x 0)
    pub most : (b x e : ℕ) → b < a → window g b x e → e ≤ get_or far x 0

  -- the gaps with at most a windows before them
  pub record GapsFound (gaps : List Bool) (a : ℕ) : Type 0 where
    pub met : (i : ℕ) → i < length cs → get_or gaps i false ≡ true → (a : ℕ) × GoodGap sentinel shape cs w n a i
    pub most : (b i : ℕ) → b ≤ a → GoodGap sentinel shape cs w n b i → get_or gaps i false ≡ true

  -- with a windows before a window, and b after it
  module _ (a b : ℕ) (split : w ≡ a + suc b) {starts ends row : List ℕ} (s : Ends shape (reverse cs) a starts)
      (t : Ends shape cs b ends) (r : Row shape cs (suc b) row) where
    starts-at : (x : ℕ) → x < length cs → get_or starts (length cs - suc x) 0
        ≡ cond (allows (get_or cs x under_only) 2)
        (cond (clearable shape.settle (before cs x)) (least_before sentinel shape cs x a) sentinel) sentinel
    starts-at x l =
        let place : suc (length cs - suc x) ≡ length cs - x = omega arith in
        s.counts (length cs - suc x) (omega (arith, length-reverse cs))
        ∙ rw (turned-at cs x under_only l, place) refl

    ends_at : (x e : ℕ) → x < e → e ≤ length cs → get_or ends (e - 1) 0
        ≡ cond (allows (get_or cs (e - 1) under_only) 2)
        (cond (clearable shape.settle (drop e cs)) (least_from sentinel shape cs e b) sentinel) sentinel
    ends_at x e k l =
        let place : suc (e - 1) ≡ e = omega arith in
        t.counts (e - 1) (omega arith) ∙ rw place refl

    module _ {g : ℕ} {reach : List ℕ} (within : (x : ℕ) → x ≤ length cs → x + get_or reach x 0 ≤ length cs)
        (reached : ReachesWith shape g cs reach) where
      fits→window : {x e : ℕ} → x < length cs → Fits reach starts ends (length cs) n x e → window g a x e
      fits→window {x} {e} l f =
          let inside : e ≤ length cs = omega (arith, f.reaches, within x (omega arith)) in
          let (spare, reaches) = reached.sound x e l f.order f.reaches in
          let rest : w - 1 - a ≡ b = omega arith in
          let first : get_or starts (length cs - suc x) 0 ≤ n = omega (arith, f.short) in
          let last : get_or ends (e - 1) 0 ≤ n = omega (arith, f.short) in
          let (begins, clear_before, before) = twice-open (starts-at x l) small first in
          let (ends, clear_after, after) = twice-open (ends_at x e f.order inside) small last in
          record {
            order = f.order;
            inside = inside;
            begins = begins;
            ends = ends;
            spare = spare;
            reaches = reaches;
            clear_before = clear_before;
            clear_after = clear_after;
            few = omega arith;
            short = rw rest (omega (arith, before, after, f.short));
          }

      window→fits : {x e : ℕ} → x < length cs → window g a x e → Fits reach starts ends (length cs) n x e
      window→fits {x} {e} l k =
          let rest : w - 1 - a ≡ b = omega arith in
          let start = starts-at x l ∙ twice_of k.begins k.clear_before in
          let end = ends_at x e k.order k.inside ∙ twice_of k.ends k.clear_after in
          record {
            order = k.order;
            reaches = reached.all x e l k.spare k.reaches;
            short = rw (start, end) (rw rest at k.short);
          }

      -- where a good window begins, the counts of both sides fit together
      seam : {x e : ℕ} → x < length cs → window g a x e → get_or starts (length cs - suc x) 0 + get_or row x 0 ≤ n
      seam {x} l k =
          let rest : w - a ≡ suc b = omega arith in
          let start = starts-at x l ∙ twice_of k.begins k.clear_before in
          rw (start, r.counts x (omega arith)) (rw rest at (good-seam sentinel shape k small))

      pub windows-step : {far far' : List ℕ} →
          ((x : ℕ) → x < length cs → Further reach starts ends row (length cs) n x (get_or far x 0) (get_or far' x 0)) →
          WindowsFound g far a → WindowsFound g far' (suc a)
      windows-step {far} {far'} further f = record { met = met; most = most }
        where
          met : (x : ℕ) → x < length cs → 0 < get_or far' x 0 → (a : ℕ) × window g a x (get_or far' x 0)
          met x l e =
              ⊎_elim
              (λ same.
              let (b, good) = f.met x l (omega arith) in
              (b, subst (λ e. window g b x e) same good))
              (λ more. (a, fits→window l ((further x l).met more))) (eq-or-lt_of_le (further x l).no_nearer)

          most : (b x e : ℕ) → b < suc a → window g b x e → e ≤ get_or far' x 0
          most b x e m good =
              let l : x < length cs = omega (arith, good.order, good.inside) in
              let at_most : b ≤ a = omega arith in
              ⊎_elim
              (λ same.
              let here = subst (λ b. window g b x e) same good in
              (further x l).furthest e (seam l here) (window→fits l here))
              (λ fewer. omega (arith, f.most b x e fewer good, (further x l).no_nearer)) (eq-or-lt_of_le at_most)

  -- with a windows before a gap, and b after it
  module _ (a b : ℕ) (split : w ≡ a + b) {turned lacks turned_lacks row : List ℕ} {free : List Bool}
      (r : Row shape (reverse cs) a turned) (t : Row shape cs b row)
      (p : LacksFrom shape.settle (reverse cs) turned_lacks) (q : LacksFrom shape.settle cs lacks)
      (frees : FreeSlots shape.settle cs turned_lacks lacks free) where
    clear-iff : (i : ℕ) → i < length cs → ClearRound shape.settle (before cs i) (drop (suc i) cs)
        ↔ (get_or turned_lacks (length cs - i) 0 + get_or lacks (i + 1) 0 ≤ suc shape.settle)
    clear-iff i l =
        rw (← (add-one i))
        (clear-round-iff (p.counts (length cs - i) (omega (arith, length-reverse cs)))
        (q.counts (i + 1) (omega arith)))

    gap→good : {i : ℕ} → i < length cs → GapAt free turned row (length cs) n i → GoodGap sentinel shape cs w n a i
    gap→good {i} l (is_free, short) =
        let (can, lacking) = (frees.exactly i l).0 is_free in
        let rest : w - a ≡ b = omega arith in
        record {
          inside = l;
          free = can;
          clear = (clear-iff i l).1 lacking;
          few = omega arith;
          short =
              rw rest (rw (r.counts (length cs - i) (omega (arith, length-reverse cs)), t.counts i (omega arith))
              at short);
        }

    good→gap : {i : ℕ} → GoodGap sentinel shape cs w n a i → GapAt free turned row (length cs) n i
    good→gap {i} k =
        let l = k.inside in
        let rest : w - a ≡ b = omega arith in (
          (frees.exactly i l).1 (k.free, (clear-iff i l).0 k.clear),
          rw (r.counts (length cs - i) (omega (arith, length-reverse cs)), t.counts i (omega arith))
              (rw rest at k.short),
        )

    module _ (gaps gaps' : List Bool) (found : (i : ℕ) → i < length cs →
        (get_or gaps' i false ≡ true) ↔ ((get_or gaps i false ≡ true) ⊎ GapAt free turned row (length cs) n i))
        (earlier-met : (i : ℕ) → i < length cs → get_or gaps i false ≡ true → (a : ℕ) × GoodGap sentinel shape cs w n a i)
        (earlier-most : (c i : ℕ) → c < a → GoodGap sentinel shape cs w n c i → get_or gaps i false ≡ true) where
      pub gaps-step : GapsFound gaps' a
      gaps-step =
          record {
            met = λ i l e. ⊎_elim (earlier-met i l) (λ g. (a, gap→good l g)) ((found i l).0 e);
            most = λ c i m good.
                let l = good.inside in
                (found i l).1
                (⊎_elim (λ s. inr (good→gap (subst (λ c. GoodGap sentinel shape cs w n c i) s good)))
                (λ k. inl (earlier-most c i k good)) (eq-or-lt_of_le m));
          }

  -- from the number of windows on at which the rows before slots repeat, nothing new is found
  module _ {a : ℕ} (rep : Repeats shape (reverse cs) a) where
    before_same : (x b : ℕ) → a ≤ suc b →
        least_before sentinel shape cs x rep.before ≤ least_before sentinel shape cs x b
    before_same x b l =
        omega (arith, rep.same b (omega (arith, rep.is)) (length cs - x) (omega (arith, length-reverse cs)))

    pub windows-steady : {g : ℕ} {far : List ℕ} → WindowsFound g far a → WindowsFound g far w
    windows-steady {g} {far} f = record { met = f.met; most = most }
      where
        most : (b x e : ℕ) → b < w → window g b x e → e ≤ get_or far x 0
        most b x e l good = by (leb a b) refl
          where
            by : (t : Bool) → leb a b ≡ t → e ≤ get_or far x 0
            by true t =
                f.most rep.before x e (omega (arith, rep.is))
                (window-earlier sentinel shape (omega (arith, leb-true a b t, rep.is))
                (before_same x b (omega (arith, leb-true a b t))) good)
            by false t = f.most b x e (leb-false a b t) good

    pub gaps-steady : {gaps : List Bool} → GapsFound gaps a → GapsFound gaps w
    gaps-steady {gaps} f = record { met = f.met; most = most }
      where
        most : (b i : ℕ) → b ≤ w → GoodGap sentinel shape cs w n b i → get_or gaps i false ≡ true
        most b i l good = by (leb a b) refl
          where
            by : (t : Bool) → leb a b ≡ t → get_or gaps i false ≡ true
            by true t =
                f.most rep.before i (omega (arith, rep.is))
                (gap-earlier sentinel shape (omega (arith, leb-true a b t, rep.is))
                (before_same i b (omega (arith, leb-true a b t))) good)
            by false t = f.most b i (omega (arith, leb-false a b t)) good

  -- at the end
  furthest : {g : ℕ} {far : List ℕ} → WindowsFound g far w → Furthest sentinel shape cs w n g (λ x. get_or far x 0)
  furthest f = record { met = f.met; most = λ a x e good. f.most a x e good.few good }

  module _ (i : ℕ) (there : i < length cs) (slot : get_or cs i under_only ≡ either) where
    pub over-by-far : {far : List ℕ} → WindowsFound 0 far w →
        leb (best sentinel shape (set cs i over_only) w) n ≡ over_stays far i
    over-by-far {far} f =
        let here : i + 0 ≡ i = omega arith in
        let all : suc i - 0 ≡ suc i = omega arith in
        let (to, from) = round sentinel shape cs {i = i} there (furthest f) in
        let (left→, left←) = over-left sentinel shape {w = w} {n = n} {i = i} cs small there slot in
        bool-ext _ _
        (λ e. lt-ltb _ _ (rw (here, all) at (to (left→ (leb-true _ _ e)))))
        (λ e. le-leb _ _ (left← (from (rw (here, all) (ltb-true _ _ e)))))

    pub under-by-gaps : {bridged : List ℕ} {gaps : List Bool} → WindowsFound 1 bridged w → GapsFound gaps w →
        leb (best sentinel shape (set cs i under_only) w) n ≡ under_stays gaps bridged i
    under-by-gaps {bridged} {gaps} f g =
        let before : suc i - 1 ≡ i = omega arith in
        let (to, from) = round sentinel shape cs {i = i} there (furthest f) in
        let (left→, left←) = under_left sentinel shape {w = w} {n = n} {i = i} cs small there slot in
        bool-ext _ _
        (λ e.
        ⊎_elim (λ p. rw (g.most p.a i p.good.few p.good) refl)
        (λ p. or-true (get_or gaps i false) (lt-ltb _ _ (rw before at (to p)))) (left→ (leb-true _ _ e)))
        (λ e. le-leb _ _ (left← (by (λ l. from (rw before l)) (get_or gaps i false) refl e)))
      where
        by : (i + 1 < highest (λ x. get_or bridged x 0) i → InWindow sentinel shape cs w n 1 i) →
            (b : Bool) → get_or gaps i false ≡ b → (b || ltb (i + 1) (highest (λ x. get_or bridged x 0) i)) ≡ true →
            InGap sentinel shape cs w n i ⊎ InWindow sentinel shape cs w n 1 i
        by from true t e = let (a, good) = g.met i there t in inl (record { a = a; good = good })
        by from false t e = inr (from (ltb-true _ _ e))

-- what a slot loses, by which parts stay where it is open
pub losses-are : (s : Settings) (cs : List Class) (i : ℕ) {under over : Bool} →
    (get_or cs i under_only ≡ either → possible s (set cs i under_only) ≡ under) →
    (get_or cs i under_only ≡ either → possible s (set cs i over_only) ≡ over) →
    loss_by (get_or cs i under_only) under over ≡ loss s cs i
unfolding loss
losses-are s cs i {under} {over} u o = by (get_or cs i under_only) refl
  where
    by : (c : Class) → get_or cs i under_only ≡ c → loss_by c under over ≡ loss_of s cs i c
    by under_only e = refl
    by over_only e = refl
    by either e = rw (u e, o e) refl
