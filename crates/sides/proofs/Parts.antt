-- Which parts of an open slot's range are left: the over part where a good window lies round the slot, and the under
-- part where a good gap does, or a good window that has a bridge to spare.
use Prim.Native.Nat.{ℕ, zero, suc, ◌+◌, ◌-◌, ◌≤◌, ◌<◌, min}
use native.Mathlib.Nat.{le_refl, eq-or-lt_of_le}
use native.Mathlib.Omega.{arith}
use mathlib.Core.Bool.{true, false≢true}
use mathlib.Core.List.{List, [], ◌∷◌, ◌++◌}
use mathlib.Core.Logic.{◌↔◌, ◌≢◌, ◌⊎◌, inl, inr, ⊎_elim}
use mathlib.Core.Path.{◌≡◌, refl, sym, ap, ◌∙◌}
use lib.ListN.{length, take, drop, get_or, set, length-take, length-drop, length-set, take-append-drop}
use lib.Seq.{drop-cons, drop-set-add, drop-set-lt, take-set-le, set_split, get_or-drop, get_or-set_same, get_or-set_other}
use Rattle.facts.proofs.Naturals.{trichotomy}
use Rattle.rule.specs.Ranges.{Class, under_only, over_only, either, allows}
use Rattle.rule.specs.Rule.{goes_with}
use Rattle.rule.specs.declared.Shape.{Shape}
use Rattle.requests.proofs.BestIsLeast.{best-antitone}
use Rattle.requests.specs.Best.{clearable, best}
use Rattle.sides.proofs.Mirror.{tiling-clear, best-le-tiling, best-tiling}
use Rattle.sides.proofs.Places.{opens_at, closes_at, tiling→before, before→tiling, best-le-joined, within-reach, window-tiling}
use Rattle.sides.proofs.Reach.{low-le, low→over, reach→}
use Rattle.sides.specs.Reach.{low, lows}
use Rattle.sides.proofs.Tilings.{gap, looser, Around, uncovered, in_window, split}
use Rattle.sides.specs.Sides.{least_before, least_from, GoodWindow, GoodGap, InWindow, InGap}

module _ (T : ℕ) (shape : Shape) where
  pub good-seam : {w n g a x e : ℕ} {cs : List Class} → GoodWindow T shape cs w n g a x e → n < T →
      least_before T shape cs x a + least_from T shape cs x (w - a) ≤ n
  good-seam {cs = cs} k l =
      let t =
      window-tiling T shape k cs refl refl k.begins k.ends (omega (arith, within-reach T shape k)) (le_refl _)
      (omega (arith, k.short)) in
      omega (arith, best-le-tiling T shape t, k.short)

  -- with fewer windows before it, where they cover no more slots, more are left for what comes after it
  pub window-earlier : {w n g a a' x e : ℕ} {cs : List Class} → a ≤ a' →
      least_before T shape cs x a ≤ least_before T shape cs x a' → GoodWindow T shape cs w n g a' x e →
      GoodWindow T shape cs w n g a x e
  window-earlier {w} {a = a} {a'} {e = e} {cs} l f k =
      let after = best-antitone T shape (drop e cs) {w = w - 1 - a'} {w' = w - 1 - a} (omega arith) in
      record {
        order = k.order;
        inside = k.inside;
        begins = k.begins;
        ends = k.ends;
        spare = k.spare;
        reaches = k.reaches;
        clear_before = k.clear_before;
        clear_after = k.clear_after;
        few = omega (arith, k.few);
        short = omega (arith, after, k.short);
      }

  pub gap-earlier : {w n a a' i : ℕ} {cs : List Class} → a ≤ a' →
      least_before T shape cs i a ≤ least_before T shape cs i a' → GoodGap T shape cs w n a' i →
      GoodGap T shape cs w n a i
  gap-earlier {w} {a = a} {a'} {i} {cs} l f k =
      let after = best-antitone T shape (drop i cs) {w = w - a'} {w' = w - a} (omega arith) in
      record {
        inside = k.inside;
        free = k.free;
        clear = k.clear;
        few = omega (arith, k.few);
        short = omega (arith, after, k.short);
      }

apart : {x i g : ℕ} → x ≤ i → (x ≡ i → g ≡ 0) → g ≤ 1 → x + g ≤ i
apart e f l = ⊎_elim (λ s. omega (arith, f s)) (λ o. omega (arith, o)) (eq-or-lt_of_le e)

lows-set : (c : Class) (d : ℕ) (cs : List Class) (i : ℕ) → i < d → i < length cs → low (get_or cs i under_only) ≡ 0 →
    lows (take d (set cs i c)) ≡ low c + lows (take d cs)
lows-set c d [] i e l o = absurd (omega arith)
lows-set c zero (x ∷ cs) i e l o = absurd (omega arith)
lows-set c (suc d) (x ∷ cs) zero e l o = omega arith
lows-set c (suc d) (x ∷ cs) (suc i) e l o = omega (arith, lows-set c d cs i (omega arith) (omega arith) o)

-- slot i, which is open, taken as one of class c: a class that can only be under is a bridge more, and no window begins
-- or ends with it
module _ (c : Class) (cs : List Class) (i : ℕ) (there : i < length cs) (open-slot : get_or cs i under_only ≡ either) where
  abbrev Over : (j : ℕ) → Type 0
  Over j = (allows (get_or (set cs i c) j under_only) 2 ≡ true) ↔
      ((allows (get_or cs j under_only) 2 ≡ true) × (j ≡ i → low c ≡ 0))

  over-here : (j : ℕ) → j ≡ i → Over j
  unfolding allows goes_with
  over-here j s =
      rw (s, get_or-set_same cs i c under_only there, open-slot)
      ((λ m. (refl, (λ _. rw m refl))), (λ m. low→over c (m.1 refl)))

  over-elsewhere : (j : ℕ) → j ≢ i → Over j
  over-elsewhere j n = rw (get_or-set_other cs i j c under_only n) ((λ m. (m, (λ s. absurd (n s)))), (λ m. m.0))

  over-at : (j : ℕ) → Over j
  over-at j =
      ⊎_elim (λ l. over-elsewhere j (omega (arith, l)))
      (⊎_elim (over-here j) (λ l. over-elsewhere j (omega (arith, l)))) (trichotomy j i)

  lows-at : (x d : ℕ) → x ≤ i → i < x + d → lows (take d (drop x (set cs i c))) ≡ low c + lows (take d (drop x cs))
  unfolding allows goes_with
  lows-at x d f g =
      let n : x + (i - x) ≡ i = omega arith in
      let o : low (get_or (drop x cs) (i - x) under_only) ≡ 0 =
      rw (get_or-drop x cs (i - x) under_only, n, open-slot) refl in
      let s : drop x (set cs i c) ≡ set (drop x cs) (i - x) c =
      ap (λ k. drop x (set cs k c)) (sym n) ∙ drop-set-add x cs (i - x) c in
      rw s (lows-set c d (drop x cs) (i - x) (omega arith) (omega (arith, length-drop x cs)) o)

  module _ (T : ℕ) (shape : Shape) where
    -- uncovered, the slot adds nothing
    least_from-open : (b : ℕ) → least_from T shape cs i b ≡ best T shape (drop (suc i) cs) b
    unfolding best allows goes_with
    least_from-open b = rw (drop-cons cs i under_only there, open-slot) refl

    -- what lies round the slot in a tiling
    around→ : {w n : ℕ} → Around shape 0 shape.settle (set cs i c) i w n →
        ((allows c 0 ≡ true) × InGap T shape cs w n i) ⊎ InWindow T shape cs w n (low c) i
    unfolding allows goes_with
    around→ {w} (uncovered {a} {b} r m t u few short) =
        let owed = min r shape.settle in
        let front = rw (take-set-le i cs i c (le_refl i)) at t in
        let back = rw (drop-set-lt (suc i) cs i c (le_refl _)) at u in
        let v = looser shape {p' = owed - 1} back (omega arith) (le_refl _) (le_refl _) (le_refl _) in
        let (clear, least) =
        tiling→before T shape {s = shape.settle - owed} {x = i} cs (omega arith) (omega arith) front in
        let later = best-antitone T shape (drop (suc i) cs) {w = b} {w' = w - a} (omega arith) in
        inl (
          rw (get_or-set_same cs i c under_only there) at m,
          record {
            a = a;
            good =
                record {
                  inside = there;
                  free = rw open-slot refl;
                  clear = record {
                    owed = owed;
                    at_most = omega arith;
                    clear_before = clear;
                    clear_after = tiling-clear shape v;
                  };
                  few = omega arith;
                  short = omega (arith, least, later, best-le-tiling T shape v, least_from-open (w - a), short);
                };
          },
        )
    around→ {w} (in_window {a} {b} x d e s f g o v t u few short) =
        let inside : e ≤ length cs = omega (arith, length-set cs i c) in
        let front = rw (take-set-le x cs i c f) at t in
        let back = rw (drop-set-lt e cs i c g) at u in
        let (begins, first) =
        (over-at x).0 (sym (opens_at x d (set cs i c) (omega arith) (omega arith)) ∙ v.begins) in
        let (ends, last) = (over-at (e - 1)).0 (sym (closes_at x d (set cs i c) (omega arith) s o) ∙ v.ends) in
        let bridges = lows-at x d f (omega arith) in
        let slots : d ≤ suc (shape.len - 1) =
        omega (arith, v.slots, length-take d (drop x (set cs i c)), length-drop x (set cs i c)) in
        let reached =
        reach→ (drop x cs) {b = shape.h - low c} slots (omega (arith, v.bridges, bridges))
        (omega (arith, length-drop x cs)) in
        let (clear, least) = tiling→before T shape {s = shape.settle} {x = x} cs (omega arith) (omega arith) front in
        let later = best-antitone T shape (drop e cs) {w = b} {w' = w - 1 - a} (omega arith) in
        inr
        record {
          a = a;
          x = x;
          e = e;
          left = apart f first (low-le c);
          right = omega (arith, apart {x = i} {i = e - 1} (omega arith) (λ q. last (sym q)) (low-le c));
          good =
              record {
                order = omega arith;
                inside = inside;
                begins = begins;
                ends = ends;
                spare = omega (arith, v.bridges, bridges);
                reaches = omega (arith, reached);
                clear_before = clear;
                clear_after = tiling-clear shape back;
                few = omega arith;
                short = omega (arith, least, later, best-le-tiling T shape back, short);
              };
        }

    module _ {w n : ℕ} (l : n < T) where
      gap→ : allows c 0 ≡ true → InGap T shape cs w n i → best T shape (set cs i c) w ≤ n
      gap→ m p =
          let k = p.good in
          let same = least_from-open (w - p.a) in
          let front =
          before→tiling T shape cs i p.a (omega arith) (le_refl _) (omega arith) k.clear.clear_before
          (omega (arith, k.short)) in
          let back =
          best-tiling T shape {w = w - p.a} (drop (suc i) cs) (omega (arith, k.clear.at_most)) k.clear.clear_after
          (omega (arith, same, k.short)) (le_refl _) in
          best-le-joined T shape front (gap {p = k.clear.owed} m back) (set_split cs i c there) (omega (arith, k.few))
          (omega (arith, same, k.short))

      window→ : InWindow T shape cs w n (low c) i → best T shape (set cs i c) w ≤ n
      window→ p =
          let k = p.good in
          let x = p.x in
          let e = p.e in
          let front =
          before→tiling T shape {r = 0} cs x p.a (omega (arith, k.order, k.inside)) (omega arith) (le_refl _)
          k.clear_before (omega (arith, k.short)) in
          let bridges = lows-at x (e - x) (omega (arith, p.left)) (omega (arith, p.right)) in
          let back =
          window-tiling T shape k (set cs i c) (length-set cs i c) (drop-set-lt e cs i c (omega (arith, p.right)))
          ((over-at x).1 (k.begins, (λ s. omega (arith, p.left))))
          ((over-at (e - 1)).1 (k.ends, (λ s. omega (arith, p.right))))
          (omega (arith, bridges, within-reach T shape k)) (le_refl _) (omega (arith, k.short)) in
          let s : set cs i c ≡ take x cs ++ drop x (set cs i c) =
          rw (← (take-set-le x cs i c (omega (arith, p.left)))) (sym (take-append-drop x (set cs i c))) in
          best-le-joined T shape front back s (omega (arith, k.few)) (omega (arith, k.short))

      left : (best T shape (set cs i c) w ≤ n) ↔
          (((allows c 0 ≡ true) × InGap T shape cs w n i) ⊎ InWindow T shape cs w n (low c) i)
      unfolding clearable
      left = (
        (λ b.
            let t = best-tiling T shape {p = 0} (set cs i c) (omega arith) refl l b in
            around→ (split shape i (omega (arith, length-set cs i c)) t)),
        ⊎_elim (λ g. gap→ g.0 g.1) window→,
      )

module _ (T : ℕ) (shape : Shape) {w n i : ℕ} (cs : List Class) (l : n < T) (there : i < length cs)
    (open-slot : get_or cs i under_only ≡ either) where
  pub over-left : (best T shape (set cs i over_only) w ≤ n) ↔ InWindow T shape cs w n 0 i
  unfolding allows goes_with
  over-left =
      let (to, from) = left over_only cs i there open-slot T shape l in
      ((λ b. ⊎_elim (λ g. absurd (false≢true g.0)) (λ k. k) (to b)), (λ k. from (inr k)))

  pub under_left : (best T shape (set cs i under_only) w ≤ n) ↔ (InGap T shape cs w n i ⊎ InWindow T shape cs w n 1 i)
  unfolding allows goes_with
  under_left =
      let (to, from) = left under_only cs i there open-slot T shape l in
      ((λ b. ⊎_elim (λ g. inl g.1) inr (to b)), (λ k. from (⊎_elim (λ g. inl (refl, g)) inr k)))
