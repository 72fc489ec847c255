-- Tilings by places: the slots before a place, and windows by their first slot and their end.
use Prim.Native.Nat.{ℕ, zero, suc, ◌+◌, ◌-◌, ◌≤◌, ◌<◌}
use native.Mathlib.Nat.{le_refl}
use native.Mathlib.Omega.{arith}
use mathlib.Core.Bool.{Bool, true, false}
use mathlib.Core.List.{List, [], ◌∷◌, ◌++◌, reverse, reverse-append, reverse-reverse}
use mathlib.Core.Path.{◌≡◌, refl, sym, ap, ◌∙◌}
use lib.ListN.{length, take, drop, get_or, length-take, length-drop, length-reverse, take-append-drop}
use lib.Seq.{drop-append_seam, drop-drop, get_or-drop}
use Rattle.rule.specs.Ranges.{Class, under_only, allows}
use Rattle.rule.specs.declared.Shape.{Shape}
use Rattle.requests.specs.Best.{clearable, best}
use Rattle.sides.proofs.Mirror.{tiling-clear, best-le-tiling, best-tiling, mirror}
use Rattle.sides.proofs.Reach.{reach←}
use Rattle.sides.specs.Reach.{lows, reach}
use Rattle.sides.proofs.Tilings.{opens, closes, Window, Tiling, window, looser, join, turned}
use Rattle.sides.specs.Sides.{before, least_before, least_from, GoodWindow}

before-is : (x : ℕ) (cs : List Class) → x ≤ length cs → before cs x ≡ reverse (take x cs)
before-is x cs e =
    let n : length (reverse (drop x cs)) ≡ length cs - x = length-reverse (drop x cs) ∙ length-drop x cs in
    let s : reverse (drop x cs) ++ reverse (take x cs) ≡ reverse cs =
    sym (reverse-append (take x cs) (drop x cs)) ∙ ap reverse (take-append-drop x cs) in
    rw (n, s) at (drop-append_seam (reverse (drop x cs)) (reverse (take x cs)))

-- the ends of d slots from slot x on
pub opens_at : (x d : ℕ) (cs : List Class) → 0 < d → x < length cs →
    opens (take d (drop x cs)) ≡ allows (get_or cs x under_only) 2
opens_at x d [] o l = absurd (omega arith)
opens_at zero zero (c ∷ cs) o l = absurd (omega arith)
opens_at zero (suc d) (c ∷ cs) o l = refl
opens_at (suc x) d (c ∷ cs) o l = opens_at x d cs o (omega arith)

closes-last : (b : Bool) (k : ℕ) (cs : List Class) → k < length cs →
    closes b (take (suc k) cs) ≡ allows (get_or cs k under_only) 2
closes-last b k [] l = absurd (omega arith)
closes-last b zero (c ∷ cs) l = refl
closes-last b (suc k) (c ∷ cs) l = closes-last (allows c 2) k cs (omega arith)

pub closes_at : (x d : ℕ) (cs : List Class) {e : ℕ} → 0 < d → x + d ≡ e → e ≤ length cs →
    closes false (take d (drop x cs)) ≡ allows (get_or cs (e - 1) under_only) 2
closes_at x d cs {e} o s l =
    let n : d ≡ suc (d - 1) = omega arith in
    let m : x + (d - 1) ≡ e - 1 = omega arith in
    ap (λ k. closes false (take k (drop x cs))) n
    ∙ closes-last false (d - 1) (drop x cs) (omega (arith, length-drop x cs))
    ∙ ap (λ c. allows c 2) (get_or-drop x cs (d - 1) under_only ∙ ap (λ k. get_or cs k under_only) m)

module _ (T : ℕ) (shape : Shape) where
  -- what is counted from the last slot back is what the slots before slot x need
  pub least_before-is : (x a : ℕ) (cs : List Class) → x ≤ length cs →
      least_before T shape cs x a ≡ best T shape (take x cs) a
  least_before-is x a cs e = rw (before-is x cs e) (mirror T shape (take x cs) a)

  -- a tiling of the slots before slot x that owes at most r at its end, in the words of these slots turned round
  pub tiling→before : {r s x a m : ℕ} (cs : List Class) → x ≤ length cs → s ≤ shape.settle - r →
      Tiling shape 0 r (take x cs) a m → (clearable s (before cs x) ≡ true) × (least_before T shape cs x a ≤ m)
  tiling→before {x = x} cs l e t =
      let u = looser shape (turned shape (omega arith) t) e (le_refl _) (le_refl _) (le_refl _) in
      rw (before-is x cs l) (tiling-clear shape u, best-le-tiling T shape u)

  pub before→tiling : {r s : ℕ} (cs : List Class) (x a : ℕ) → x ≤ length cs → shape.settle - r ≤ s →
      s ≤ shape.settle → clearable s (before cs x) ≡ true → least_before T shape cs x a < T →
      Tiling shape 0 r (take x cs) a (least_before T shape cs x a)
  before→tiling cs x a l e f c b =
      let t = turned shape f (best-tiling T shape (before cs x) f c b (le_refl _)) in
      let n : reverse (before cs x) ≡ take x cs = ap reverse (before-is x cs l) ∙ reverse-reverse (take x cs) in
      looser shape (rw n at t) (omega arith) (omega arith) (le_refl _) (le_refl _)

  pub best-le-joined : {p q a b m k w n : ℕ} {xs ys cs : List Class} → Tiling shape 0 p xs a m →
      Tiling shape p q ys b k → cs ≡ xs ++ ys → a + b ≤ w → m + k ≤ n → best T shape cs w ≤ n
  best-le-joined t u s i j = rw s (best-le-tiling T shape (looser shape (join shape t u) (le_refl _) (le_refl _) i j))

  module _ {w n g a x e : ℕ} {cs : List Class} (k : GoodWindow T shape cs w n g a x e) where
    pub within-reach : (e - x ≤ suc (shape.len - 1)) × (g + lows (take (e - x) (drop x cs)) ≤ shape.h)
    within-reach =
        let r : e - x ≤ reach shape g (drop x cs) = omega (arith, k.reaches) in
        let (slots, bridges, inside) = reach← (drop x cs) r in
        (slots, omega (arith, bridges, k.spare))

    -- The window and what comes after it, in slots ds that are the same from slot e on: cs, or cs with a slot of the
    -- window taken as of another class
    pub window-tiling : {m : ℕ} (ds : List Class) → length ds ≡ length cs → drop e ds ≡ drop e cs →
        allows (get_or ds x under_only) 2 ≡ true → allows (get_or ds (e - 1) under_only) 2 ≡ true →
        lows (take (e - x) (drop x ds)) ≤ shape.h → least_from T shape cs e (w - 1 - a) ≤ m → m < T →
        Tiling shape 0 shape.settle (drop x ds) (w - a) (e - x + m)
    window-tiling {m} ds same after begins ends bridges b l =
        let d₁ : 0 < e - x = omega (arith, k.order) in
        let n : x + (e - x) ≡ e = omega (arith, k.order) in
        let inside : e ≤ length ds = omega (arith, k.inside, same) in
        let v : Window shape (take (e - x) (drop x ds)) =
        record {
          slots = omega (arith, within-reach, length-take (e - x) (drop x ds));
          bridges = bridges;
          begins = opens_at x (e - x) ds d₁ (omega (arith, k.order, inside)) ∙ begins;
          ends = closes_at x (e - x) ds d₁ n inside ∙ ends;
        }
        in
        let s : drop (e - x) (drop x ds) ≡ drop e cs = drop-drop (e - x) x ds ∙ ap (λ j. drop j ds) n ∙ after in
        let t : Tiling shape shape.settle shape.settle (drop (e - x) (drop x ds)) (w - 1 - a) m =
        rw s (best-tiling T shape (drop e cs) (le_refl _) k.clear_after l b) in
        window {w = w - a} {n = e - x + m} {xs = drop x ds} (e - x) (omega (arith, length-drop x ds, inside)) v t
        (omega (arith, k.few)) (le_refl _)
