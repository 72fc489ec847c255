-- Plans as tilings: uncovered slots and whole windows, one after the other, without marks. What is symmetric about the
-- rule is plain here: tilings are put together, taken apart at a slot, and turned round.
use Prim.Native.Nat.{ℕ, zero, suc, ◌+◌, ◌-◌, ◌≤◌, ◌<◌}
use native.Mathlib.Nat.{le_refl, add-suc}
use native.Mathlib.Omega.{arith}
use mathlib.Core.Bool.{Bool, true, false, false≢true}
use mathlib.Core.List.{List, [], ◌∷◌, ◌++◌, reverse, reverse_aux, reverse-cons, reverse-append}
use mathlib.Core.Path.{◌≡◌, refl, sym, ap, ◌∙◌, subst}
use borrow.Author.Tests.{leb-true, leb-false}
use lib.Dec.{leb}
use lib.ListN.{length, take, drop, get_or, length-append, length-take, length-drop, length-reverse, take-append-drop}
use lib.Seq.{take-length, drop-length, take-append-le, drop-append-le, take-add, drop-drop, get_or-drop}
use Rattle.rule.specs.Ranges.{Class, under_only, allows}
use Rattle.rule.specs.declared.Shape.{Shape}
use Rattle.sides.specs.Reach.{lows}

-- the first slot can be over
abbrev pub opens : List Class → Bool
opens [] = false
opens (x ∷ xs) = allows x 2

-- the last slot can be over, where b says so of the one before the first
abbrev pub closes : (b : Bool) → List Class → Bool
closes b [] = b
closes b (x ∷ xs) = closes (allows x 2) xs

opens-turned : (xs ys : List Class) → opens (reverse_aux xs ys) ≡ closes (opens ys) xs
opens-turned [] ys = refl
opens-turned (x ∷ xs) ys = opens-turned xs (x ∷ ys)

closes-turned : (b : Bool) (xs : List Class) (y : Class) (ys : List Class) →
    closes b (reverse_aux xs (y ∷ ys)) ≡ closes (allows y 2) ys
closes-turned b [] y ys = refl
closes-turned b (x ∷ xs) y ys = closes-turned b xs x (y ∷ ys)

lows-turned : (xs ys : List Class) → lows (reverse_aux xs ys) ≡ lows xs + lows ys
lows-turned [] ys = omega arith
lows-turned (x ∷ xs) ys = omega (arith, lows-turned xs (x ∷ ys))

module _ (shape : Shape) where
  -- slots that can be a window
  pub record Window (ws : List Class) : Type 0 where
    pub slots : length ws ≤ suc (shape.len - 1)
    pub bridges : lows ws ≤ shape.h
    pub begins : opens ws ≡ true
    pub ends : closes false ws ≡ true

  turned-window : {ws : List Class} → Window ws → Window (reverse ws)
  turned-window {ws = []} v = absurd (false≢true v.begins)
  turned-window {ws = x ∷ ws} v =
      record {
        slots = rw (length-reverse (x ∷ ws)) v.slots;
        bridges = omega (arith, lows-turned (x ∷ ws) [], v.bridges);
        begins = opens-turned (x ∷ ws) [] ∙ v.ends;
        ends = closes-turned false ws x [] ∙ v.begins;
      }

  -- At most w windows that cover at most n slots. Before the first of them p uncovered slots are owed, and after the
  -- last at most q are still owed. A window covers the first d slots.
  pub data Tiling : (p q : ℕ) → List Class → (w n : ℕ) → Type 0 where
    end : {p q w n : ℕ} → p ≤ q → Tiling p q [] w n
    gap : {p q w n : ℕ} {x : Class} {xs : List Class} → allows x 0 ≡ true → Tiling (p - 1) q xs w n →
        Tiling p q (x ∷ xs) w n
    window : {q v m w n : ℕ} {xs : List Class} (d : ℕ) → d ≤ length xs → Window (take d xs) →
        Tiling shape.settle q (drop d xs) v m → v < w → d + m ≤ n → Tiling 0 q xs w n

  pub looser : {p q p' q' w n w' n' : ℕ} {xs : List Class} → Tiling p q xs w n → p' ≤ p → q ≤ q' → w ≤ w' → n ≤ n' →
      Tiling p' q' xs w' n'
  looser {p' = p'} {q' = q'} (end e) f g a b = end {p = p'} {q = q'} (omega arith)
  looser {p' = p'} (gap m t) f g a b = gap {p = p'} m (looser t (omega arith) g a b)
  looser {p' = zero} {w' = w'} {n' = n'} (window d l v t i j) f g a b =
      window {w = w'} {n = n'} d l v (looser t (le_refl _) g (le_refl _) (le_refl _)) (omega arith) (omega arith)
  looser {p' = suc p'} (window d l v t i j) f g a b = absurd (omega arith)

  -- one after the other
  pub join : {p q r a b m n : ℕ} {xs ys : List Class} → Tiling p q xs a m → Tiling q r ys b n →
      Tiling p r (xs ++ ys) (a + b) (m + n)
  join (end e) u = looser u e (le_refl _) (omega arith) (omega arith)
  join (gap m t) u = gap m (join t u)
  join {a = a} {b = b} {m = m} {n = n} {ys = ys} (window {xs = xs} d l v t i j) u =
      window {w = a + b} {n = m + n} {xs = xs ++ ys} d (omega (arith, length-append xs ys))
      (rw (take-append-le d xs ys l) v) (rw (← (drop-append-le d xs ys l)) at (join t u)) (omega arith) (omega arith)

  -- a single window
  tile : {ws : List Class} → Window ws → Tiling 0 shape.settle ws 1 (length ws)
  tile {ws} v =
      let none : Tiling shape.settle shape.settle (drop (length ws) ws) 0 0 =
      rw (drop-length ws) (end (le_refl _)) in
      window {w = 1} {n = length ws} {xs = ws} (length ws) (le_refl _) (rw (take-length ws) v) none (omega arith)
      (omega arith)

  -- turned round: what is owed at one end are the slots owed that do not lie at the other
  pub turned : {p q w n : ℕ} {xs : List Class} → p ≤ shape.settle → Tiling p q xs w n →
      Tiling (shape.settle - q) (shape.settle - p) (reverse xs) w n
  turned {p} {q} f (end e) = end {p = shape.settle - q} {q = shape.settle - p} (omega arith)
  turned {p} f (gap {x = x} {xs = xs} m t) =
      let e : shape.settle - (p - 1) - 1 ≤ shape.settle - p = omega arith in
      let both = join (turned (omega arith) t) (gap {w = 0} {n = 0} m (end e)) in
      rw (reverse-cons x xs) (looser both (le_refl _) (le_refl _) (omega arith) (omega arith))
  turned {q = q} f (window {v = b} {m = m} {xs = xs} d l v t i j) =
      let u : Tiling (shape.settle - q) 0 (reverse (drop d xs)) b m =
      looser (turned (le_refl _) t) (le_refl _) (omega arith) (le_refl _) (le_refl _) in
      let s : reverse xs ≡ reverse (drop d xs) ++ reverse (take d xs) =
      ap reverse (sym (take-append-drop d xs)) ∙ reverse-append (take d xs) (drop d xs) in
      rw s (looser (join u (tile (turned-window v))) (le_refl _) (omega arith) (omega arith)
      (rw (length-reverse (take d xs)) (omega (arith, length-take d xs))))

  -- slot i in a tiling: uncovered, with r slots owed before it, or in a window of d slots from slot x on
  pub data Around (p q : ℕ) (cs : List Class) (i w n : ℕ) : Type 0 where
    uncovered : {a b m k : ℕ} (r : ℕ) → allows (get_or cs i under_only) 0 ≡ true → Tiling p r (take i cs) a m →
        Tiling (r - 1) q (drop (suc i) cs) b k → a + b ≤ w → m + k ≤ n → Around p q cs i w n
    in_window : {a b m k : ℕ} (x d e : ℕ) → x + d ≡ e → x ≤ i → i < e → e ≤ length cs → Window (take d (drop x cs)) →
        Tiling p 0 (take x cs) a m → Tiling shape.settle q (drop e cs) b k →
        a + b < w → m + d + k ≤ n → Around p q cs i w n

  module _ {q : ℕ} where
    after-gap : {p w n i : ℕ} {c : Class} {cs : List Class} → allows c 0 ≡ true → Around (p - 1) q cs i w n →
        Around p q (c ∷ cs) (suc i) w n
    after-gap g (uncovered r m t u i j) = uncovered r m (gap g t) u i j
    after-gap g (in_window x d e s f l o v t u i j) =
        in_window (suc x) d (suc e) (omega arith) (omega arith) (omega arith) (omega arith) v (gap g t) u i j

    after-window : {v m w n j : ℕ} {cs : List Class} (d : ℕ) → d ≤ length cs → Window (take d cs) → v < w → d + m ≤ n →
        Around shape.settle q (drop d cs) j v m → Around 0 q cs (d + j) w n
    after-window {j = j} {cs = cs} d l v i k (uncovered r m t u a b) =
        uncovered r (rw (← (get_or-drop d cs j under_only)) m) (rw (← (take-add d j cs)) at (join (tile v) t))
        (rw (drop-drop (suc j) d cs, add-suc d j) at u) (omega arith) (omega (arith, length-take d cs))
    after-window {cs = cs} d l v i k (in_window x d' e s f g o v' t u a b) =
        in_window (d + x) d' (d + e) (omega arith) (omega arith) (omega arith) (omega (arith, length-drop d cs))
        (rw (drop-drop x d cs) at v') (rw (← (take-add d x cs)) at (join (tile v) t)) (rw (drop-drop e d cs) at u)
        (omega arith) (omega (arith, length-take d cs))

    pub split : {p w n : ℕ} (i : ℕ) {cs : List Class} → i < length cs → Tiling p q cs w n → Around p q cs i w n
    split i l (end e) = absurd (omega arith)
    split {p} zero l (gap m t) = uncovered {a = 0} {m = 0} p m (end (le_refl p)) t (omega arith) (omega arith)
    split (suc i) l (gap m t) = after-gap m (split i (omega arith) t)
    split {w = w} {n = n} i {cs = cs} l (window {v = v} {m = m} d f fits t a b) =
        at-window (leb d i) refl (λ o. split (i - d) (omega (arith, length-drop d cs)) t)
      where
        at-window : (past : Bool) → leb d i ≡ past → (d ≤ i → Around shape.settle q (drop d cs) (i - d) v m) →
            Around 0 q cs i w n
        at-window true s later =
            let o = leb-true d i s in
            subst (λ j. Around 0 q cs j w n) (omega arith) (after-window d f fits a b (later o))
        at-window false s later =
            in_window {a = 0} {m = 0} 0 d d (omega arith) (omega arith) (leb-false d i s) f fits (end (le_refl 0)) t
            (omega arith) (omega arith)
