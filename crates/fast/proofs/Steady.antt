-- Least counts that are the same with one window more are the same with any number of windows more.
use Prim.Native.Nat.{ℕ, zero, suc, ◌+◌, ◌-◌, ◌≤◌}
use native.Mathlib.Omega.{arith}
use mathlib.Core.List.{List, [], ◌∷◌}
use mathlib.Core.Path.{◌≡◌, refl, ap, ◌∙◌}
use lib.ListN.{length, drop, length-drop}
use lib.Seq.{drop-drop}
use Rattle.rule.specs.Ranges.{Class}
use Rattle.rule.specs.declared.Shape.{Shape}
use Rattle.requests.specs.Best.{best, best_inside}

module _ (T : ℕ) (shape : Shape) where
  -- two window counts with the same least count from every slot on
  record Alike (cs : List Class) (u v : ℕ) : Type 0 where
    same : (i : ℕ) → i ≤ length cs → best T shape (drop i cs) u ≡ best T shape (drop i cs) v

  alike_from : {u v : ℕ} (cs : List Class) (i : ℕ) → i ≤ length cs → Alike cs u v → Alike (drop i cs) u v
  alike_from cs i l a =
      record { same = λ j e. rw (drop-drop j i cs) (a.same (i + j) (omega (arith, l, e, length-drop i cs))) }

  inside-alike : {u v : ℕ} (cs : List Class) (r b : ℕ) → Alike cs u v →
      best_inside T shape cs r b u ≡ best_inside T shape cs r b v
  unfolding best_inside
  inside-alike [] r b a = refl
  inside-alike (c ∷ cs) zero b a = refl
  inside-alike (c ∷ cs) (suc r) zero a =
      rw (a.same 1 (omega arith), inside-alike cs r zero (alike_from (c ∷ cs) 1 (omega arith) a)) refl
  inside-alike (c ∷ cs) (suc r) (suc b) a =
      let later = alike_from (c ∷ cs) 1 (omega arith) a in
      rw (a.same 1 (omega arith), inside-alike cs r (suc b) later, inside-alike cs r b later) refl

  best-alike : {u v : ℕ} (cs : List Class) → Alike cs u v → best T shape cs (suc u) ≡ best T shape cs (suc v)
  unfolding best
  best-alike [] a = refl
  best-alike (c ∷ cs) a =
      let later = alike_from (c ∷ cs) 1 (omega arith) a in
      rw (best-alike cs later, a.same 1 (omega arith), inside-alike cs (shape.len - 1) shape.h later) refl

  alike-more : (cs : List Class) (w d : ℕ) → Alike cs (suc w) w → Alike cs (d + w) w
  alike-more cs w zero a = record { same = λ i l. ap (λ u. best T shape (drop i cs) u) (omega arith) }
  alike-more cs w (suc d) a =
      let n : suc d + w ≡ suc (d + w) = omega arith in
      record {
        same = λ i l. rw n (best-alike (drop i cs) (alike_from cs i l (alike-more cs w d a))) ∙ a.same i l;
      }

  pub steady : (cs : List Class) (w : ℕ) →
      ((i : ℕ) → i ≤ length cs → best T shape (drop i cs) (suc w) ≡ best T shape (drop i cs) w) →
      (u : ℕ) → w ≤ u → (i : ℕ) → i ≤ length cs → best T shape (drop i cs) u ≡ best T shape (drop i cs) w
  steady cs w e u l =
      let n : u - w + w ≡ u = omega arith in
      rw (← n) (alike-more cs w (u - w) (record { same = e })).same
