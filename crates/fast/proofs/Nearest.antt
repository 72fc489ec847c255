-- The least count over ends: where they are further away, with one end more, and in two parts; and that the least count
-- from a slot on that opens a window is the one over the ends within its reach.
use Prim.Native.Nat.{ℕ, zero, suc, ◌+◌, ◌-◌, ◌≤◌, ◌<◌, min}
use native.Mathlib.Nat.{le_refl, sub-zero, add-zero, suc-sub-suc}
use native.Mathlib.Omega.{arith}
use mathlib.Core.Bool.{cond}
use mathlib.Core.List.{List, [], ◌∷◌}
use mathlib.Core.Path.{◌≡◌, refl, sym}
use lib.ListN.{length, take, drop, get_or}
use Rattle.facts.proofs.Naturals.{min_assoc}
use Rattle.rule.specs.Ranges.{Class, under_only, over_only, either, allows}
use Rattle.rule.specs.Rule.{goes_with}
use Rattle.rule.specs.declared.Shape.{Shape}
use Rattle.requests.specs.Best.{saturating_suc, best, best_inside}
use Rattle.requests.specs.Solution.{sentinel}
use Rattle.sides.specs.Reach.{fit}
use Rattle.fast.specs.Minima.{nearest}
use Rattle.fast.specs.Rows.{Ends}

nearest-le : (d : ℕ) (vs : List ℕ) → nearest d vs ≤ sentinel
nearest-le d [] = le_refl sentinel
nearest-le d (v ∷ vs) = omega arith

nearest-suc : (d : ℕ) (vs : List ℕ) → nearest (suc d) vs ≡ saturating_suc sentinel (nearest d vs)
nearest-suc d [] = omega arith
nearest-suc d (v ∷ vs) = let later = nearest-suc (suc d) vs in omega (arith, later)

pub nearest-cons : (k v : ℕ) (vs : List ℕ) →
    min (min sentinel (1 + v)) (min sentinel (1 + nearest 1 (take k vs))) ≡ nearest 1 (take (suc k) (v ∷ vs))
nearest-cons k v vs = omega (arith, nearest-suc 1 (take k vs))

nearest-add : (k d : ℕ) (vs : List ℕ) → nearest (d + k) vs ≡ min sentinel (k + nearest d vs)
nearest-add k d [] = omega arith
nearest-add k d (v ∷ vs) =
    let n : suc (d + k) ≡ suc d + k = omega arith in
    rw (n, nearest-add k (suc d) vs) (omega arith)

pub nearest-snoc : (d k : ℕ) (vs : List ℕ) → k < length vs →
    nearest d (take (suc k) vs) ≡ min (nearest d (take k vs)) (min sentinel (d + k + get_or vs k 0))
nearest-snoc d k [] l = absurd (omega arith)
nearest-snoc d zero (v ∷ vs) l = omega arith
nearest-snoc d (suc k) (v ∷ vs) l =
    let n : d + suc k ≡ suc d + k = omega arith in
    rw (nearest-snoc (suc d) k vs (omega arith), n) (min_assoc _ _ _)

nearest-parts : (d f e : ℕ) (vs : List ℕ) → d ≤ f → d ≤ length vs →
    nearest e (take f vs) ≡ min (nearest e (take d vs)) (nearest (e + d) (take (f - d) (drop d vs)))
nearest-parts zero f e vs o l = rw (sub-zero f, add-zero e) (omega (arith, nearest-le e (take f vs)))
nearest-parts (suc d) zero e vs o l = absurd (omega arith)
nearest-parts (suc d) (suc f) e [] o l = absurd (omega arith)
nearest-parts (suc d) (suc f) e (v ∷ vs) o l =
    let n : e + suc d ≡ suc e + d = omega arith in
    rw (suc-sub-suc f d, n, nearest-parts d f (suc e) vs (omega arith) (omega arith)) (min_assoc _ _ _)

-- the first f ends, of which the first d are near
pub nearest-split : (d f : ℕ) (vs : List ℕ) → d ≤ f → d ≤ length vs → nearest 1 (take f vs)
    ≡ min (nearest 1 (take d vs)) (min sentinel (d + nearest 1 (take (f - d) (drop d vs))))
nearest-split d f vs o l = rw (nearest-parts d f 1 vs o l, nearest-add d 1 (take (f - d) (drop d vs))) refl

module _ (shape : Shape) where
  ends-tail : {c : Class} {cs : List Class} {v w : ℕ} {vs : List ℕ} → Ends shape (c ∷ cs) w (v ∷ vs) →
      Ends shape cs w vs
  ends-tail e = record { counts = λ i l. e.counts (suc i) (omega arith) }

  -- in a window that continues
  inside-nearest : (cs : List Class) (vs : List ℕ) (r b w : ℕ) → length cs ≤ length vs → Ends shape cs w vs →
      best_inside sentinel shape cs r b w ≡ nearest 1 (take (fit cs r b) vs)
  unfolding best_inside fit allows goes_with
  inside-nearest [] vs r b w l e = refl
  inside-nearest (c ∷ cs) [] r b w l e = absurd (omega arith)
  inside-nearest (c ∷ cs) (v ∷ vs) zero b w l e = omega arith
  inside-nearest (under_only ∷ cs) (v ∷ vs) (suc r) zero w l e = omega arith
  inside-nearest (under_only ∷ cs) (v ∷ vs) (suc r) (suc b) w l e =
      rw (inside-nearest cs vs r b w (omega arith) (ends-tail e), e.counts 0 (omega arith))
      (omega (arith, nearest-suc 1 (take (fit cs r b) vs)))
  inside-nearest (over_only ∷ cs) (v ∷ vs) (suc r) b w l e =
      rw (inside-nearest cs vs r b w (omega arith) (ends-tail e), e.counts 0 (omega arith))
      (omega (arith, nearest-suc 1 (take (fit cs r b) vs)))
  inside-nearest (either ∷ cs) (v ∷ vs) (suc r) b w l e =
      rw (inside-nearest cs vs r b w (omega arith) (ends-tail e), e.counts 0 (omega arith))
      (omega (arith, nearest-suc 1 (take (fit cs r b) vs)))

  -- from a slot on: one that must be over opens a window
  pub best-nearest : (c : Class) (cs : List Class) (vs : List ℕ) (w : ℕ) → length (c ∷ cs) ≤ length vs →
      Ends shape (c ∷ cs) w vs →
      cond (allows c 0) (best sentinel shape cs (suc w))
      (nearest 1 (take (fit (c ∷ cs) (suc (shape.len - 1)) shape.h) vs))
      ≡ best sentinel shape (c ∷ cs) (suc w)
  unfolding best allows goes_with
  best-nearest under_only cs vs w l e = refl
  best-nearest over_only cs vs w l e = sym (inside-nearest (over_only ∷ cs) vs (suc (shape.len - 1)) shape.h w l e)
  best-nearest either cs vs w l e = refl
