-- Plans are tilings, so that `best` is the least that a tiling covers. Hence it is the same from the last slot back to
-- the first.
use Prim.Native.Nat.{ℕ, zero, suc, ◌+◌, ◌-◌, ◌≤◌, ◌<◌}
use native.Mathlib.Nat.{le_refl, le_trans, eq-or-lt_of_le}
use native.Mathlib.Omega.{arith}
use mathlib.Core.Bool.{Bool, true, false, false≢true}
use mathlib.Core.List.{List, [], ◌∷◌, reverse, reverse-reverse}
use mathlib.Core.Logic.{⊎_elim}
use mathlib.Core.Path.{◌≡◌, refl, ◌∙◌}
use lib.ListN.{length, take, drop, length-take}
use Rattle.rule.proofs.Classes.{allows-2→allows-1}
use Rattle.rule.proofs.Plan.{State, out, on, PlanBy, done, skip, opens, close, more, bridges, legal→plan_from}
use Rattle.rule.specs.Ranges.{Class, under_only, over_only, either, allows}
use Rattle.rule.specs.Rule.{goes_with, count_if, windows, covered}
use Rattle.rule.specs.declared.Shape.{Shape}
use Rattle.requests.proofs.BestIsLeast.{SomePlan, best-le, least-le-covered, best_from-met}
use Rattle.requests.proofs.BestIsLeast.{clearable-nil, clearable-cons}
use Rattle.requests.specs.Best.{clearable, best}
use Rattle.sides.proofs.Reach.{low-le}
use Rattle.sides.specs.Reach.{low, lows}
use Rattle.sides.proofs.Tilings.{closes, Window, Tiling, end, gap, window, looser, turned}

allows-1→allows-2 : (c : Class) → allows c 1 ≡ true → allows c 2 ≡ true
unfolding allows goes_with
allows-1→allows-2 under_only e = e
allows-1→allows-2 over_only e = refl
allows-1→allows-2 either e = e

closes-more : (b c : Bool) (ws : List Class) → (b ≡ true → c ≡ true) → closes b ws ≡ true → closes c ws ≡ true
closes-more b c [] m e = m e
closes-more b c (x ∷ ws) m e = e

module _ (shape : Shape) where
  -- the rest of a window that is under way, of d slots, and what comes after it
  record Rest (b : Bool) (r g : ℕ) (cs : List Class) (w n : ℕ) : Type 0 where
    d : ℕ
    m : ℕ
    inside : d ≤ length cs
    slots : d ≤ r
    bridges : lows (take d cs) ≤ g
    ends : closes b (take d cs) ≡ true
    after : Tiling shape shape.settle shape.settle (drop d cs) w m
    short : d + m ≤ n

  abbrev Tiled : State → List Class → (w n : ℕ) → Type 0
  Tiled (out q) cs w n = q ≤ shape.settle → Tiling shape q shape.settle cs w n
  Tiled (on b r g) cs w n = Rest b r g cs w n

  longer : {b c : Bool} {r g k w n : ℕ} {cs : List Class} (x : Class) → low x + g ≤ k → (b ≡ true → allows x 2 ≡ true) →
      Rest b r g cs w n → Rest c (suc r) k (x ∷ cs) w (suc n)
  longer {b} {cs = cs} x l o t =
      record {
        d = suc t.d;
        m = t.m;
        inside = omega (arith, t.inside);
        slots = omega (arith, t.slots);
        bridges = omega (arith, t.bridges);
        ends = closes-more b (allows x 2) (take t.d cs) o t.ends;
        after = t.after;
        short = omega (arith, t.short);
      }

  tiled : {st : State} {cs : List Class} {ms : List ℕ} → PlanBy allows shape st cs ms →
      Tiled st cs (windows ms) (covered ms)
  unfolding windows covered count_if
  tiled done = λ e. end e
  tiled (skip m p) = λ e. gap m (tiled p (omega arith))
  tiled (opens {x} {xs} {ms} m p) =
      λ e.
      let t = tiled p in
      let o = allows-1→allows-2 x m in
      let v : Window shape (x ∷ take t.d xs) =
      record {
        slots = omega (arith, t.slots, length-take t.d xs);
        bridges = rw o (omega (arith, t.bridges));
        begins = o;
        ends = closes-more true (allows x 2) (take t.d xs) (λ _. o) t.ends;
      }
      in
      window {w = suc (windows ms)} {n = suc (covered ms)} {xs = x ∷ xs} (suc t.d) (omega (arith, t.inside)) v
      t.after (le_refl _) (omega (arith, t.short))
  tiled (close {ms = ms} p) =
      record {
        d = 0;
        m = covered ms;
        inside = omega arith;
        slots = omega arith;
        bridges = omega arith;
        ends = refl;
        after = tiled p (le_refl _);
        short = omega arith;
      }
  tiled (more {x = x} m p) = longer x (rw m (omega arith)) (λ _. m) (tiled p)
  tiled (bridges {x = x} m p) = longer x (omega (arith, low-le x)) (λ e. absurd (false≢true e)) (tiled p)

  -- the rest of a window, of d slots, drawn before what comes after it
  draw : {b : Bool} {r g w n : ℕ} (d : ℕ) (cs : List Class) → d ≤ length cs → d ≤ r → lows (take d cs) ≤ g →
      closes b (take d cs) ≡ true → SomePlan shape (out shape.settle) (drop d cs) w n →
      SomePlan shape (on b r g) cs w (d + n)
  unfolding windows covered count_if allows goes_with
  draw {b = true} zero cs l e f o p =
      record { marks = p.marks; plan = close p.plan; few = p.few; short = omega (arith, p.short) }
  draw {b = false} zero cs l e f o p = absurd (false≢true o)
  draw (suc d) [] l e f o p = absurd (omega arith)
  draw {r = zero} (suc d) (x ∷ cs) l e f o p = absurd (omega arith)
  draw {r = suc r} {g = zero} (suc d) (under_only ∷ cs) l e f o p = absurd (omega arith)
  draw {r = suc r} {g = suc g} (suc d) (under_only ∷ cs) l e f o p =
      let t = draw {b = false} {r = r} {g = g} d cs (omega arith) (omega arith) (omega arith) o p in
      record { marks = 3 ∷ t.marks; plan = bridges refl t.plan; few = t.few; short = omega (arith, t.short) }
  draw {r = suc r} {g = g} (suc d) (over_only ∷ cs) l e f o p =
      let t = draw {b = true} {r = r} {g = g} d cs (omega arith) (omega arith) (omega arith) o p in
      record { marks = 2 ∷ t.marks; plan = more refl t.plan; few = t.few; short = omega (arith, t.short) }
  draw {r = suc r} {g = g} (suc d) (either ∷ cs) l e f o p =
      let t = draw {b = true} {r = r} {g = g} d cs (omega arith) (omega arith) (omega arith) o p in
      record { marks = 2 ∷ t.marks; plan = more refl t.plan; few = t.few; short = omega (arith, t.short) }

  drawn : {p q w n : ℕ} {cs : List Class} → Tiling shape p q cs w n → SomePlan shape (out p) cs w n
  unfolding windows covered count_if
  drawn (end e) = record { marks = []; plan = done; few = omega arith; short = omega arith }
  drawn {p} (gap m t) =
      let s = drawn t in
      record { marks = 0 ∷ s.marks; plan = skip {q = p} m s.plan; few = s.few; short = s.short }
  drawn (window zero l v t i j) = absurd (false≢true v.begins)
  drawn (window {xs = []} (suc d) l v t i j) = absurd (omega arith)
  drawn (window {xs = x ∷ xs} (suc d) l v t i j) =
      let ends = closes-more (allows x 2) true (take d xs) (λ _. refl) v.ends in
      let s =
      draw {b = true} {r = shape.len - 1} {g = shape.h} d xs (omega arith) (omega (arith, v.slots, length-take d xs))
      (omega (arith, v.bridges)) ends (drawn t) in
      record {
        marks = 1 ∷ s.marks;
        plan = opens (allows-2→allows-1 x v.begins) s.plan;
        few = omega (arith, s.few);
        short = omega (arith, s.short);
      }

  -- the slots owed before a tiling can be left uncovered
  pub tiling-clear : {p q w n : ℕ} {cs : List Class} → Tiling shape p q cs w n → clearable p cs ≡ true
  unfolding clearable
  tiling-clear {p} (end e) = clearable-nil p
  tiling-clear {p} (gap {x = x} {xs = xs} m t) = clearable-cons p x xs m ∙ tiling-clear t
  tiling-clear (window d l v t i j) = refl

module _ (T : ℕ) (shape : Shape) where
  -- no tiling covers less than `best`, and below T some tiling meets it
  pub best-le-tiling : {p q w n : ℕ} {cs : List Class} → Tiling shape p q cs w n → best T shape cs w ≤ n
  unfolding clearable
  best-le-tiling {w = w} t =
      let s = drawn shape {p = 0} (looser shape t (omega arith) (le_refl _) (le_refl _) (le_refl _)) in
      le_trans (least-le-covered T shape w s.plan s.few) s.short

  pub best-tiling : {p w n : ℕ} (cs : List Class) → p ≤ shape.settle → clearable p cs ≡ true → n < T →
      best T shape cs w ≤ n → Tiling shape p shape.settle cs w n
  best-tiling {p} {w} cs e c l b =
      let (ms, f, owed) = best_from-met T shape p cs w (rw c (omega arith)) in
      let t = tiled shape (legal→plan_from allows shape p cs ms f.in_rule owed) e in
      looser shape t (le_refl _) (le_refl _) f.few (le_trans (rw c at f.short) b)

  mirror-le : (cs : List Class) (w : ℕ) → best T shape (reverse cs) w ≤ best T shape cs w
  unfolding clearable
  mirror-le cs w =
      ⊎_elim (λ e. rw e (best-le T shape (reverse cs) w))
      (λ l. best-le-tiling (turned shape (omega arith) (best-tiling {p = 0} cs (omega arith) refl l (le_refl _))))
      (eq-or-lt_of_le (best-le T shape cs w))

  pub mirror : (cs : List Class) (w : ℕ) → best T shape (reverse cs) w ≡ best T shape cs w
  mirror cs w =
      let back = rw (reverse-reverse cs) at (mirror-le (reverse cs) w) in
      omega (arith, mirror-le cs w, back)
