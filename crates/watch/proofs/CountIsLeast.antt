-- A watch opens the least number of windows: never more than a plan has, and some plan has as many.
use Prim.Native.Nat.{ℕ, zero, suc, pred, ◌+◌, ◌-◌, ◌≤◌}
use native.Mathlib.Nat.{le_refl}
use native.Mathlib.Numerals.{sub-one}
use native.Mathlib.Omega.{arith}
use mathlib.Core.Bool.{Bool, true, cond}
use mathlib.Core.List.{List, [], ◌∷◌}
use mathlib.Core.Logic.{◌⊎◌, inl, inr}
use mathlib.Core.Path.{◌≡◌, refl}
use lib.Dec.{eqb, eqb-suc-zero}
use lib.IntN.{ℤ}
use lib.Signed.{◌<ℤ◌, ◌≤ℤ◌}
use Rattle.facts.proofs.Integers.{lt-or-le}
use Rattle.rule.proofs.Sides.{lt→over, le→under, carried-over, carried_under, carry_over, carry-under}
use Rattle.rule.proofs.Plan.{State, out, on, PlanBy, done, skip, opens, close, more, bridges}
use Rattle.rule.proofs.Plan.{legal→plan, plan→legal, nonzero-same}
use Rattle.rule.specs.Rule.{over, goes_with, carries, shaped, count_if, windows}
use Rattle.watch.proofs.ReachedIsTested.{accepted-numbers}
use Rattle.watch.specs.Promise.{CountIsLeast, CaseL}
use Rattle.watch.specs.States.{initial, after_over, after_under, after, state_after}
use Rattle.watch.specs.declared.Watch.{Watch}

-- of r slots and b bridges left to a window, the slots left after an under load
abbrev left : (r b : ℕ) → ℕ
left zero b = 0
left (suc r) zero = 0
left (suc r) (suc b) = r

module _ (k : ℤ) (len h : ℕ) where
  -- a watch that opened n windows, with r slots left to the active one, and b bridges if r is not 0
  data Stands : (n r b : ℕ) → Watch → Type 0 where
    stands : {t n r b s : ℕ} → s ≡ cond (eqb r 0) 0 b →
        Stands n r b (record { k = k; len = len; h = h; taken = t; windows = n; room = r; spare = s })

  stands-initial : Stands 0 0 0 (initial k len h)
  stands-initial = stands refl

  -- where the watch stands after a load
  over-opens : {n b : ℕ} {w : Watch} {x : ℤ} → Stands n 0 b w → k <ℤ x →
      Stands (n + 1) (len - 1) h (after w x)
  unfolding after after_over
  over-opens (stands e) l = simp (lt→over l) (stands refl)

  over-uses : {n r b : ℕ} {w : Watch} {x : ℤ} → Stands n (suc r) b w → k <ℤ x → Stands n r b (after w x)
  unfolding after after_over
  over-uses (stands e) l = simp (lt→over l, e, sub-one, eqb-suc-zero) (stands refl)

  under : {n : ℕ} {w : Watch} {x : ℤ} (r b : ℕ) → Stands n r b w → x ≤ℤ k → Stands n (left r b) (pred b) (after w x)
  unfolding after after_under
  under zero b (stands e) l = simp (le→under l, e) (stands refl)
  under (suc r) zero (stands e) l = simp (le→under l, e, eqb-suc-zero) (stands refl)
  under (suc r) (suc b) (stands e) l = simp (le→under l, e, sub-one, eqb-suc-zero) (stands refl)

  -- a watch with r slots and b bridges left, beside a plan at the same slot: it has at least as
  -- much left as the plan's window, or it may open d = 1 window more than the rest of the plan
  data Beside (r b : ℕ) : (d : ℕ) → State → Type 0 where
    outside : Beside r b 0 (out 0)
    level : {c : Bool} {r' b' : ℕ} → r' ≤ r → b' ≤ b → Beside r b 0 (on c r' b')
    ahead : {c : Bool} {r' b' : ℕ} → r' ≤ len - 1 → b' ≤ h → Beside r b 1 (on c r' b')

  -- the watch opens at most d windows more than the rest of the plan has
  count-le-plan : {st : State} {xs : List ℤ} {ms : List ℕ} →
      PlanBy (carries k) (shaped len h) st xs ms → (r b : ℕ) → {n d : ℕ} {w : Watch} → Stands n r b w →
      Beside r b d st →
      (state_after w xs).windows ≤ n + windows ms + d
  unfolding state_after goes_with windows count_if
  count-le-plan done r b (stands e) outside = omega arith
  count-le-plan (skip m p) r b s outside = count-le-plan p _ _ (under r b s (carried_under 0 refl m)) outside
  count-le-plan (opens m p) zero b s outside =
      let q = count-le-plan p _ _ (over-opens s (carried-over 1 refl m)) (level (le_refl _) (le_refl _)) in
      omega (arith, q)
  count-le-plan (opens m p) (suc r) b s outside =
      let q = count-le-plan p r b (over-uses s (carried-over 1 refl m)) (ahead (le_refl _) (le_refl _)) in
      omega (arith, q)
  count-le-plan (close p) r b s (level e f) = count-le-plan p r b s outside
  count-le-plan (close p) r b s (ahead e f) = let q = count-le-plan p r b s outside in omega (arith, q)
  count-le-plan (more m p) zero b s (level e f) = absurd (omega arith)
  count-le-plan (more m p) (suc r) b s (level e f) =
      count-le-plan p r b (over-uses s (carried-over 2 refl m)) (level (omega arith) f)
  count-le-plan (more m p) zero b s (ahead e f) =
      let q = count-le-plan p _ _ (over-opens s (carried-over 2 refl m)) (level (omega arith) f) in
      omega (arith, q)
  count-le-plan (more m p) (suc r) b s (ahead e f) =
      count-le-plan p r b (over-uses s (carried-over 2 refl m)) (ahead (omega arith) f)
  count-le-plan (bridges m p) zero b s (level e f) = absurd (omega arith)
  count-le-plan (bridges m p) (suc r) zero s (level e f) = absurd (omega arith)
  count-le-plan (bridges m p) (suc r) (suc b) s (level e f) =
      count-le-plan p r b (under (suc r) (suc b) s (carried_under 3 refl m)) (level (omega arith) (omega arith))
  count-le-plan (bridges m p) r b s (ahead e f) =
      count-le-plan p _ _ (under r b s (carried_under 3 refl m)) (ahead (omega arith) (omega arith))

  -- an under slot is a bridge if the window continues after it, and uncovered if the window closes
  under-slot : {x : ℤ} {xs : List ℤ} {ms : List ℕ} (r b : ℕ) → x ≤ℤ k →
      PlanBy (carries k) (shaped len h) (on true (left r b) (pred b)) xs ms →
      (m : ℕ) × PlanBy (carries k) (shaped len h) (on true r b) (x ∷ xs) (m ∷ ms) × (windows (m ∷ ms) ≡ windows ms)
  unfolding goes_with windows count_if
  under-slot zero b l (close p) = (0, close (skip (carry-under 0 refl l) p), refl)
  under-slot (suc r) zero l (close p) = (0, close (skip (carry-under 0 refl l) p), refl)
  under-slot (suc r) (suc b) l (close p) = (0, close (skip (carry-under 0 refl l) p), refl)
  under-slot (suc r) (suc b) l (more m p) = (3, bridges (carry-under 3 refl l) (more m p), refl)
  under-slot (suc r) (suc b) l (bridges m p) = (3, bridges (carry-under 3 refl l) (bridges m p), refl)

  -- a plan from where the watch stands, with as many windows as the watch opens
  record Met (n r b : ℕ) (w : Watch) (xs : List ℤ) : Type 0 where
    marks : List ℕ
    plan : PlanBy (carries k) (shaped len h) (on true r b) xs marks
    same : n + windows marks ≡ (state_after w xs).windows

  -- wherever a watch stands, there is such a plan
  abbrev Meets : List ℤ → Type 0
  Meets xs = (n r b : ℕ) (w : Watch) → Stands n r b w → Met n r b w xs

  -- there is such a plan with one slot more in front
  one_more : {x : ℤ} {xs : List ℤ} → Meets xs → (k <ℤ x) ⊎ (x ≤ℤ k) → Meets (x ∷ xs)
  unfolding state_after goes_with windows count_if
  one_more f (inl l) n zero b w s =
      let g = f _ _ _ _ (over-opens s l) in
      record {
        marks = 1 ∷ g.marks;
        plan = close (opens (carry_over 1 refl l) g.plan);
        same = omega (arith, g.same);
      }
  one_more f (inl l) n (suc r) b w s =
      let g = f _ _ _ _ (over-uses s l) in
      record { marks = 2 ∷ g.marks; plan = more (carry_over 2 refl l) g.plan; same = g.same }
  one_more f (inr l) n r b w s =
      let g = f _ _ _ _ (under r b s l) in
      let (m, p, e) = under-slot r b l g.plan in
      record { marks = m ∷ g.marks; plan = p; same = omega (arith, e, g.same) }

  met : (xs : List ℤ) → Meets xs
  unfolding state_after windows count_if
  met [] n r b w (stands e) = record { marks = []; plan = close done; same = omega arith }
  met (x ∷ xs) n r b w s = one_more (met xs) (lt-or-le k x) n r b w s

  -- a window without a slot left has to close
  closed : {b : ℕ} {xs : List ℤ} {ms : List ℕ} → PlanBy (carries k) (shaped len h) (on true 0 b) xs ms →
      PlanBy (carries k) (shaped len h) (out 0) xs ms
  closed (close p) = p

pub count-is-least : CountIsLeast
count-is-least k len h loads e =
    let f = met k len h loads 0 0 0 _ (stands-initial k len h) in
    let same = nonzero-same (shaped len h) (accepted-numbers len h e).0 in
    record {
      met = (
        f.marks,
        rw same at (plan→legal (carries k) (shaped len h) loads f.marks (closed k len h f.plan)),
        omega (arith, f.same),
      );
      least = λ ms l.
          let q =
          count-le-plan k len h (legal→plan (carries k) (shaped len h) loads ms (rw same l)) 0 0
          (stands-initial k len h) outside in
          omega (arith, q);
    }

pub case_l : CaseL
unfolding state_after after after_over after_under over
case_l = record { one_bridge = refl; two_bridges = refl }
