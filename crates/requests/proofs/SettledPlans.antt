-- Settling one slot of a plan costs at most one more window, under where at most one slot is owed between windows, over
-- where none is; settling it over also costs at most one more covered slot.
use Prim.Native.Nat.{ℕ, zero, suc, ◌+◌, ◌-◌, ◌≤◌, min}
use native.Mathlib.Nat.{le_refl, le-suc, le_of_suc-le, le_of_suc-le-suc}
use native.Mathlib.Omega.{arith}
use mathlib.Core.Bool.{Bool, true}
use mathlib.Core.List.{List, [], ◌∷◌}
use mathlib.Core.Path.{◌≡◌, refl}
use lib.ListN.{length, set, length-set}
use Rattle.rule.proofs.Classes.{allows-2→allows-1, allows-3→allows-0}
use Rattle.rule.proofs.LegalFrom.{legal-length}
use Rattle.rule.proofs.Plan.{State, out, on, PlanBy, done, skip, opens, close, more, bridges, legal→plan, plan→legal}
use Rattle.rule.proofs.Counts.{covered_le}
use Rattle.rule.specs.Ranges.{Class, under_only, over_only, allows}
use Rattle.rule.specs.Rule.{nonzero, goes_with, count_if, windows, covered}
use Rattle.rule.specs.declared.Shape.{Shape}
use Rattle.requests.proofs.BestIsLeast.{SomePlan}
use Rattle.requests.specs.Best.{Fits}

module _ (shape : Shape) where
  more_left : {c : Bool} {r b r' b' : ℕ} {cs : List Class} {ms : List ℕ} →
      PlanBy allows shape (on c r b) cs ms → r ≤ r' → b ≤ b' → PlanBy allows shape (on c r' b') cs ms
  more_left (close p) e f = close p
  more_left {r' = zero} (more m p) e f = absurd (omega arith)
  more_left {r' = suc r'} (more m p) e f = more m (more_left p (le_of_suc-le-suc e) f)
  more_left {r' = zero} (bridges m p) e f = absurd (omega arith)
  more_left {r' = suc r'} {b' = zero} (bridges m p) e f = absurd (omega arith)
  more_left {r' = suc r'} {b' = suc b'} (bridges m p) e f =
      bridges m (more_left p (le_of_suc-le-suc e) (le_of_suc-le-suc f))

  may-close : {c : Bool} {r b : ℕ} {cs : List Class} {ms : List ℕ} →
      PlanBy allows shape (on c r b) cs ms → PlanBy allows shape (on true r b) cs ms
  may-close (close p) = close p
  may-close (more m p) = more m p
  may-close (bridges m p) = bridges m p

  owes-less : {q q' : ℕ} {cs : List Class} {ms : List ℕ} →
      PlanBy allows shape (out q) cs ms → q' ≤ q → PlanBy allows shape (out q') cs ms
  owes-less done e = done
  owes-less {q' = q'} (skip {q} m p) e = skip {q = q'} m (owes-less {q' = q' - 1} p (omega arith))
  owes-less {q' = zero} (opens m p) e = opens m p
  owes-less {q' = suc q'} (opens m p) e = absurd (omega arith)

  -- instead of continuing the window under way, a new one opens at its next over slot
  inside→outside : {c : Bool} {r b : ℕ} {cs : List Class} {ms : List ℕ} → PlanBy allows shape (on c r b) cs ms →
      r ≤ shape.len - 1 → b ≤ shape.h →
      SomePlan shape (out 0) cs (suc (windows ms)) (covered ms)
  unfolding windows covered count_if
  inside→outside (close p) e f =
      record { marks = _; plan = owes-less p (omega arith); few = omega arith; short = le_refl _ }
  inside→outside (more {x = c} m p) e f =
      record {
        marks = _;
        plan = opens (allows-2→allows-1 c m) (more_left p (omega arith) f);
        few = le_refl _;
        short = le_refl _;
      }
  inside→outside (bridges {x = c} m p) e f =
      let t = inside→outside p (omega arith) (omega arith) in
      record {
        marks = 0 ∷ t.marks;
        plan = skip {q = 0} (allows-3→allows-0 c m) t.plan;
        few = t.few;
        short = omega (arith, t.short);
      }

  -- the same state, except that a window under way may close at once
  abbrev relaxed : State → State
  relaxed (out q) = out q
  relaxed (on c r b) = on true r b

  data WithinShape : State → Type 0 where
    outside : {q : ℕ} → q ≤ shape.settle → WithinShape (out q)
    inside : {c : Bool} {r b : ℕ} → r ≤ shape.len - 1 → b ≤ shape.h → WithinShape (on c r b)

  -- a bridge in front: the window continues after the bridge, or else closes before it
  bridge-before : {r b : ℕ} {c : Class} {cs : List Class} (w n n' : ℕ) → suc n ≤ n' → allows c 3 ≡ true →
      SomePlan shape (on true r b) cs w n → SomePlan shape (on true (suc r) (suc b)) (c ∷ cs) w n'
  unfolding windows covered count_if
  bridge-before {c = c} w n n' e m t = by t.plan t.few t.short
    where
      by : {r b : ℕ} {cs : List Class} {ms : List ℕ} → PlanBy allows shape (on true r b) cs ms →
          windows ms ≤ w → covered ms ≤ n →
          SomePlan shape (on true (suc r) (suc b)) (c ∷ cs) w n'
      by (close p) f s =
          record {
            marks = 0 ∷ _;
            plan = close (skip {q = shape.settle} (allows-3→allows-0 c m) (owes-less p (omega arith)));
            few = f;
            short = omega arith;
          }
      by (more l p) f s = record { marks = 3 ∷ _; plan = bridges m (more l p); few = f; short = omega arith }
      by (bridges l p) f s = record { marks = 3 ∷ _; plan = bridges m (bridges l p); few = f; short = omega arith }

  -- the first slot is settled under: a bridge stays a bridge; any other slot is uncovered, and its window is cut there
  under : shape.settle ≤ 1 → {st : State} {x : Class} {cs : List Class} {ms : List ℕ} →
      PlanBy allows shape st (x ∷ cs) ms → WithinShape st →
      SomePlan shape (relaxed st) (under_only ∷ cs) (suc (windows ms)) (covered ms + 0)
  unfolding allows goes_with windows covered count_if
  under one (skip {q = o} m p) q =
      record { marks = _; plan = skip {q = o} refl p; few = omega arith; short = omega arith }
  under one (opens m p) q =
      let t = inside→outside p (le_refl _) (le_refl _) in
      record {
        marks = 0 ∷ t.marks;
        plan = skip {q = 0} refl t.plan;
        few = omega (arith, t.few);
        short = omega (arith, t.short);
      }
  under one (close p) q =
      let t = under one p (outside (le_refl _)) in
      record { marks = t.marks; plan = close t.plan; few = t.few; short = t.short }
  under one (more m p) (inside e f) =
      let t = inside→outside p (omega arith) f in
      record {
        marks = 0 ∷ t.marks;
        plan = close (skip {q = shape.settle} refl (owes-less t.plan (omega arith)));
        few = t.few;
        short = omega (arith, t.short);
      }
  under one (bridges m p) q = record { marks = _; plan = bridges refl p; few = omega arith; short = omega arith }

  -- the first slot is settled over: a mark 0 becomes 1, and a mark 3 becomes 2
  over : shape.settle ≡ 0 → {st : State} {x : Class} {cs : List Class} {ms : List ℕ} →
      PlanBy allows shape st (x ∷ cs) ms → WithinShape st →
      SomePlan shape (relaxed st) (over_only ∷ cs) (suc (windows ms)) (covered ms + 1)
  unfolding allows goes_with windows covered count_if
  over none (skip {q = zero} m p) (outside o) =
      record {
        marks = 1 ∷ _;
        plan = opens refl (close (owes-less p (omega (arith, none))));
        few = le_refl _;
        short = omega arith;
      }
  over none (skip {q = suc q} m p) (outside o) = absurd (omega (arith, none))
  over none (opens m p) q = record { marks = _; plan = opens refl p; few = omega arith; short = omega arith }
  over none (close p) q =
      let t = over none p (outside (le_refl _)) in
      record { marks = t.marks; plan = close t.plan; few = t.few; short = t.short }
  over none (more m p) q = record { marks = _; plan = more refl p; few = omega arith; short = omega arith }
  over none (bridges m p) q =
      let larger = more_left (may-close p) (le_refl _) (le-suc _) in
      record { marks = 2 ∷ _; plan = more refl larger; few = omega arith; short = omega arith }

  -- any slot is settled: it gets class c, and at most d more slots are covered
  module _ (c : Class) (d : ℕ) where
    abbrev Here : Type 0
    Here =
        (st : State) (x : Class) (cs : List Class) (ms : List ℕ) → PlanBy allows shape st (x ∷ cs) ms → WithinShape st →
        SomePlan shape (relaxed st) (c ∷ cs) (suc (windows ms)) (covered ms + d)

    settle : Here → {st : State} {cs : List Class} {ms : List ℕ} (i : ℕ) →
        PlanBy allows shape st cs ms → WithinShape st →
        SomePlan shape (relaxed st) (set cs i c) (suc (windows ms)) (covered ms + d)
    unfolding windows covered count_if
    settle here i done q = record { marks = []; plan = done; few = omega arith; short = omega arith }
    settle here i (close p) q =
        let t = settle here i p (outside (le_refl _)) in
        record { marks = t.marks; plan = close t.plan; few = t.few; short = t.short }
    settle here zero (skip m p) q = here _ _ _ _ (skip m p) q
    settle here zero (opens m p) q = here _ _ _ _ (opens m p) q
    settle here zero (more m p) q = here _ _ _ _ (more m p) q
    settle here zero (bridges m p) q = here _ _ _ _ (bridges m p) q
    settle here (suc i) (skip {q = o} m p) (outside e) =
        let t = settle here i p (outside (omega arith)) in
        record { marks = 0 ∷ t.marks; plan = skip {q = o} m t.plan; few = t.few; short = t.short }
    settle here (suc i) (opens m p) q =
        let t = settle here i p (inside (le_refl _) (le_refl _)) in
        record {
          marks = 1 ∷ t.marks;
          plan = opens m t.plan;
          few = omega (arith, t.few);
          short = omega (arith, t.short);
        }
    settle here (suc i) (more m p) (inside e f) =
        let t = settle here i p (inside (le_of_suc-le e) f) in
        record { marks = 2 ∷ t.marks; plan = more m t.plan; few = t.few; short = omega (arith, t.short) }
    settle here (suc i) (bridges {ms = ms} m p) (inside e f) =
        bridge-before _ (covered ms + d) _ (omega arith) m (settle here i p (inside (le_of_suc-le e) (le_of_suc-le f)))

  module _ (i : ℕ) {cs : List Class} {w c : ℕ} {ms : List ℕ} (f : Fits shape cs w c ms) where
    plan : PlanBy allows shape (out 0) cs ms
    plan = legal→plan allows shape cs ms f.in_rule

    pub settled-under : shape.settle ≤ 1 → (ms' : List ℕ) × Fits shape (set cs i under_only) (suc (windows ms)) c ms'
    settled-under one =
        let t = settle under_only 0 (λ st x cs ms p q. under one p q) i plan (outside (omega arith)) in
        let e = plan→legal allows shape (set cs i under_only) t.marks t.plan in
        (t.marks, record { in_rule = e; few = t.few; short = omega (arith, t.short, f.short) })

    pub settled-over : shape.settle ≡ 0 →
        (ms' : List ℕ) × Fits shape (set cs i over_only) (suc (windows ms)) (min (suc c) (length cs)) ms'
    settled-over none =
        let t = settle over_only 1 (λ st x cs ms p q. over none p q) i plan (outside (omega arith)) in
        let e = plan→legal allows shape (set cs i over_only) t.marks t.plan in
        let most : covered t.marks ≤ length cs =
        omega (
          arith,
          covered_le t.marks,
          legal-length allows (nonzero shape) _ t.marks e,
          length-set cs i over_only,
        ) in
        (t.marks, record { in_rule = e; few = t.few; short = omega (arith, t.short, f.short, most) })
