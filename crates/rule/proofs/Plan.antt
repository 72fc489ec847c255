-- The rule as an inductive family, by the slots and bridges that are left to a window: the form in which facts about
-- plans are proved by induction. `legal→plan` and `plan→legal` prove that it is the rule.
--
-- A slot may be of any type, given which marks it may carry (`May`), so that loads, ranges and classes all serve as
-- slots. A window has a first slot and at most `later_slots` more, with at most h bridges. Between two windows lie at
-- least `settle` uncovered slots.
use Prim.Native.Nat.{ℕ, zero, suc, ◌+◌, ◌-◌, ◌≤◌, ◌<◌}
use native.Mathlib.Omega.{arith}
use mathlib.Core.Bool.{Bool, true, false, cond, true≢false, false≢true}
use mathlib.Core.List.{List, [], ◌∷◌}
use mathlib.Core.Path.{◌≡◌, refl, sym, ◌∙◌, subst}
use borrow.Author.Tests.{lt-ltb, ne_eqb}
use lib.Dec.{eqb}
use lib.ListN.{get_or}
use Rattle.rule.proofs.MarkKinds.{Kind, kind, uncovered, opening, later, bridge, above, follows-outside}
use Rattle.rule.proofs.MarkKinds.{follows-inside, inside-not-after-0, above-3-follows-none}
use Rattle.rule.proofs.LegalFrom.{WithinSoFar, Passes, LegalFrom, start, legal→from, from→legal}
use Rattle.rule.proofs.LegalFrom.{legal_from-split, legal_from-join, not-3→from-nil, keeps_from-of-ordered}
use Rattle.facts.proofs.Naturals.{suc-sub-one}
use Rattle.facts.proofs.Tests.{and-true→both}
use Rattle.rule.specs.ScanState.{slots_after, bridges_after, owed_after, too_soon, advanced}
use Rattle.rule.specs.Rule.{agrees, follows, ordered, clear, legal_by, nonzero}
use Rattle.rule.specs.declared.ScanState.{ScanState}
use Rattle.rule.specs.declared.Shape.{Shape}

pub nonzero-same : (shape : Shape) → 1 ≤ shape.len → nonzero shape ≡ shape
nonzero-same shape e =
    let f : suc (shape.len - 1) ≡ shape.len = omega arith in
    λ i. record { len = f i; h = shape.h; settle = shape.settle }

-- outside a window, with the number of uncovered slots still owed before the next one; or in a window, with the slots
-- and bridges left to it, and whether it may close here: it may after an over slot, and may not after a bridge
pub data State : Type 0 where
  out : (owed : ℕ) → State
  on : (closes : Bool) (slots bridges : ℕ) → State

-- the state after a slot with mark m
abbrev pub after_mark : (settle later_slots h : ℕ) → State → (m : ℕ) → State
after_mark settle later_slots h (out q) m = cond (eqb m 0) (out (q - 1)) (on true later_slots h)
after_mark settle later_slots h (on c r b) m =
    cond (eqb m 3) (on false (r - 1) (b - 1))
    (cond (eqb m 2) (on true (r - 1) b) (cond (eqb m 0) (out (settle - 1)) (on true later_slots h)))

module _ {A : Type 0} (May : ℕ → A → Type 0) (settle later_slots h : ℕ) where
  pub data Plan : State → List A → List ℕ → Type 0 where
    done : {q : ℕ} → Plan (out q) [] []
    skip : {q : ℕ} {x : A} {xs : List A} {ms : List ℕ} → May 0 x → Plan (out (q - 1)) xs ms →
        Plan (out q) (x ∷ xs) (0 ∷ ms)
    opens : {x : A} {xs : List A} {ms : List ℕ} → May 1 x → Plan (on true later_slots h) xs ms →
        Plan (out 0) (x ∷ xs) (1 ∷ ms)
    close : {r b : ℕ} {xs : List A} {ms : List ℕ} → Plan (out settle) xs ms → Plan (on true r b) xs ms
    more : {c : Bool} {r b : ℕ} {x : A} {xs : List A} {ms : List ℕ} →
        May 2 x → Plan (on true r b) xs ms → Plan (on c (suc r) b) (x ∷ xs) (2 ∷ ms)
    bridges : {c : Bool} {r b : ℕ} {x : A} {xs : List A} {ms : List ℕ} →
        May 3 x → Plan (on false r b) xs ms → Plan (on c (suc r) (suc b)) (x ∷ xs) (3 ∷ ms)

  abbrev next : State → (m : ℕ) → State
  next = after_mark settle later_slots h

  -- what comes after the first slot of a plan, and what else may come there
  tail-closed : (r b : ℕ) {q m : ℕ} {x : A} {xs : List A} {ms : List ℕ} → q ≡ settle → Plan (out q) (x ∷ xs) (m ∷ ms) →
      Plan (next (on true r b) m) xs ms
  tail-closed r b {xs = xs} {ms = ms} e (skip a p) = subst (λ n. Plan (out (n - 1)) xs ms) e p
  tail-closed r b e (opens a p) = p

  pub plan-tail : {st : State} {m : ℕ} {x : A} {xs : List A} {ms : List ℕ} → Plan st (x ∷ xs) (m ∷ ms) →
      Plan (next st m) xs ms
  plan-tail (skip a p) = p
  plan-tail (opens a p) = p
  plan-tail (close {r = r} {b = b} p) = tail-closed r b refl p
  plan-tail (more {r = r} a p) = rw (suc-sub-one r) p
  plan-tail (bridges {r = r} {b = b} a p) = rw (suc-sub-one r, suc-sub-one b) p

  closed-with-tail : (r b : ℕ) {q m : ℕ} {x : A} {xs : List A} {ms ks : List ℕ} → q ≡ settle →
      Plan (out q) (x ∷ xs) (m ∷ ms) → Plan (next (on true r b) m) xs ks → Plan (out q) (x ∷ xs) (m ∷ ks)
  closed-with-tail r b {xs = xs} {ks = ks} e (skip a p) t = skip a (subst (λ n. Plan (out (n - 1)) xs ks) (sym e) t)
  closed-with-tail r b e (opens a p) t = opens a t

  pub plan-with-tail : {st : State} {m : ℕ} {x : A} {xs : List A} {ms ks : List ℕ} → Plan st (x ∷ xs) (m ∷ ms) →
      Plan (next st m) xs ks → Plan st (x ∷ xs) (m ∷ ks)
  plan-with-tail (skip a p) t = skip a t
  plan-with-tail (opens a p) t = opens a t
  plan-with-tail (close {r = r} {b = b} p) t = close (closed-with-tail r b refl p t)
  plan-with-tail (more {r = r} a p) t = more a (rw (suc-sub-one r) at t)
  plan-with-tail (bridges {r = r} {b = b} a p) t = bridges a (rw (suc-sub-one r, suc-sub-one b) at t)

  -- no mark is above 3
  pub plan-marks : {st : State} {xs : List A} {ms : List ℕ} → Plan st xs ms → (i : ℕ) → get_or ms i 0 < 4
  plan-marks done i = omega arith
  plan-marks (skip a p) zero = omega arith
  plan-marks (skip a p) (suc i) = plan-marks p i
  plan-marks (opens a p) zero = omega arith
  plan-marks (opens a p) (suc i) = plan-marks p i
  plan-marks (close p) i = plan-marks p i
  plan-marks (more a p) zero = omega arith
  plan-marks (more a p) (suc i) = plan-marks p i
  plan-marks (bridges a p) zero = omega arith
  plan-marks (bridges a p) (suc i) = plan-marks p i

-- the last mark of a window under way, by whether the window may close after it
data LastMark : Bool → ℕ → Type 0 where
  over_slot : {p : ℕ} → 1 ≤ p → p ≤ 2 → LastMark true p
  a_bridge : LastMark false 3

last-1 : LastMark true 1
last-1 = over_slot {p = 1} (omega arith) (omega arith)

last-2 : LastMark true 2
last-2 = over_slot {p = 2} (omega arith) (omega arith)

-- the `State` that corresponds to a scan state
data Stands (shape : Shape) : ScanState → State → Type 0 where
  outside : {l b q : ℕ} → l ≤ shape.len → b ≤ shape.h →
      Stands shape (record { mark = 0; slots = l; bridges = b; owed = q }) (out q)
  inside : {c : Bool} {p l b r g : ℕ} → LastMark c p → l + r ≡ shape.len → b + g ≡ shape.h →
      Stands shape (record { mark = p; slots = l; bridges = b; owed = shape.settle }) (on c r g)

stands→fits : {shape : Shape} {at : ScanState} {st : State} → Stands shape at st → WithinSoFar shape at
stands→fits (outside l b) = omega arith
stands→fits (inside c l b) = omega arith

follows-last : {c : Bool} {p m : ℕ} → LastMark c p → 2 ≤ m → m ≤ 3 → true ≡ follows p m
follows-last {m = m} (over_slot {p} p₁ p₂) m₂ m₃ = follows-inside p m p₁ (omega arith) m₂ m₃
follows-last {m = m} a_bridge m₂ m₃ = follows-inside 3 m (omega arith) (omega arith) m₂ m₃

-- marks that may follow mark 0 may follow an over slot
ordered-after-over : {p : ℕ} (ms : List ℕ) → p ≤ 2 → ordered 0 ms ≡ true → ordered p ms ≡ true
unfolding ordered
ordered-after-over {p} [] p₂ e = rw (ne_eqb p 3 (omega arith))
ordered-after-over {p} (m ∷ ms) p₂ e = by (kind m) (and-true→both (follows 0 m) (ordered m ms) e)
  where
    by : {m : ℕ} → Kind m → (follows 0 m ≡ true) × (ordered m ms ≡ true) → ordered p (m ∷ ms) ≡ true
    by uncovered f = rw (sym (follows-outside p 0 p₂ (omega arith))) f.1
    by opening f = rw (sym (follows-outside p 1 p₂ (omega arith))) f.1
    by later f = absurd (false≢true (inside-not-after-0 0 2 (omega arith) (omega arith) ∙ f.0))
    by bridge f = absurd (false≢true (inside-not-after-0 0 3 (omega arith) (omega arith) ∙ f.0))
    by (above a) f = above-3-follows-none 0 a f.0

module _ {A : Type 0} (goes : A → ℕ → Bool) (shape : Shape) where
  -- a slot may carry the marks that go with it
  abbrev Goes : ℕ → A → Type 0
  Goes m x = goes x m ≡ true

  -- the family for the rule
  abbrev pub PlanBy : State → List A → List ℕ → Type 0
  PlanBy st xs ms = Plan Goes shape.settle (shape.len - 1) shape.h st xs ms

  abbrev StandsAt : ScanState → State → Type 0
  StandsAt at st = Stands (nonzero shape) at st

  abbrev scanned : ScanState → (m : ℕ) → ScanState
  scanned at m = advanced shape.settle at m

  -- where a window opens nothing is owed
  unowed : {xs : List A} {ms : List ℕ} (q : ℕ) → too_soon q 1 ≡ false → PlanBy (out 0) xs ms → PlanBy (out q) xs ms
  unfolding too_soon
  unowed zero e p = p
  unowed (suc q) e p = absurd (true≢false (sym (lt-ltb 0 (suc q) (omega arith)) ∙ e))

  module _ {x : A} {xs : List A} {ms : List ℕ} where
    plan-over : {c : Bool} {r g : ℕ} (l : ℕ) → l + r ≡ (nonzero shape).len → l + 1 ≤ (nonzero shape).len → Goes 2 x →
        ((r : ℕ) → l + 1 + r ≡ (nonzero shape).len → PlanBy (on true r g) xs ms) → PlanBy (on c r g) (x ∷ xs) (2 ∷ ms)
    plan-over {r = zero} l e f m p = absurd (omega arith)
    plan-over {r = suc r} l e f m p = more m (p r (omega arith))

    plan-bridge : {c : Bool} {r g : ℕ} (l b : ℕ) → l + r ≡ (nonzero shape).len → l + 1 ≤ (nonzero shape).len →
        b + g ≡ shape.h → b + 1 ≤ shape.h → Goes 3 x →
        ((r g : ℕ) → l + 1 + r ≡ (nonzero shape).len → b + 1 + g ≡ shape.h → PlanBy (on false r g) xs ms) →
        PlanBy (on c r g) (x ∷ xs) (3 ∷ ms)
    plan-bridge {r = zero} l b e f u v m p = absurd (omega arith)
    plan-bridge {r = suc r} {g = zero} l b e f u v m p = absurd (omega arith)
    plan-bridge {r = suc r} {g = suc g} l b e f u v m p = bridges m (p r g (omega arith) (omega arith))

    -- one slot more in front of the rest, which is a plan from the state after that slot
    plan-cons : {m : ℕ} {at : ScanState} {st : State} → Kind m → StandsAt at st →
        Passes (nonzero shape) at (goes x m) m →
        ((st : State) → StandsAt (scanned at m) st → PlanBy st xs ms) → PlanBy st (x ∷ xs) (m ∷ ms)
    unfolding follows slots_after bridges_after owed_after
    plan-cons uncovered (outside {q = q} l b) p f = skip {q = q} p.goes (f _ (outside (omega arith) (omega arith)))
    plan-cons uncovered (inside (over_slot p₁ p₂) l b) p f =
        close (skip {q = shape.settle} p.goes (f _ (outside (omega arith) (omega arith))))
    plan-cons uncovered (inside a_bridge l b) p f = absurd (false≢true p.follow)
    plan-cons opening (outside l b) p f =
        unowed _ p.in_time (opens p.goes (f _ (inside last-1 (omega arith) (omega arith))))
    plan-cons opening (inside (over_slot p₁ p₂) l b) p f =
        close (unowed _ p.in_time (opens p.goes (f _ (inside last-1 (omega arith) (omega arith)))))
    plan-cons opening (inside a_bridge l b) p f = absurd (false≢true p.follow)
    plan-cons later (outside l b) p f = absurd (false≢true p.follow)
    plan-cons later (inside c l b) p f =
        plan-over _ l p.fits.slots p.goes (λ r e. f _ (inside last-2 e b))
    plan-cons bridge (outside l b) p f = absurd (false≢true p.follow)
    plan-cons bridge (inside c l b) p f =
        plan-bridge _ _ l p.fits.slots b p.fits.bridges_fit p.goes (λ r g e u. f _ (inside a_bridge e u))
    plan-cons {at = at} (above a) s p f = above-3-follows-none at.mark a p.follow

    from_cons : {at : ScanState} {st next : State} (m : ℕ) → StandsAt at st → Goes m x → true ≡ follows at.mark m →
        too_soon at.owed m ≡ false → StandsAt (scanned at m) next →
        (StandsAt (scanned at m) next → LegalFrom goes (nonzero shape) (scanned at m) xs ms) →
        LegalFrom goes (nonzero shape) at (x ∷ xs) (m ∷ ms)
    from_cons m s c f e n o =
        legal_from-join goes (nonzero shape) _ ms x xs m (stands→fits s)
        (record { goes = c; follow = sym f; in_time = e; fits = stands→fits n }) (o n)

  from→plan : {at : ScanState} {st : State} (xs : List A) (ms : List ℕ) → StandsAt at st →
      LegalFrom goes (nonzero shape) at xs ms → PlanBy st xs ms
  unfolding agrees ordered
  from→plan [] [] (outside l b) o = done
  from→plan [] [] (inside (over_slot p₁ p₂) l b) o = close done
  from→plan [] [] (inside a_bridge l b) o = absurd (false≢true o.order)
  from→plan [] (m ∷ ms) s o = absurd (false≢true o.agree)
  from→plan (x ∷ xs) [] s o = absurd (false≢true o.agree)
  from→plan {at = at} (x ∷ xs) (m ∷ ms) s o =
      let (p, left) = legal_from-split goes (nonzero shape) _ ms x xs m o in
      plan-cons (kind m) s p (λ st n. from→plan {at = scanned at m} xs ms n left)

  -- where a window closes, marks that are legal from the start are legal from here
  from-closed : {p l b q : ℕ} (xs : List A) (ms : List ℕ) → p ≤ 2 →
      WithinSoFar (nonzero shape) (record { mark = p; slots = l; bridges = b; owed = q }) →
      LegalFrom goes (nonzero shape) (start q) xs ms → LegalFrom goes (nonzero shape)
      (record { mark = p; slots = l; bridges = b; owed = q }) xs ms
  from-closed {q = q} xs ms p₂ f o =
      let (e, owed) = from→legal goes (nonzero shape) xs ms q o in
      record {
        agree = o.agree;
        order = ordered-after-over ms p₂ o.order;
        shape_kept = keeps_from-of-ordered goes (nonzero shape) ms f o.order owed o.shape_kept.kept;
      }

  plan→from : {st : State} {xs : List A} {ms : List ℕ} → PlanBy st xs ms → {at : ScanState} → StandsAt at st →
      LegalFrom goes (nonzero shape) at xs ms
  unfolding slots_after bridges_after owed_after too_soon
  plan→from done (outside l b) = not-3→from-nil goes (nonzero shape) _ (omega arith) refl
  plan→from (skip c q) (outside l b) =
      from_cons 0 (outside l b) c (follows-outside 0 0 (omega arith) (omega arith)) refl
      (outside (omega arith) (omega arith)) (λ n. plan→from q n)
  plan→from (opens c q) (outside l b) =
      from_cons 1 (outside l b) c (follows-outside 0 1 (omega arith) (omega arith)) refl
      (inside last-1 (omega arith) (omega arith)) (λ n. plan→from q n)
  plan→from (close q) (inside (over_slot p₁ p₂) l b) =
      from-closed _ _ p₂ (omega arith) (plan→from q (outside (omega arith) (omega arith)))
  plan→from (more c q) (inside p l b) =
      from_cons 2 (inside p l b) c (follows-last p (omega arith) (omega arith)) refl (inside last-2 (omega arith) b)
      (λ n. plan→from q n)
  plan→from (bridges c q) (inside p l b) =
      from_cons 3 (inside p l b) c (follows-last p (omega arith) (omega arith)) refl
      (inside a_bridge (omega arith) (omega arith)) (λ n. plan→from q n)

  -- the rule, from where q uncovered slots are owed, as they are after a window
  pub legal→plan_from : (q : ℕ) (xs : List A) (ms : List ℕ) → legal_by goes (nonzero shape) xs ms ≡ true →
      clear q ms ≡ true → PlanBy (out q) xs ms
  legal→plan_from q xs ms e owed =
      from→plan xs ms (outside (omega arith) (omega arith)) (legal→from goes (nonzero shape) xs ms q e owed)

  pub plan_from→legal : (q : ℕ) (xs : List A) (ms : List ℕ) → PlanBy (out q) xs ms →
      (legal_by goes (nonzero shape) xs ms ≡ true) × (clear q ms ≡ true)
  plan_from→legal q xs ms p = from→legal goes (nonzero shape) xs ms q (plan→from p (outside (omega arith) (omega arith)))

  -- at the start nothing is owed
  pub legal→plan : (xs : List A) (ms : List ℕ) → legal_by goes (nonzero shape) xs ms ≡ true → PlanBy (out 0) xs ms
  unfolding clear
  legal→plan xs ms e = legal→plan_from 0 xs ms e refl

  pub plan→legal : (xs : List A) (ms : List ℕ) → PlanBy (out 0) xs ms → legal_by goes (nonzero shape) xs ms ≡ true
  plan→legal xs ms p = (plan_from→legal 0 xs ms p).0
