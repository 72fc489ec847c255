-- What `best` is: every plan with at most w windows covers at least that many slots, and if it is below T, some plan
-- covers just that many.
use Prim.Native.Nat.{ℕ, zero, suc, ◌-◌, ◌≤◌, ◌<◌, min}
use native.Mathlib.Nat.{le_refl, le-suc, le_trans}
use native.Mathlib.Numerals.{unary_clauses}
use native.Mathlib.Omega.{arith, min_cases}
use mathlib.Core.Bool.{Bool, true, false, cond, false≢true}
use mathlib.Core.List.{List, [], ◌∷◌}
use mathlib.Core.Path.{◌≡◌, refl}
use Rattle.facts.proofs.Naturals.{min-mono}
use Rattle.facts.proofs.Tests.{cond_cases, cond-at-most, cond-mono}
use Rattle.rule.proofs.Plan.{State, out, on, PlanBy, done, skip, opens, close, more, bridges}
use Rattle.rule.proofs.Plan.{legal→plan_from, plan_from→legal}
use Rattle.rule.specs.Ranges.{Class, under_only, over_only, either, allows}
use Rattle.rule.specs.Rule.{goes_with, clear, count_if, windows, covered}
use Rattle.rule.specs.declared.Shape.{Shape}
use Rattle.requests.specs.Best.{Fits, using_one, saturating_suc, clearable, owing, best, best_inside}
use Rattle.requests.specs.Best.{best_from, best_closable}

module _ (shape : Shape) where
  -- some plan with at most w windows covers at most c slots
  pub record SomePlan (st : State) (cs : List Class) (w c : ℕ) : Type 0 where
    pub marks : List ℕ
    pub plan : PlanBy allows shape st cs marks
    pub few : windows marks ≤ w
    pub short : covered marks ≤ c

module _ (T : ℕ) where
  -- x is at most y when both are capped at T
  infix 4 ◌⊑◌
  record ◌⊑◌ (x y : ℕ) : Type 0 where
    le : min T x ≤ min T y

  le→⊑ : {x y : ℕ} → x ≤ y → x ⊑ y
  le→⊑ e = record { le = omega arith }

  saturating_suc-le : {x y : ℕ} → x ⊑ y → saturating_suc T x ≤ saturating_suc T y
  saturating_suc-le e = omega (arith, e.le)

  using_one-le : {f g : ℕ → ℕ} {m n : ℕ} → m ≤ n → ((i j : ℕ) → i ≤ j → g j ⊑ f i) → using_one T n g ⊑ using_one T m f
  using_one-le {m = zero} e c = record { le = omega arith }
  using_one-le {m = suc m} {n = zero} e c = absurd (omega arith)
  using_one-le {m = suc m} {n = suc n} e c = c m n (omega arith)

  pub using_one-capped : {f : ℕ → ℕ} → ((v : ℕ) → f v ≤ T) → (n : ℕ) → using_one T n f ≤ T
  using_one-capped e zero = omega arith
  using_one-capped e (suc n) = e n

  cond-⊑ : (b : Bool) {x y x' y' : ℕ} → x ⊑ x' → y ⊑ y' → cond b x y ⊑ cond b x' y'
  cond-⊑ true e f = e
  cond-⊑ false e f = f

-- a slot that can be left uncovered is one of the slots owed
pub clearable-cons : (q : ℕ) (c : Class) (cs : List Class) → allows c 0 ≡ true →
    clearable q (c ∷ cs) ≡ clearable (q - 1) cs
unfolding clearable
clearable-cons zero c cs m = refl
clearable-cons (suc q) c cs m = rw m (simp unary_clauses)

pub clearable-nil : (q : ℕ) → clearable q [] ≡ true
unfolding clearable
clearable-nil zero = refl
clearable-nil (suc q) = refl

owing-mono : (T q : ℕ) (cs : List Class) {m n : ℕ} → m ≤ n → owing T q cs m ≤ owing T q cs n
owing-mono T q cs e = cond-mono (clearable q cs) e (le_refl T)

module _ (T : ℕ) (shape : Shape) where
  closable-mono : (cs : List Class) {a a' b b' : ℕ} → (a ≤ a') × (b ≤ b') →
      min (owing T shape.settle cs a) b ≤ min (owing T shape.settle cs a') b'
  closable-mono cs (e, f) = min-mono (owing-mono T shape.settle cs e, f)

  -- with more windows, or with more slots and bridges left to a window, the least covered count is no higher
  best-mono : (cs : List Class) {r b w r' b' w' : ℕ} → r ≤ r' → b ≤ b' → w ≤ w' →
      (best T shape cs w' ≤ best T shape cs w) × (best_inside T shape cs r' b' w' ≤ best_inside T shape cs r b w)
  unfolding best best_inside
  best-mono [] p q s = (le_refl _, le_refl _)
  best-mono (c ∷ cs) p q s = (
    cond-mono (allows c 0) (best-mono cs (le_refl 0) (le_refl 0) s).0
        (saturating_suc-le T (using_one-le T s λ i j e. le→⊑ T
        (closable-mono cs (best-mono cs (le_refl _) (le_refl shape.h) e)))),
    saturating_suc-le T (using_one-le T p λ i j e.
        cond-⊑ T _ (le→⊑ T (closable-mono cs (best-mono cs e q s)))
        (using_one-le T q λ a b f. le→⊑ T (best-mono cs e f s).1)),
  )

  pub best-le : (cs : List Class) (w : ℕ) → best T shape cs w ≤ T
  unfolding best
  best-le [] w = omega arith
  best-le (c ∷ cs) w = cond-at-most (allows c 0) _ _ (best-le cs w) (omega arith)

  pub best_inside-le : (cs : List Class) (r b w : ℕ) → best_inside T shape cs r b w ≤ T
  unfolding best_inside
  best_inside-le [] r b w = omega arith
  best_inside-le (c ∷ cs) r b w = omega arith

  -- a window that continues needs a slot left to it
  pub best_inside-no-slots : (cs : List Class) (b w : ℕ) → best_inside T shape cs 0 b w ≡ T
  unfolding best_inside
  best_inside-no-slots [] b w = refl
  best_inside-no-slots (c ∷ cs) b w = omega arith

  pub best-antitone : (cs : List Class) {w w' : ℕ} → w ≤ w' → best T shape cs w' ≤ best T shape cs w
  best-antitone cs s = (best-mono cs (le_refl 0) (le_refl 0) s).0

  -- slots that are owed only add to the count
  best-le-from : (q : ℕ) (cs : List Class) (w : ℕ) → best T shape cs w ≤ best_from T shape q cs w
  best-le-from q cs w = cond_cases (λ n. best T shape cs w ≤ n) (clearable q cs) (le_refl _) (best-le cs w)

  -- a slot that may be over is taken as over
  inside-over-le : (cs : List Class) (r b w n : ℕ) (c : Class) → allows c 2 ≡ true → best_closable T shape cs r b w ≤ n →
      best_inside T shape (c ∷ cs) (suc r) b w ≤ suc n
  unfolding best_inside allows goes_with
  inside-over-le cs r b w n under_only m e = absurd (false≢true m)
  inside-over-le cs r b w n over_only m e = omega arith
  inside-over-le cs r b w n either m e = omega arith

  -- opening a new window at the next over slot, instead of continuing the one under way, covers no more slots
  best-suc-le-inside : (cs : List Class) {r b : ℕ} (w : ℕ) → r ≤ shape.len - 1 → b ≤ shape.h →
      best T shape cs (suc w) ≤ best_inside T shape cs r b w
  unfolding best best_inside allows goes_with
  best-suc-le-inside [] w p q = omega arith
  best-suc-le-inside (under_only ∷ cs) {r = zero} w p q = omega (arith, best-le cs (suc w))
  best-suc-le-inside (under_only ∷ cs) {r = suc r} {b = zero} w p q = omega (arith, best-le cs (suc w))
  best-suc-le-inside (under_only ∷ cs) {r = suc r} {b = suc b} w p q =
      let later = best-suc-le-inside cs {r = r} {b = b} w (omega arith) (omega arith) in
      omega (arith, best-le cs (suc w), later)
  best-suc-le-inside (over_only ∷ cs) {r = zero} w p q = omega arith
  best-suc-le-inside (over_only ∷ cs) {r = suc r} w p q =
      saturating_suc-le T (le→⊑ T (closable-mono cs (best-mono cs (omega arith) q (le_refl w))))
  best-suc-le-inside (either ∷ cs) {r = zero} w p q = omega (arith, best-le cs (suc w))
  best-suc-le-inside (either ∷ cs) {r = suc r} {b = b} w p q =
      let later = best-suc-le-inside cs {r = r} {b = b} w (omega arith) q in
      omega (arith, best-le cs (suc w), later, best-antitone cs (le-suc w), best-le-from shape.settle cs w)

  -- the least that a plan with at most w windows covers from a state on
  abbrev pub least : State → List Class → (w : ℕ) → ℕ
  least (out q) cs w = best_from T shape q cs w
  least (on true r b) cs w = best_closable T shape cs r b w
  least (on false r b) cs w = best_inside T shape cs r b w

  least-le-inside : (cs : List Class) (closes : Bool) (r b w : ℕ) →
      least (on closes r b) cs w ≤ best_inside T shape cs r b w
  least-le-inside cs true r b w = omega arith
  least-le-inside cs false r b w = le_refl _

  -- one slot more in front, which opens a window or is a bridge
  module _ (cs : List Class) (w n : ℕ) where
    best-opening-le : (c : Class) → allows c 1 ≡ true → best_closable T shape cs (shape.len - 1) shape.h w ≤ n →
        best T shape (c ∷ cs) (suc w) ≤ suc n
    unfolding best allows goes_with
    best-opening-le under_only m e = absurd (false≢true m)
    best-opening-le over_only m e = omega arith
    best-opening-le either m e =
        let later = best-suc-le-inside cs w (le_refl (shape.len - 1)) (le_refl shape.h) in
        omega (arith, later, best-antitone cs (le-suc w), best-le-from shape.settle cs w)

    inside-bridge-le : (r b : ℕ) (c : Class) → allows c 3 ≡ true → best_inside T shape cs r b w ≤ n →
        best_inside T shape (c ∷ cs) (suc r) (suc b) w ≤ suc n
    unfolding best_inside allows goes_with
    inside-bridge-le r b under_only m e = omega arith
    inside-bridge-le r b over_only m e = absurd (false≢true m)
    inside-bridge-le r b either m e =
        let spare = (best-mono cs (le_refl r) (le-suc b) (le_refl w)).1 in
        omega (arith, spare)

  pub least-le-covered : {st : State} {cs : List Class} {ms : List ℕ} (w : ℕ) →
      PlanBy allows shape st cs ms → windows ms ≤ w →
      least st cs w ≤ covered ms
  unfolding best clearable windows covered count_if
  least-le-covered w (done {q}) e = rw (clearable-nil q) (omega arith)
  least-le-covered w (skip {q} {x} {xs} m p) e = rw (clearable-cons q x xs m, m) (least-le-covered w p e)
  least-le-covered zero (opens m p) e = absurd (omega arith)
  least-le-covered (suc w) (opens {x} {xs} {ms} m p) e =
      best-opening-le xs w (covered ms) x m (least-le-covered w p (omega arith))
  least-le-covered w (close p) e = let f = least-le-covered w p e in omega (arith, f)
  least-le-covered w (more {c} {r} {b} {x} {xs} {ms} m p) e =
      le_trans (least-le-inside (x ∷ xs) c (suc r) b w)
      (inside-over-le xs r b w (covered ms) x m (least-le-covered w p e))
  least-le-covered w (bridges {c} {r} {b} {x} {xs} {ms} m p) e =
      le_trans (least-le-inside (x ∷ xs) c (suc r) (suc b) w)
      (inside-bridge-le xs w (covered ms) r b x m (least-le-covered w p e))

  abbrev OutsideAt : List Class → (q w : ℕ) → Type 0
  OutsideAt cs q w = best_from T shape q cs w < T → SomePlan shape (out q) cs w (best_from T shape q cs w)

  abbrev Outside : List Class → Type 0
  Outside cs = (q w : ℕ) → OutsideAt cs q w

  abbrev Inside : List Class → Type 0
  Inside cs = (closes : Bool) (r b w : ℕ) → best_inside T shape cs r b w < T →
      SomePlan shape (on closes r b) cs w (best_inside T shape cs r b w)

  module _ (cs : List Class) (o : Outside cs) (i : Inside cs) where
    found-after-over : (r b w : ℕ) → best_closable T shape cs r b w < T →
        SomePlan shape (on true r b) cs w (best_closable T shape cs r b w)
    found-after-over r b w e =
        min_cases (best_from T shape shape.settle cs w) (best_inside T shape cs r b w) _
        (λ _ s.
        let f = o shape.settle w (omega arith) in
        record { marks = f.marks; plan = close f.plan; few = f.few; short = omega (arith, f.short) })
        (λ _ s.
        let f = i true r b w (omega arith) in
        record { marks = f.marks; plan = f.plan; few = f.few; short = omega (arith, f.short) })

    skipped : (c : Class) (q w : ℕ) → allows c 0 ≡ true → OutsideAt (c ∷ cs) q w
    unfolding best windows covered count_if
    skipped c q w m = rw (clearable-cons q c cs m, m) λ e.
        let f = o (q - 1) w e in
        record { marks = 0 ∷ f.marks; plan = skip {q = q} m f.plan; few = f.few; short = f.short }

    outside : (c : Class) → Outside (c ∷ cs)
    unfolding best clearable allows goes_with windows covered count_if
    outside under_only q w e = skipped under_only q w refl e
    outside over_only (suc q) w e = absurd (omega arith)
    outside over_only zero zero e = absurd (omega arith)
    outside over_only zero (suc w) e =
        let f = found-after-over (shape.len - 1) shape.h w (omega arith) in
        record {
          marks = 1 ∷ f.marks;
          plan = opens refl f.plan;
          few = omega (arith, f.few);
          short = omega (arith, f.short);
        }
    outside either q w e = skipped either q w refl e

    over_slot : (c : Class) (closes : Bool) (r b w : ℕ) → allows c 2 ≡ true →
        saturating_suc T (best_closable T shape cs r b w) < T →
        SomePlan shape (on closes (suc r) b) (c ∷ cs) w (saturating_suc T (best_closable T shape cs r b w))
    unfolding windows covered count_if
    over_slot c closes r b w m e =
        let f = found-after-over r b w (omega arith) in
        record { marks = 2 ∷ f.marks; plan = more m f.plan; few = f.few; short = omega (arith, f.short) }

    inside : (c : Class) → Inside (c ∷ cs)
    unfolding best_inside allows goes_with windows covered count_if
    inside c closes zero b w e = absurd (omega arith)
    inside under_only closes (suc r) zero w e = absurd (omega arith)
    inside under_only closes (suc r) (suc b) w e =
        let f = i false r b w (omega arith) in
        record { marks = 3 ∷ f.marks; plan = bridges refl f.plan; few = f.few; short = omega (arith, f.short) }
    inside over_only closes (suc r) b w e = over_slot over_only closes r b w refl e
    inside either closes (suc r) b w e = over_slot either closes r b w refl e

  found : (cs : List Class) → Outside cs × Inside cs
  unfolding best best_inside windows covered count_if
  found [] = (
    (λ q w e. record { marks = []; plan = done; few = omega arith; short = omega arith }),
    (λ closes r b w e. absurd (omega arith)),
  )
  found (c ∷ cs) = let (o, i) = found cs in (outside cs o i c, inside cs o i c)

  -- where q uncovered slots are owed: of marks that begin with so many
  pub best_from-le-covered : (q : ℕ) {cs : List Class} {w c : ℕ} {ms : List ℕ} → Fits shape cs w c ms →
      clear q ms ≡ true → best_from T shape q cs w ≤ covered ms
  best_from-le-covered q {cs} {w} {ms = ms} f owed =
      least-le-covered w (legal→plan_from allows shape q cs ms f.in_rule owed) f.few

  pub best_from-met : (q : ℕ) (cs : List Class) (w : ℕ) → best_from T shape q cs w < T →
      (ms : List ℕ) × Fits shape cs w (best_from T shape q cs w) ms × (clear q ms ≡ true)
  best_from-met q cs w e =
      let f = (found cs).0 q w e in
      let (in_rule, owed) = plan_from→legal allows shape q cs f.marks f.plan in
      (f.marks, record { in_rule = in_rule; few = f.few; short = f.short }, owed)

  -- at the start nothing is owed
  pub best-le-covered : {cs : List Class} {w c : ℕ} {ms : List ℕ} → Fits shape cs w c ms →
      best T shape cs w ≤ covered ms
  unfolding clearable clear
  best-le-covered f = best_from-le-covered 0 f refl

  pub best-met : (cs : List Class) (w : ℕ) → best T shape cs w < T →
      (ms : List ℕ) × Fits shape cs w (best T shape cs w) ms
  unfolding clearable
  best-met cs w e = let (ms, f, _) = best_from-met 0 cs w e in (ms, f)
