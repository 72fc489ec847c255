-- What is drawn is the first plan within what is left that begins with the front, if there is one.
use Prim.Native.Nat.{ℕ, zero, suc, ◌-◌, ◌≤◌, ◌<◌}
use native.Mathlib.Nat.{le_trans}
use native.Mathlib.Omega.{arith}
use mathlib.Core.Bool.{Bool, true, false, true≢false, false≢true, cond, not}
use mathlib.Core.List.{List, [], ◌∷◌, ◌++◌}
use mathlib.Core.Logic.{◌⊎◌, inl, inr}
use mathlib.Core.Path.{◌≡◌, refl, sym, ap, ◌∙◌, subst}
use borrow.Author.Tests.{ltb-true, ltb-false}
use lib.Dec.{eqb, ltb}
use lib.ListN.{length}
use Rattle.facts.proofs.Naturals.{suc-sub-one}
use Rattle.facts.proofs.Tests.{cond_cases}
use Rattle.rule.proofs.Classes.{not-allows-0→allows-1, not-allows-2→allows-3}
use Rattle.rule.proofs.Order.{first-congr, level-or-same}
use Rattle.rule.proofs.Plan.{State, out, on, PlanBy, done, skip, opens, close, more, bridges, legal→plan, plan→legal}
use Rattle.rule.proofs.Plan.{after_mark, plan-tail, plan-with-tail}
use Rattle.rule.specs.Order.{◌≺◌, smaller, Begins, First}
use Rattle.rule.specs.Ranges.{Class, allows}
use Rattle.rule.specs.Rule.{count_if, windows, covered}
use Rattle.rule.specs.declared.Shape.{Shape}
use Rattle.settings.specs.declared.Settings.{Settings}
use Rattle.requests.proofs.BestIsLeast.{least, clearable-cons, least-le-covered}
use Rattle.requests.specs.Best.{using_one, saturating_suc, clearable, best, best_inside, best_from, best_after}
use Rattle.requests.specs.Best.{best_closable}
use Rattle.requests.specs.Drawing.{closed_mark, next_mark, left_of, drawn_from}
use Rattle.requests.specs.Solution.{sentinel, completed, drawn_plan, FitsAt}

-- outside a window none closes
pub closed-outside : (c needed : ℕ) → closed_mark 0 c needed ≡ 0
closed-outside c needed = cond_cases (λ m. m ≡ 0) (ltb c needed) refl refl

-- a count k fits what a slot leaves of n exactly when, with the slot, it fits n; that n has what the slot uses is known
-- from another count j
left_of-fits : (used : Bool) (n k : ℕ) → cond used (suc k) k ≤ n → k ≤ left_of n used
left_of-fits true n k e = omega arith
left_of-fits false n k e = e

fits-left_of : (used : Bool) (n k j : ℕ) → cond used (suc j) j ≤ n → k ≤ left_of n used → cond used (suc k) k ≤ n
fits-left_of true n k j e f = omega arith
fits-left_of false n k j e f = f

left_of-le : (used : Bool) (n : ℕ) → left_of n used ≤ n
left_of-le true n = omega arith
left_of-le false n = omega arith

-- the states that a mark leads to, 0 standing for the start too
data After : (m : ℕ) → State → Type 0 where
  outside : {q : ℕ} → After 0 (out q)
  first_slot : {r b : ℕ} → After 1 (on true r b)
  over_slot : {r b : ℕ} → After 2 (on true r b)
  bridge : {r b : ℕ} → After 3 (on false r b)

module _ (shape : Shape) where
  -- a plan from a state on, with at most w windows and c covered slots
  record PlanWithin (st : State) (cs : List Class) (w c : ℕ) (ms : List ℕ) : Type 0 where
    plan : PlanBy allows shape st cs ms
    few : windows ms ≤ w
    short : covered ms ≤ c

  abbrev FirstFrom : State → List Class → (w c : ℕ) → List ℕ → Type 0
  FirstFrom st cs w c = First (PlanWithin st cs w c)

  -- a window that may not close, or may not before slots that need to cover more than c
  abbrev Stays : Bool → List Class → (w c : ℕ) → Type 0
  Stays closes cs w c =
      closes ≡ true → (ks : List ℕ) → PlanBy allows shape (out shape.settle) cs ks → windows ks ≤ w → c < covered ks

  no-slots : {st : State} {w c : ℕ} → PlanWithin st [] w c [] → FirstFrom st [] w c []
  no-slots p = record { holds = p; first = λ ks q. inl (by q.plan) }
    where
      by : {st : State} {ks : List ℕ} → PlanBy allows shape st [] ks → [] ≡ ks
      by done = refl
      by (close q) = by q

  -- One slot more in front: with its mark, the first plan of the later slots is the first of all. Another plan ks is
  -- taken by its first constructor.
  module _ (x : Class) (cs : List Class) (w c : ℕ) where
    skip-before : {q : ℕ} {ms ks : List ℕ} → FirstFrom (out (q - 1)) cs w c ms →
        PlanBy allows shape (out q) (x ∷ cs) ks → windows ks ≤ w → covered ks ≤ c → (0 ∷ ms ≡ ks) ⊎ (0 ∷ ms ≺ ks)
    unfolding windows covered count_if
    skip-before f (skip m p) few short = level-or-same 0 (f.first _ (record { plan = p; few = few; short = short }))
    skip-before f (opens m p) few short = inr (smaller {m = 0} {k = 1} (omega arith))

    skipped : (q : ℕ) {ms : List ℕ} → allows x 0 ≡ true → FirstFrom (out (q - 1)) cs w c ms →
        FirstFrom (out q) (x ∷ cs) w c (0 ∷ ms)
    unfolding windows covered count_if
    skipped q a f =
        record {
          holds = record { plan = skip {q = q} a f.holds.plan; few = f.holds.few; short = f.holds.short };
          first = λ ks p. skip-before f p.plan p.few p.short;
        }

    open-before : {ms ks : List ℕ} → allows x 0 ≡ false → FirstFrom (on true (shape.len - 1) shape.h) cs w c ms →
        PlanBy allows shape (out 0) (x ∷ cs) ks → windows ks ≤ suc w → covered ks ≤ suc c →
        (1 ∷ ms ≡ ks) ⊎ (1 ∷ ms ≺ ks)
    unfolding windows covered count_if
    open-before a f (skip m p) few short = absurd (true≢false (sym m ∙ a))
    open-before a f (opens m p) few short =
        level-or-same 1 (f.first _ (record { plan = p; few = omega arith; short = omega arith }))

    opened : {ms : List ℕ} → allows x 0 ≡ false → FirstFrom (on true (shape.len - 1) shape.h) cs w c ms →
        FirstFrom (out 0) (x ∷ cs) (suc w) (suc c) (1 ∷ ms)
    unfolding windows covered count_if
    opened a f =
        record {
          holds = record {
            plan = opens (not-allows-0→allows-1 x a) f.holds.plan;
            few = omega (arith, f.holds.few);
            short = omega (arith, f.holds.short);
          };
          first = λ ks p. open-before a f p.plan p.few p.short;
        }

    -- what begins outside a window comes before what continues one
    close-before : {r b q : ℕ} {ms ks : List ℕ} → FirstFrom (out shape.settle) (x ∷ cs) w c ms →
        PlanBy allows shape (out q) (x ∷ cs) ms → PlanBy allows shape (on true r b) (x ∷ cs) ks →
        windows ks ≤ w → covered ks ≤ c → (ms ≡ ks) ⊎ (ms ≺ ks)
    close-before f m (close p) few short = f.first _ (record { plan = p; few = few; short = short })
    close-before f (skip m p) (more o q) few short = inr (smaller {m = 0} {k = 2} (omega arith))
    close-before f (skip m p) (bridges o q) few short = inr (smaller {m = 0} {k = 3} (omega arith))
    close-before f (opens m p) (more o q) few short = inr (smaller {m = 1} {k = 2} (omega arith))
    close-before f (opens m p) (bridges o q) few short = inr (smaller {m = 1} {k = 3} (omega arith))

    closed : {r b : ℕ} {ms : List ℕ} → FirstFrom (out shape.settle) (x ∷ cs) w c ms →
        FirstFrom (on true r b) (x ∷ cs) w c ms
    closed f =
        record {
          holds = record { plan = close f.holds.plan; few = f.holds.few; short = f.holds.short };
          first = λ ks p. close-before f f.holds.plan p.plan p.few p.short;
        }

    over-before : {closes : Bool} {r b : ℕ} {ms ks : List ℕ} → Stays closes (x ∷ cs) w (suc c) →
        FirstFrom (on true r b) cs w c ms → PlanBy allows shape (on closes (suc r) b) (x ∷ cs) ks →
        windows ks ≤ w → covered ks ≤ suc c → (2 ∷ ms ≡ ks) ⊎ (2 ∷ ms ≺ ks)
    unfolding windows covered count_if
    over-before {ks = ks} stays f (close p) few short = absurd (omega (arith, stays refl ks p few))
    over-before stays f (more m p) few short =
        level-or-same 2 (f.first _ (record { plan = p; few = few; short = omega arith }))
    over-before stays f (bridges m p) few short = inr (smaller {m = 2} {k = 3} (omega arith))

    continued : {closes : Bool} {r b : ℕ} {ms : List ℕ} → Stays closes (x ∷ cs) w (suc c) → allows x 2 ≡ true →
        FirstFrom (on true r b) cs w c ms → FirstFrom (on closes (suc r) b) (x ∷ cs) w (suc c) (2 ∷ ms)
    unfolding windows covered count_if
    continued stays a f =
        record {
          holds = record {
            plan = more a f.holds.plan;
            few = f.holds.few;
            short = omega (arith, f.holds.short);
          };
          first = λ ks p. over-before stays f p.plan p.few p.short;
        }

    bridge-before : {closes : Bool} {r b : ℕ} {ms ks : List ℕ} → Stays closes (x ∷ cs) w (suc c) → allows x 2 ≡ false →
        FirstFrom (on false r b) cs w c ms → PlanBy allows shape (on closes (suc r) (suc b)) (x ∷ cs) ks →
        windows ks ≤ w → covered ks ≤ suc c → (3 ∷ ms ≡ ks) ⊎ (3 ∷ ms ≺ ks)
    unfolding windows covered count_if
    bridge-before {ks = ks} stays a f (close p) few short = absurd (omega (arith, stays refl ks p few))
    bridge-before stays a f (more m p) few short = absurd (true≢false (sym m ∙ a))
    bridge-before stays a f (bridges m p) few short =
        level-or-same 3 (f.first _ (record { plan = p; few = few; short = omega arith }))

    bridged : {closes : Bool} {r b : ℕ} {ms : List ℕ} → Stays closes (x ∷ cs) w (suc c) → allows x 2 ≡ false →
        FirstFrom (on false r b) cs w c ms → FirstFrom (on closes (suc r) (suc b)) (x ∷ cs) w (suc c) (3 ∷ ms)
    unfolding windows covered count_if
    bridged stays a f =
        record {
          holds = record {
            plan = bridges (not-allows-2→allows-3 x a) f.holds.plan;
            few = f.holds.few;
            short = omega (arith, f.holds.short);
          };
          first = λ ks p. bridge-before stays a f p.plan p.few p.short;
        }

module _ (T : ℕ) (shape : Shape) where
  -- each slot gets a mark
  pub drawn_from-length : (cs : List Class) (front : List ℕ) (m w c : ℕ) →
      length (drawn_from T shape cs front m w c) ≡ length cs
  unfolding drawn_from
  drawn_from-length [] front m w c = refl
  drawn_from-length (x ∷ cs) front m w c = ap suc (drawn_from-length cs _ _ _ _)

  -- what is drawn begins with the front, if there are slots for it
  pub drawn_from-begins : (cs : List Class) (front : List ℕ) (m w c : ℕ) → length front ≤ length cs →
      Begins front (drawn_from T shape cs front m w c)
  unfolding drawn_from
  drawn_from-begins cs [] m w c few = (drawn_from T shape cs [] m w c, refl)
  drawn_from-begins [] (f ∷ front) m w c few = absurd (omega arith)
  drawn_from-begins (x ∷ cs) (f ∷ front) m w c few =
      let (rest, e) = drawn_from-begins cs front f (left_of w (eqb f 1)) (left_of c (not (eqb f 0))) (omega arith) in
      (rest, ap (λ ms. f ∷ ms) e)

  -- the marks from a slot of class x on, with its own mark given
  abbrev from_mark : List Class → (next w c : ℕ) → List ℕ
  from_mark cs next w c = next ∷ drawn_from T shape cs [] next (left_of w (eqb next 1)) (left_of c (not (eqb next 0)))

  abbrev Draws : List Class → Type 0
  Draws cs =
      (m : ℕ) (st : State) → After m st → (w c : ℕ) → least T shape st cs w ≤ c → c < T →
      FirstFrom shape st cs w c (drawn_from T shape cs [] m w c)

  module _ (x : Class) (cs : List Class) (later : Draws cs) where
    draws-outside : (q w c : ℕ) → best_from T shape q (x ∷ cs) w ≤ c → c < T →
        FirstFrom shape (out q) (x ∷ cs) w c (from_mark cs (cond (allows x 0) 0 1) w c)
    unfolding best clearable
    draws-outside q w c e below = by (allows x 0) refl q w c e below
      where
        by : (free : Bool) → allows x 0 ≡ free → (q w c : ℕ) → best_from T shape q (x ∷ cs) w ≤ c → c < T →
            FirstFrom shape (out q) (x ∷ cs) w c (from_mark cs (cond free 0 1) w c)
        by true a q w c e below =
            skipped shape x cs w c q a (later _ _ outside w c (rw (clearable-cons q x cs a, a) at e) below)
        by false a (suc q) w c e below = absurd (omega (arith, rw a at e))
        by false a zero zero c e below = absurd (omega (arith, rw a at e))
        by false a zero (suc w) zero e below = absurd (omega (arith, rw a at e))
        by false a zero (suc w) (suc c) e below =
            let needed = rw a at e in
            rw (suc-sub-one w, suc-sub-one c)
            (opened shape x cs w c a (later _ _ first_slot w c (omega (arith, needed)) (omega arith)))

    draws-inside : (closes : Bool) (r b w c : ℕ) → Stays shape closes (x ∷ cs) w c →
        best_inside T shape (x ∷ cs) r b w ≤ c → c < T →
        FirstFrom shape (on closes r b) (x ∷ cs) w c (from_mark cs (cond (allows x 2) 2 3) w c)
    unfolding best_inside
    draws-inside closes r b w c stays e below = by (allows x 2) refl r b c stays e below
      where
        by : (over : Bool) → allows x 2 ≡ over → (r b c : ℕ) → Stays shape closes (x ∷ cs) w c →
            saturating_suc T
            (using_one T r λ r.
            cond over (best_closable T shape cs r b w) (using_one T b λ b. best_inside T shape cs r b w)) ≤ c → c < T →
            FirstFrom shape (on closes r b) (x ∷ cs) w c (from_mark cs (cond over 2 3) w c)
        by over a zero b c stays e below = absurd (omega arith)
        by over a (suc r) b zero stays e below = absurd (omega arith)
        by true a (suc r) b (suc c) stays e below =
            rw (suc-sub-one c)
            (continued shape x cs w c stays a (later _ _ over_slot w c (omega arith) (omega arith)))
        by false a (suc r) zero (suc c) stays e below = absurd (omega arith)
        by false a (suc r) (suc b) (suc c) stays e below =
            rw (suc-sub-one c)
            (bridged shape x cs w c stays a (later _ _ bridge w c (omega arith) (omega arith)))

    -- after an over slot the window closes if it can
    draws-closable : (m r b w c : ℕ) → eqb m 0 ≡ false → best_closable T shape (x ∷ cs) r b w ≤ c → c < T →
        FirstFrom shape (on true r b) (x ∷ cs) w c
        (from_mark cs (next_mark (cond (ltb c (best_after T shape (x ∷ cs) w)) m 0) x) w c)
    draws-closable m r b w c in_window e below = by (ltb c (best_after T shape (x ∷ cs) w)) refl
      where
        by : (stays : Bool) → ltb c (best_after T shape (x ∷ cs) w) ≡ stays →
            FirstFrom shape (on true r b) (x ∷ cs) w c (from_mark cs (next_mark (cond stays m 0) x) w c)
        by true s =
            let dear : c < best_after T shape (x ∷ cs) w = ltb-true _ _ s in
            rw in_window
            (draws-inside true r b w c (λ _ ks p few. omega (arith, dear, least-le-covered T shape w p few))
            (omega (arith, dear, e)) below)
        by false s =
            let enough : best_after T shape (x ∷ cs) w ≤ c = ltb-false _ _ s in
            closed shape x cs w c (draws-outside shape.settle w c enough below)

    draws-more : Draws (x ∷ cs)
    unfolding drawn_from
    draws-more m st outside w c e below =
        rw (closed-outside c (best_after T shape (x ∷ cs) w)) (draws-outside _ w c e below)
    draws-more m st first_slot w c e below = draws-closable 1 _ _ w c refl e below
    draws-more m st over_slot w c e below = draws-closable 2 _ _ w c refl e below
    draws-more m st bridge w c e below = draws-inside false _ _ w c (λ closes. absurd (false≢true closes)) e below

  draws : (cs : List Class) → Draws cs
  unfolding drawn_from best_inside windows covered count_if
  draws [] m st outside w c e below = no-slots shape (record { plan = done; few = omega arith; short = omega arith })
  draws [] m st first_slot w c e below =
      no-slots shape (record { plan = close done; few = omega arith; short = omega arith })
  draws [] m st over_slot w c e below =
      no-slots shape (record { plan = close done; few = omega arith; short = omega arith })
  draws [] m st bridge w c e below = absurd (omega arith)
  draws (x ∷ cs) m st a w c e below = draws-more x cs (draws cs) m st a w c e below

  -- the state after a slot with mark f
  abbrev next : State → (f : ℕ) → State
  next = after_mark shape.settle (shape.len - 1) shape.h

  after-outside : {q f : ℕ} {x : Class} {cs : List Class} {ms : List ℕ} →
      PlanBy allows shape (out q) (x ∷ cs) (f ∷ ms) → After f (next (out q) f)
  after-outside (skip a p) = outside
  after-outside (opens a p) = first_slot

  after-closed : (r b : ℕ) {q f : ℕ} {x : Class} {cs : List Class} {ms : List ℕ} →
      PlanBy allows shape (out q) (x ∷ cs) (f ∷ ms) → After f (next (on true r b) f)
  after-closed r b (skip a p) = outside
  after-closed r b (opens a p) = first_slot

  after-mark : {m f : ℕ} {st : State} {x : Class} {cs : List Class} {ms : List ℕ} → After m st →
      PlanBy allows shape st (x ∷ cs) (f ∷ ms) → After f (next st f)
  after-mark outside p = after-outside p
  after-mark first_slot (close {r} {b} p) = after-closed r b p
  after-mark first_slot (more a p) = over_slot
  after-mark first_slot (bridges a p) = bridge
  after-mark over_slot (close {r} {b} p) = after-closed r b p
  after-mark over_slot (more a p) = over_slot
  after-mark over_slot (bridges a p) = bridge
  after-mark bridge (more a p) = over_slot
  after-mark bridge (bridges a p) = bridge

  no_slot : {st : State} {f : ℕ} {ms : List ℕ} → PlanBy allows shape st [] (f ∷ ms) → ⊥
  no_slot (close p) = no_slot p

  -- the first plan that begins with a front, by recursion on the front
  abbrev FirstWith : (front : List ℕ) → State → List Class → (w c : ℕ) → List ℕ → Type 0
  FirstWith front st cs w c = First (λ ms. PlanWithin shape st cs w c ms × Begins front ms)

  module _ (x : Class) (cs : List Class) (f : ℕ) (st : State) (w c : ℕ) (ms : List ℕ)
      (plan : PlanWithin shape st (x ∷ cs) w c (f ∷ ms)) where
    abbrev Later : List ℕ → Type 0
    Later = PlanWithin shape (next st f) cs (left_of w (eqb f 1)) (left_of c (not (eqb f 0)))

    later-slots : (ks : List ℕ) → PlanWithin shape st (x ∷ cs) w c (f ∷ ks) → Later ks
    unfolding windows covered count_if
    later-slots ks p =
        record {
          plan = plan-tail _ _ _ _ p.plan;
          few = left_of-fits (eqb f 1) w (windows ks) p.few;
          short = left_of-fits (not (eqb f 0)) c (covered ks) p.short;
        }

    with-mark : (ks : List ℕ) → Later ks → PlanWithin shape st (x ∷ cs) w c (f ∷ ks)
    unfolding windows covered count_if
    with-mark ks l =
        record {
          plan = plan-with-tail _ _ _ _ plan.plan l.plan;
          few = fits-left_of (eqb f 1) w (windows ks) (windows ms) plan.few l.few;
          short = fits-left_of (not (eqb f 0)) c (covered ks) (covered ms) plan.short l.short;
        }

    one_more : (front ks : List ℕ) → First (λ ks. Later ks × Begins front ks) ks →
        FirstWith (f ∷ front) st (x ∷ cs) w c (f ∷ ks)
    one_more front ks l =
        let (later, (rest, e)) = l.holds in
        record {
          holds = (with-mark ks later, (rest, ap (λ ms. f ∷ ms) e));
          first = λ js (p, (rest, e)). rw e
              (level-or-same f (l.first (front ++ rest) (later-slots (front ++ rest) (rw e at p), (rest, refl))));
        }

  completes : (front rest : List ℕ) (cs : List Class) (m : ℕ) (st : State) (w c : ℕ) → After m st → c < T →
      PlanWithin shape st cs w c (front ++ rest) → FirstWith front st cs w c (drawn_from T shape cs front m w c)
  unfolding drawn_from
  completes [] rest cs m st w c a below p =
      first-congr (λ ks q. (q, (ks, refl))) (λ ks q. q.0)
      (draws cs m st a w c (le_trans (least-le-covered T shape w p.plan p.few) p.short) below)
  completes (f ∷ front) rest [] m st w c a below p = absurd (no_slot p.plan)
  completes (f ∷ front) rest (x ∷ cs) m st w c a below p =
      one_more x cs f st w c (front ++ rest) p front _
      (completes front rest cs f (next st f) (left_of w (eqb f 1)) (left_of c (not (eqb f 0)))
      (after-mark a p.plan) (omega (arith, below, left_of-le (not (eqb f 0)) c))
      (later-slots x cs f st w c (front ++ rest) p (front ++ rest) p))

-- within both maximums, for all settings with a covered maximum below the sentinel
pub completed-first : (s : Settings) (cs : List Class) (front : List ℕ) → s.covered.most < sentinel →
    (ms : List ℕ) → FitsAt s cs ms → Begins front ms →
    First (λ ks. FitsAt s cs ks × Begins front ks) (completed s cs front)
completed-first s cs front below ms some (rest, e) =
    first-congr
    (λ ks (p, b). (record { in_rule = plan→legal allows s.shape cs ks p.plan; few = p.few; short = p.short }, b))
    (λ ks (f, b). (to-plan ks f, b))
    (completes sentinel s.shape front rest cs 0 (out 0) _ _ outside below
    (subst (PlanWithin s.shape (out 0) cs s.windows.most s.covered.most) e (to-plan ms some)))
  where
    to-plan : (ks : List ℕ) → FitsAt s cs ks →
        PlanWithin s.shape (out 0) cs s.windows.most s.covered.most ks
    to-plan ks f = record { plan = legal→plan allows s.shape cs ks f.in_rule; few = f.few; short = f.short }

pub drawn_plan-first : (s : Settings) (cs : List Class) → s.covered.most < sentinel → (ms : List ℕ) → FitsAt s cs ms →
    First (FitsAt s cs) (drawn_plan s cs)
drawn_plan-first s cs below ms some =
    first-congr (λ ks f. f.0) (λ ks f. (f, (ks, refl))) (completed-first s cs [] below ms some (ms, refl))
