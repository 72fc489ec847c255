-- Windows that obey the rule are drawn by legal marks. Slot by slot, the proof chooses marks whose windows are members
-- of the set, and keeps track of what is left of the member under way. That these windows are the whole set follows
-- from the other direction (proofs/Draws.antt).
use Prim.Native.Nat.{ℕ, zero, suc, ◌+◌, ◌-◌, ◌≤◌, ◌<◌}
use native.Mathlib.Nat.{eq-or-lt_of_le, lt_of_not-le, le_of_suc-le-suc}
use native.Mathlib.Omega.{arith}
use mathlib.Core.Bool.{Bool, true, false}
use mathlib.Core.List.{List, [], ◌∷◌}
use mathlib.Core.Logic.{◌⊎◌, inl, inr}
use mathlib.Core.Path.{◌≡◌, refl, sym, ap, ap₂, ◌∙◌, subst}
use lib.IntN.{ℤ}
use lib.ListN.{length, take}
use lib.Signed.{◌<ℤ◌, ◌≤ℤ◌, clash_ℤ}
use Rattle.facts.proofs.Integers.{lt-or-le}
use Rattle.rule.proofs.Sides.{carry_over, carry-under}
use Rattle.rule.proofs.NoWindows.{in-any-shape}
use Rattle.rule.proofs.Plan.{out, on, PlanBy, done, skip, opens, close, more as longer, bridges as bridged, plan→legal}
use Rattle.rule.proofs.Plan.{nonzero-same}
use Rattle.rule.specs.Rule.{goes_with, rest, carries, legal, nonzero, windows, covered}
use Rattle.rule.specs.declared.Shape.{Shape}
use Rattle.published.proofs.Draws.{rest-nil, draws}
use Rattle.published.proofs.Sets.{Within, ◌∈◌, each, all, some, which, into, share→same, same_set}
use Rattle.published.proofs.LoadsFrom.{From, none, more, from, from-drop, unders-over, unders-under}
use Rattle.published.specs.Published.{Sequence, Holds, size, Each, Some, sum, ◌⊆◌, load, unders, Window}
use Rattle.published.specs.Published.{Apart, Obeys, sequences_of}

-- legal marks that draw S
abbrev DrawnBy : (k : ℤ) (shape : Shape) (X : List ℤ) (S : List Sequence) → Type 0
DrawnBy k shape X S =
    (ms : List ℕ) × (legal k shape X ms ≡ true)
    × (sequences_of 0 ms ⊆ S) × (S ⊆ sequences_of 0 ms) × (windows ms ≡ length S) × (covered ms ≡ sum size S)

sequence-is : (s : Sequence) {a : ℕ} (b : ℕ) → s.first ≡ a → s.last ≡ b → s ≡ record { first = a; last = b }
sequence-is s b e f = ap₂ (λ a b. record { first = a; last = b }) e f

module _ (k : ℤ) (shape : Shape) (yc zc : ℕ) (X : List ℤ) (S : List Sequence)
    (rule : Obeys k (nonzero shape) yc zc X S) where
  -- every window that begins before slot l ends before it
  abbrev Free : ℕ → Type 0
  Free l = (s : Sequence) → s ∈ S → s.first < l → s.last < l

  -- every window that does not begin before slot l leaves q slots before it
  abbrev Clear : (q l : ℕ) → Type 0
  Clear q l = (s : Sequence) → s ∈ S → l ≤ s.first → l + q ≤ s.first

  -- marks from slot l on, outside a window, where q slots are owed
  record Outside (q l : ℕ) (xs : List ℤ) : Type 0 where
    marks : List ℕ
    plan : PlanBy (carries k) shape (out q) xs marks
    members : (t : Sequence) → t ∈ sequences_of l marks → t ∈ S

  -- marks from slot l on, with n slots left of the window under way
  record Inside (c : Bool) (l n r b : ℕ) (xs : List ℤ) : Type 0 where
    marks : List ℕ
    plan : PlanBy (carries k) shape (on c r b) xs marks
    left : length (rest marks) ≡ n
    members : (t : Sequence) → t ∈ sequences_of l marks → t ∈ S

  -- s is the window under way: n of its slots are left from slot l on, at most r, with at most b bridges
  record UnderWay (s : Sequence) (l n r b : ℕ) (xs : List ℤ) : Type 0 where
    member : s ∈ S
    last : l + n ≡ suc s.last
    slots : n ≤ r
    bridges_fit : unders k (take n xs) ≤ b

  -- what is to be chosen from slot l on, outside a window and in one
  abbrev OutsideFrom : ℕ → List ℤ → Type 0
  OutsideFrom l xs = (q : ℕ) → Free l → Clear q l → Outside q l xs

  abbrev InsideFrom : ℕ → List ℤ → Type 0
  InsideFrom l xs =
      (c : Bool) (s : Sequence) (n r b : ℕ) → UnderWay s l (suc n) (suc r) b xs → Inside c l (suc n) (suc r) b xs

  within : {s : Sequence} → s ∈ S → Within (length X) s
  within m = each (Within (length X)) rule.set.0 m

  window : {s : Sequence} → s ∈ S → Window k (nonzero shape) X s
  window m = each (Window k (nonzero shape) X) rule.kept m

  -- right after the last slot of a window, no window is under way
  free-after : {s : Sequence} {l : ℕ} → s ∈ S → l ≡ s.last → Free (suc l)
  free-after {s} {l} m e t tm bound =
      lt_of_not-le λ q.
      let i =
      share→same s.last rule.set.1 tm m (omega arith, omega arith) (omega (arith, within m), omega arith) in
      omega (arith, ap (λ (t : Sequence). t.last) i)

  -- and the next one settles
  clear_after : {s : Sequence} {l : ℕ} → s ∈ S → l ≡ s.last → Clear shape.settle (suc l)
  clear_after {s} {l} m e t tm bound =
      let apart = each (Apart shape.settle s) (each (λ s. Each (Apart shape.settle s) S) rule.settled m) tm in
      omega (arith, apart (omega arith))

  -- nor is one after an under slot, if none was before it: a window begins with an over slot
  free-after-under : {l : ℕ} → load X l ≤ℤ k → Free l → Free (suc l)
  free-after-under {l} u f s m bound = by (eq-or-lt_of_le (le_of_suc-le-suc bound))
    where
      by : (s.first ≡ l) ⊎ (s.first < l) → s.last < suc l
      by (inl e) = clash_ℤ (window m).begins (subst (λ j. load X j ≤ℤ k) (sym e) u)
      by (inr q) = omega (arith, f s m q)

  -- if no window is under way from before slot l, one that holds slot l begins there
  starts : {l : ℕ} {s : Sequence} → Free l → s ∈ S → Holds l s → s.first ≡ l
  starts {l} {s} free m hs = by (eq-or-lt_of_le hs.0)
    where
      by : (s.first ≡ l) ⊎ (s.first < l) → s.first ≡ l
      by (inl e) = e
      by (inr q) = absurd (omega (arith, free s m q))

  -- after its first slot, a window is under way
  under-way-begins : {l : ℕ} {s : Sequence} {xs : List ℤ} → From X l (load X l ∷ xs) → s ∈ S → s.first ≡ l →
      UnderWay s (suc l) (s.last - l) (shape.len - 1) shape.h xs
  under-way-begins {l} {s} {xs} f m first =
      let n = s.last - l in
      let e : suc s.last - s.first ≡ suc n = omega (arith, within m) in
      let o = subst (λ j. k <ℤ load X j) first (window m).begins in
      record {
        member = m;
        last = omega (arith, within m);
        slots = omega (arith, (window m).slots);
        bridges_fit = rw (e, first, from-drop X f, unders-over (take n xs) o) at (window m).bridges_fit;
      }

  -- after an over slot of a window, the window closes if no slot of it is left, and continues otherwise
  after : {l : ℕ} {xs : List ℤ} → OutsideFrom (suc l) xs → InsideFrom (suc l) xs → (s : Sequence) (n r b : ℕ) →
      UnderWay s (suc l) n r b xs →
      Inside true (suc l) n r b xs
  after {l} o i s zero r b y =
      let last : l ≡ s.last = omega (arith, y.last) in
      let t = o shape.settle (free-after y.member last) (clear_after y.member last) in
      record { marks = t.marks; plan = close t.plan; left = rest-nil k shape t.plan; members = t.members }
  after o i s (suc n) zero b y = absurd (omega (arith, y.slots))
  after o i s (suc n) (suc r) b y = i true s n r b y

  module _ {l : ℕ} {xs : List ℤ} (hl : l < length X) (f : From X (suc l) xs) (o : OutsideFrom (suc l) xs)
      (i : InsideFrom (suc l) xs) where
    abbrev here : List ℤ
    here = load X l ∷ xs

    -- an over slot outside a window opens the window that covers it
    opened : {n : ℕ} (s : Sequence) → s ∈ S → s.first ≡ l → l + n ≡ s.last →
        Inside true (suc l) n (shape.len - 1) shape.h xs → Outside 0 l here
    unfolding sequences_of goes_with
    opened s m first last t =
        let same = sequence-is s (l + length (rest t.marks)) first (omega (arith, t.left)) in
        record {
          marks = 1 ∷ t.marks;
          plan = opens (carry_over 1 refl (subst (λ j. k <ℤ load X j) first (window m).begins)) t.plan;
          members = into (subst (λ s. s ∈ S) same m) t.members;
        }

    out_step : OutsideFrom l here
    unfolding sequences_of goes_with
    out_step q free clear = by (lt-or-le k (load X l))
      where
        by : (k <ℤ load X l) ⊎ (load X l ≤ℤ k) → Outside q l here
        by (inl x) =
            let (s, m, hs) = which (Holds l) S (rule.cover l hl x) in
            let first = starts free m hs in
            let none : 0 ≡ q = omega (arith, first, clear s m (omega (arith, first))) in
            subst (λ q. Outside q l here) none
            (opened s m first (omega (arith, hs)) (after o i s _ _ _ (under-way-begins (more hl refl f) m first)))
        by (inr x) =
            let t = o (q - 1) (free-after-under x free) (λ s m e. omega (arith, clear s m (omega arith))) in
            record { marks = 0 ∷ t.marks; plan = skip {q = q} (carry-under 0 refl x) t.plan; members = t.members }

    -- the window under way, one slot later
    next : {s : Sequence} {n r b b' : ℕ} → UnderWay s l (suc n) (suc r) b here → unders k (take n xs) ≤ b' →
        UnderWay s (suc l) n r b' xs
    next y bridges_fit =
        record {
          member = y.member;
          last = omega (arith, y.last);
          slots = omega (arith, y.slots);
          bridges_fit = bridges_fit;
        }

    -- an under slot of a window is not its last
    bridge : (c : Bool) (s : Sequence) (n r b : ℕ) → load X l ≤ℤ k → UnderWay s l (suc n) (suc r) b here →
        Inside c l (suc n) (suc r) b here
    unfolding rest sequences_of goes_with
    bridge c s zero r b x y =
        clash_ℤ (window y.member).ends (subst (λ j. load X j ≤ℤ k) (omega (arith, y.last)) x)
    bridge c s (suc n) zero b x y = absurd (omega (arith, y.slots))
    bridge c s (suc n) (suc r) zero x y =
        absurd (omega (arith, rw (unders-under (take (suc n) xs) x) at y.bridges_fit))
    bridge c s (suc n) (suc r) (suc b) x y =
        let u = rw (unders-under (take (suc n) xs) x) at y.bridges_fit in
        let t = i false s n r b (next y (omega (arith, u))) in
        record {
          marks = 3 ∷ t.marks;
          plan = bridged (carry-under 3 refl x) t.plan;
          left = ap suc t.left;
          members = t.members;
        }

    in_step : InsideFrom l here
    unfolding rest sequences_of goes_with
    in_step c s n r b y = by (lt-or-le k (load X l))
      where
        by : (k <ℤ load X l) ⊎ (load X l ≤ℤ k) → Inside c l (suc n) (suc r) b here
        by (inl x) =
            let t = after o i s n r b (next y (rw (unders-over (take n xs) x) at y.bridges_fit)) in
            record {
              marks = 2 ∷ t.marks;
              plan = longer (carry_over 2 refl x) t.plan;
              left = ap suc t.left;
              members = t.members;
            }
        by (inr x) = bridge c s n r b x y

  marks-from : {l : ℕ} {xs : List ℤ} → From X l xs → OutsideFrom l xs × InsideFrom l xs
  unfolding sequences_of
  marks-from (none e) = (
    (λ q free clear. record { marks = []; plan = done; members = λ t m. elim m [ ] }),
    (λ c s n r b y. absurd (omega (arith, y.last, within y.member))),
  )
  marks-from (more hl is f) =
      let (o, i) = marks-from f in
      rw is (out_step hl f o i, in_step hl f o i)

  found : Outside 0 0 X
  found =
      (marks-from (from X 0 (length X) (omega arith))).0 0 (λ s m q. absurd (omega arith)) (λ s m e. omega arith)

  -- members of S that obey the rule are all of S: each window of S begins with an over slot, which one of them covers
  whole : {yc' zc' : ℕ} (R : List Sequence) → Obeys k (nonzero shape) yc' zc' X R →
      ((s : Sequence) → s ∈ R → s ∈ S) → (R ⊆ S) × (S ⊆ R)
  whole R obeys members = (
    all (λ s. Some (λ t. t ≡ s) S) R (λ s m. some (λ t. t ≡ s) (members s m) refl),
    all (λ s. Some (λ t. t ≡ s) R) S λ s m.
        let (t, tm, hold) =
        which (Holds s.first) R (obeys.cover s.first (omega (arith, within m)) (window m).begins) in
        some (λ t. t ≡ s) tm
        (share→same s.first rule.set.1 (members t tm) m hold (omega arith, omega (arith, within m))),
  )

  all-drawn : DrawnBy k (nonzero shape) X S
  all-drawn =
      let ms = found.marks in
      let e = plan→legal (carries k) shape X ms found.plan in
      let (obeys, number, total) = draws k (nonzero shape) X ms e in
      let (to, fro) = whole (sequences_of 0 ms) obeys found.members in
      let (lengths, sums) = same_set (length X) (sequences_of 0 ms) S obeys.set rule.set to fro in
      (ms, e, to, fro, sym number ∙ lengths, sym total ∙ sums)

-- with a len of 0 there is no window, as each would have a slot
pub drawn : (k : ℤ) (shape : Shape) (yc zc : ℕ) (X : List ℤ) (S : List Sequence) → Obeys k shape yc zc X S →
    DrawnBy k shape X S
drawn k shape yc zc X S rule = by shape.len refl S rule
  where
    by : (len : ℕ) → shape.len ≡ len → (S : List Sequence) → Obeys k shape yc zc X S → DrawnBy k shape X S
    by zero z [] rule =
        let one : Obeys k (nonzero shape) yc zc X [] = record {
          set = rule.set;
          cover = rule.cover;
          kept = tt;
          settled = tt;
          number = rule.number;
          summed = rule.summed;
        } in
        let (ms, e, to, fro, number, total) = all-drawn k shape yc zc X [] one in
        (ms, in-any-shape (carries k) X ms (nonzero shape) shape number e, to, fro, number, total)
    by zero z (s ∷ S) rule = absurd (omega (arith, z, rule.kept.0.slots, rule.set.0.0))
    by (suc len) z S rule =
        let same = nonzero-same shape (omega arith) in
        subst (λ s. DrawnBy k s X S) same (all-drawn k shape yc zc X S (rw same rule))
