-- Legal marks draw windows that obey the rule. The proof is by induction on the marks, and keeps track of what is left
-- of the window under way.
use Prim.Native.Nat.{ℕ, zero, suc, ◌+◌, ◌-◌, ◌≤◌, ◌<◌}
use native.Mathlib.Nat.{eq-or-lt_of_le}
use native.Mathlib.Omega.{arith}
use mathlib.Core.Bool.{Bool, true, false}
use mathlib.Core.List.{List, ◌∷◌}
use mathlib.Core.Logic.{◌⊎◌, inl, inr}
use mathlib.Core.Path.{◌≡◌, refl, sym, ap, ◌∙◌, subst}
use lib.IntN.{ℤ}
use lib.ListN.{length, take}
use lib.Signed.{◌<ℤ◌, clash_ℤ}
use Rattle.rule.proofs.Sides.{carried-over, carried_under}
use Rattle.rule.proofs.NoWindows.{no-windows, in-any-shape}
use Rattle.rule.proofs.Plan.{State, out, on, PlanBy, done, skip, opens, close, more as longer, bridges as bridged}
use Rattle.rule.proofs.Plan.{legal→plan, nonzero-same}
use Rattle.rule.specs.Rule.{goes_with, rest, count_if, carries, legal, nonzero, windows, covered}
use Rattle.rule.specs.declared.Shape.{Shape}
use Rattle.published.proofs.Sets.{Within, DisjointPair, each, all, each_to, each-of-none}
use Rattle.published.proofs.LoadsFrom.{From, none, more, from, from-drop, unders-over, unders-under}
use Rattle.published.specs.Published.{Sequence, Holds, size, Each, Some, sum, Disjoint, load, unders, Window}
use Rattle.published.specs.Published.{Apart, Obeys, sequences_of}

-- how many slots from a state on are still owed before a window may open, after the window under way if there is one
abbrev owed_by : (settle : ℕ) → State → ℕ
owed_by settle (out q) = q
owed_by settle (on c r b) = settle

-- the windows that marks draw obey the rule, and their number and summed length are the counts of the marks
abbrev Draws : (k : ℤ) (shape : Shape) (X : List ℤ) (ms : List ℕ) → Type 0
Draws k shape X ms =
    Obeys k shape (windows ms) (covered ms) X (sequences_of 0 ms)
    × (length (sequences_of 0 ms) ≡ windows ms) × (sum size (sequences_of 0 ms) ≡ covered ms)

module _ (k : ℤ) (shape : Shape) where
  -- outside a window the marks do not begin with a mark 2 or 3
  pub rest-nil : {q : ℕ} {xs : List ℤ} {ms : List ℕ} → PlanBy (carries k) shape (out q) xs ms → length (rest ms) ≡ 0
  unfolding rest
  rest-nil done = refl
  rest-nil (skip g p) = refl
  rest-nil (opens g p) = refl

module _ (k : ℤ) (shape : Shape) (X : List ℤ) where
  abbrev Over : ℕ → Type 0
  Over l = k <ℤ load X l

  -- a window may close after slot i if that slot is over, and may not if it is a bridge
  data Closes : Bool → ℕ → Type 0 where
    over_slot : {i : ℕ} → Over i → Closes true i
    a_bridge : {i : ℕ} → Closes false i

  -- what is left of a window after its slot i: at most r slots, with at most b bridges
  record Rest (i r b : ℕ) (xs : List ℤ) (ms : List ℕ) : Type 0 where
    slots : length (rest ms) ≤ r
    bridges_fit : unders k (take (length (rest ms)) xs) ≤ b
    inside : i + length (rest ms) < length X
    ends : Over (i + length (rest ms))

  rests : {c : Bool} {r b : ℕ} {xs : List ℤ} {ms : List ℕ} → PlanBy (carries k) shape (on c r b) xs ms →
      {i : ℕ} → From X (suc i) xs → i < length X → Closes c i → Rest i r b xs ms
  unfolding rest unders goes_with
  rests (close p) {i} f hi (over_slot o) =
      let n = rest-nil k shape p in
      record {
        slots = omega (arith, n);
        bridges_fit = rw n (omega arith);
        inside = omega (arith, n);
        ends = subst Over (omega (arith, n)) o;
      }
  rests (longer {ms = ms} g p) {i} (more {xs = xs} hl is f) hi c =
      let o = carried-over 2 refl g in
      let t = rests p f hl (over_slot (rw is at o)) in
      let u = unders-over (take (length (rest ms)) xs) o in
      record {
        slots = omega (arith, t);
        bridges_fit = omega (arith, t, u);
        inside = omega (arith, t);
        ends = subst Over (omega arith) t.ends;
      }
  rests (bridged {ms = ms} g p) {i} (more {xs = xs} hl is f) hi c =
      let t = rests p f hl a_bridge in
      let u = unders-under (take (length (rest ms)) xs) (carried_under 3 refl g) in
      record {
        slots = omega (arith, t);
        bridges_fit = omega (arith, t, u);
        inside = omega (arith, t);
        ends = subst Over (omega arith) t.ends;
      }

  -- a window that begins at slot a or later
  record BeginsFrom (a : ℕ) (s : Sequence) : Type 0 where
    first_from : a ≤ s.first
    within : Within (length X) s
    window : Window k (nonzero shape) X s

  later : {a a' : ℕ} → a' ≤ a → (S : List Sequence) → Each (BeginsFrom a) S → Each (BeginsFrom a') S
  later {a} {a'} e S ws =
      each_to (BeginsFrom a) (BeginsFrom a')
      (λ s w. record { first_from = omega (arith, w.first_from); within = w.within; window = w.window }) S ws

  -- slot j lies before slot e, the first after the window under way, or in a window of S
  abbrev Covered : (j e : ℕ) → List Sequence → Type 0
  Covered j e S = (j < e) ⊎ Some (Holds j) S

  abbrev Cover : (l e : ℕ) → List Sequence → Type 0
  Cover l e S = (j : ℕ) → l ≤ j → j < length X → Over j → Covered j e S

  cover-cons : {l e e' : ℕ} (S T : List Sequence) →
      (Over l → Covered l e' T) → ((j : ℕ) → l < j → Covered j e S → Covered j e' T) → Cover (suc l) e S → Cover l e' T
  cover-cons {l} {e} {e'} S T at after c j lj jn o = by (eq-or-lt_of_le lj)
    where
      by : (l ≡ j) ⊎ (l < j) → Covered j e' T
      by (inl p) = subst (λ j. Covered j e' T) p (at (subst Over (sym p) o))
      by (inr p) = after j p (c j p jn o)

  abbrev AllApart : List Sequence → Type 0
  AllApart S = Each (λ s. Each (Apart shape.settle s) S) S

  -- a window that comes first, with the settle slots after it
  apart_cons : (s : Sequence) (S : List Sequence) → s.first ≤ s.last →
      Each (BeginsFrom (suc s.last + shape.settle)) S → AllApart S → AllApart (s ∷ S)
  apart_cons s S w after settled = (
    ((λ e. absurd (omega arith)), each_to _ (Apart shape.settle s) (λ t b e. omega (arith, b.first_from)) S after),
    all _ S λ t m.
        let b = each _ after m in
        let before = each (λ t. Each (Apart shape.settle t) S) settled m in
        ((λ e. absurd (omega (arith, b.first_from, b.within))), before),
  )

  -- what holds of the windows that the marks from slot l on draw, where q slots are owed after the window under way
  record DrawnFrom (q l : ℕ) (ms : List ℕ) : Type 0 where
    kept : Each (BeginsFrom (l + length (rest ms) + q)) (sequences_of l ms)
    disjoint : Disjoint (sequences_of l ms)
    settled : AllApart (sequences_of l ms)
    cover : Cover l (l + length (rest ms)) (sequences_of l ms)
    total : sum size (sequences_of l ms) + length (rest ms) ≡ covered ms
    number : length (sequences_of l ms) ≡ windows ms

  -- A slot j after slot l is covered by the marks after slot l, which begin with the n slots left of the window under
  -- way. It stays covered with the mark of slot l in front: by `covered-after-0` if that mark is 0, by
  -- `covered-after-1` if it is 1, and by `covered-continues` if it is 2 or 3.
  module _ (l n : ℕ) (S : List Sequence) (j : ℕ) where
    covered-after-0 : n ≡ 0 → l < j → Covered j (suc l + n) S → Covered j (l + 0) S
    covered-after-0 e lj (inl c) = absurd (omega arith)
    covered-after-0 e lj (inr c) = inr c

    covered-after-1 : l < j → Covered j (suc l + n) S → Covered j (l + 0) (record { first = l; last = l + n } ∷ S)
    covered-after-1 lj (inl c) = inr (inl (omega arith, omega arith))
    covered-after-1 lj (inr c) = inr (inr c)

    covered-continues : l < j → Covered j (suc l + n) S → Covered j (l + suc n) S
    covered-continues lj (inl c) = inl (omega arith)
    covered-continues lj (inr c) = inr c

  -- the window that a mark 1 opens at slot l
  opened : {l : ℕ} {xs : List ℤ} (ms : List ℕ) → From X l (load X l ∷ xs) → Over l →
      Rest l (shape.len - 1) shape.h xs ms →
      BeginsFrom (l + 0 + 0) (record { first = l; last = l + length (rest ms) })
  opened {l} {xs} ms f o t =
      let n = length (rest ms) in
      let e : suc (l + n) - l ≡ suc n = omega arith in
      record {
        first_from = omega arith;
        within = (omega arith, t.inside);
        window = record {
          begins = o;
          ends = t.ends;
          slots = omega (arith, t.slots);
          bridges_fit = rw (e, from-drop X f, unders-over (take n xs) o) t.bridges_fit;
        };
      }

  -- a mark 2 or 3 at slot l, before the rest of the window under way
  extended : {q l : ℕ} (m : ℕ) (ms : List ℕ) → rest (m ∷ ms) ≡ m ∷ rest ms →
      sequences_of l (m ∷ ms) ≡ sequences_of (suc l) ms → covered (m ∷ ms) ≡ suc (covered ms) →
      windows (m ∷ ms) ≡ windows ms → DrawnFrom q (suc l) ms → DrawnFrom q l (m ∷ ms)
  extended {l = l} m ms lengthens same covers none-opens d =
      let S = sequences_of (suc l) ms in
      record {
        kept = rw (lengthens, same) (later (omega arith) S d.kept);
        disjoint = rw same d.disjoint;
        settled = rw same d.settled;
        cover =
            rw (lengthens, same)
            (cover-cons S S (λ o. inl (omega arith)) (covered-continues l (length (rest ms)) S) d.cover);
        total = rw (lengthens, same, covers) (omega (arith, d.total));
        number = rw (same, none-opens) d.number;
      }

  draws-from : {st : State} {xs : List ℤ} {ms : List ℕ} → PlanBy (carries k) shape st xs ms →
      {l : ℕ} → From X l xs → DrawnFrom (owed_by shape.settle st) l ms
  unfolding rest sequences_of windows covered count_if goes_with
  draws-from done (none e) =
      record {
        kept = tt;
        disjoint = tt;
        settled = tt;
        cover = λ j lj jn o. absurd (omega arith);
        total = omega arith;
        number = refl;
      }
  draws-from (close p) f = draws-from p f
  draws-from (skip {ms = ms} g p) (more {l} hl is f) =
      let d = draws-from p f in
      let n = rest-nil k shape p in
      let S = sequences_of (suc l) ms in
      record {
        kept = later (omega (arith, n)) S d.kept;
        disjoint = d.disjoint;
        settled = d.settled;
        cover = cover-cons S S (λ o. clash_ℤ o (rw is at (carried_under 0 refl g))) (λ j. covered-after-0 l _ S j n) d.cover;
        total = omega (arith, n, d.total);
        number = d.number;
      }
  draws-from (opens {ms = ms} g p) (more {l} hl is f) =
      let d = draws-from p f in
      let o = rw is at (carried-over 1 refl g) in
      let n = length (rest ms) in
      let S = sequences_of (suc l) ms in
      let s : Sequence = record { first = l; last = l + n } in
      record {
        kept = (opened ms (more hl refl f) o (rests p f hl (over_slot o)), later (omega arith) S d.kept);
        disjoint = (
          each_to _ (DisjointPair s) (λ t w j hs ht. absurd (omega (arith, w.first_from, hs, ht))) S
              d.kept,
          d.disjoint,
        );
        settled = apart_cons s S (omega arith) (later (omega arith) S d.kept) d.settled;
        cover = cover-cons S (s ∷ S) (λ o. inr (inl (omega arith, omega arith))) (covered-after-1 l n S) d.cover;
        total = omega (arith, d.total);
        number = ap suc d.number;
      }
  draws-from (longer {ms = ms} g p) (more hl is f) = extended 2 ms refl refl refl refl (draws-from p f)
  draws-from (bridged {ms = ms} g p) (more hl is f) = extended 3 ms refl refl refl refl (draws-from p f)

  draws-nonzero : {ms : List ℕ} → PlanBy (carries k) shape (out 0) X ms → Draws k (nonzero shape) X ms
  draws-nonzero {ms} p =
      let d = draws-from p (from X 0 (length X) (omega arith)) in
      let n = rest-nil k shape p in
      let S = sequences_of 0 ms in
      let B = BeginsFrom (0 + length (rest ms) + 0) in (
        record {
          set = (each_to B _ (λ s w. w.within) S d.kept, d.disjoint);
          cover = λ l ln o. by l n (d.cover l (omega arith) ln o);
          kept = each_to B _ (λ s w. w.window) S d.kept;
          settled = d.settled;
          number = omega (arith, d.number);
          summed = omega (arith, d.total);
        },
        d.number,
        omega (arith, n, d.total),
      )
    where
      by : {n : ℕ} (l : ℕ) → n ≡ 0 → Covered l (0 + n) (sequences_of 0 ms) → Some (Holds l) (sequences_of 0 ms)
      by l e (inl c) = absurd (omega arith)
      by l e (inr c) = c

-- with a len of 0 there is no window
pub draws : (k : ℤ) (shape : Shape) (X : List ℤ) (ms : List ℕ) → legal k shape X ms ≡ true → Draws k shape X ms
draws k shape X ms e = by shape.len refl
  where
    by : (len : ℕ) → shape.len ≡ len → Draws k shape X ms
    by zero z =
        let none = no-windows (carries k) X ms shape z e in
        let one = in-any-shape (carries k) X ms shape (nonzero shape) none e in
        let (o, number, total) = draws-nonzero k shape X (legal→plan (carries k) shape X ms one) in (
          record {
            set = o.set;
            cover = o.cover;
            kept = each-of-none (Window k shape X) (sequences_of 0 ms) (number ∙ none);
            settled = o.settled;
            number = o.number;
            summed = o.summed;
          },
          number,
          total,
        )
    by (suc len) z =
        let same = nonzero-same shape (omega arith) in
        subst (λ s. Draws k s X ms) same (draws-nonzero k shape X (legal→plan (carries k) shape X ms (rw same e)))
