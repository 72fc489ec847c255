-- What holds of lengths and settings exactly when they meet no refusal.
use Prim.Native.Nat.{ℕ, zero, suc, ◌+◌, ◌≤◌, min}
use native.Mathlib.Omega.{arith}
use mathlib.Core.Bool.{Bool, false}
use mathlib.Core.Logic.{◌↔◌}
use mathlib.Core.Option.{none}
use mathlib.Core.Path.{◌≡◌}
use borrow.Author.Tests.{ltb-false, lt-ltb, le-ltb, leb-false, eqb-true, eq-eqb, not-false}
use lib.Dec.{ltb}
use Rattle.facts.proofs.Tests.{or-false→both, one-to-most}
use Rattle.refusals.proofs.Table.{first-none-row, first-none-check}
use Rattle.refusals.specs.Table.{row, first}
use Rattle.rule.specs.Rule.{shaped}
use Rattle.rule.specs.declared.Shape.{Shape}
use Rattle.settings.specs.Refusals.{limit, max_settle, wrong_slots, differs, wrong_length, wrong_bridges}
use Rattle.settings.specs.Refusals.{wrong_counts, wrong_settle, lengths_refusal, shape_refusal, settings_refusal}
use Rattle.settings.specs.Refusals.{refusal}
use Rattle.settings.specs.declared.CountRange.{CountRange}
use Rattle.settings.specs.declared.Settings.{Settings}

pub record Accepted (n : ℕ) (s : Settings) : Type 0 where
  pub slots : (1 ≤ n) × (n ≤ limit)
  pub length : (1 ≤ s.shape.len) × (s.shape.len ≤ n)
  pub bridges : wrong_bridges s.shape ≡ false
  pub windows : (s.windows.least ≤ s.windows.most) × (s.windows.most ≤ n)
  pub covered : (s.covered.least ≤ s.covered.most) × (s.covered.most ≤ n)
  pub settle : s.shape.settle ≤ max_settle

-- `differs` is false exactly when the other slice has n entries too
pub differs_false : (n other : ℕ) → (differs n other ≡ false) ↔ (other ≡ n)
unfolding differs
differs_false n other = ((λ e. eqb-true other n (not-false _ e)), λ e. rw (eq-eqb other n e))

-- len is from 1 to n
pub wrong_length-false : (shape : Shape) (n : ℕ) → (wrong_length shape n ≡ false) ↔ ((1 ≤ shape.len) × (shape.len ≤ n))
unfolding wrong_length
wrong_length-false shape n = one-to-most shape.len n

-- besides h bridges a window has two slots, or all that it has where these are fewer
pub bridges-le : (shape : Shape) → wrong_bridges shape ≡ false → shape.h + min 2 shape.len ≤ shape.len
unfolding wrong_bridges
bridges-le shape e = by shape.h e
  where
    by : (h : ℕ) → wrong_bridges (shaped shape.len h) ≡ false → h + min 2 shape.len ≤ shape.len
    by zero e = omega arith
    by (suc h) e = omega (arith, leb-false shape.len (suc h + 1) (rw (lt-ltb 0 (suc h) (omega arith)) at e))

wrong_counts-false : (range : CountRange) (n : ℕ) →
    (wrong_counts range n ≡ false) ↔ ((range.least ≤ range.most) × (range.most ≤ n))
unfolding wrong_counts
wrong_counts-false range n = (to, from)
  where
    to : wrong_counts range n ≡ false → (range.least ≤ range.most) × (range.most ≤ n)
    to e =
        let (low, high) = or-false→both (ltb range.most range.least) (ltb n range.most) e in
        (ltb-false _ _ low, ltb-false _ _ high)

    from : (range.least ≤ range.most) × (range.most ≤ n) → wrong_counts range n ≡ false
    from (low, high) = rw (le-ltb range.most range.least low, le-ltb n range.most high)

refusal-none→accepted : (n : ℕ) (d : Bool) (s : Settings) → refusal n d s ≡ none → (d ≡ false) × Accepted n s
unfolding refusal lengths_refusal shape_refusal settings_refusal wrong_slots wrong_settle
refusal-none→accepted n d s e =
    let (by_lengths, e) = first-none-check _ _ e in
    let (slots, f) = first-none-row _ _ _ by_lengths in
    let (by-settings, _) = first-none-check _ _ e in
    let (by_shape, e) = first-none-check _ _ by-settings in
    let (length, g) = first-none-row _ _ _ by_shape in
    let (windows, e) = first-none-row _ _ _ e in
    let (covered, e) = first-none-row _ _ _ e in (
      (first-none-row _ _ _ f).0,
      record {
        slots = (one-to-most n limit).0 slots;
        length = (wrong_length-false s.shape n).0 length;
        bridges = (first-none-row _ _ _ g).0;
        windows = (wrong_counts-false s.windows n).0 windows;
        covered = (wrong_counts-false s.covered n).0 covered;
        settle = ltb-false _ _ (first-none-row _ _ _ e).0;
      },
    )

accepted→refusal-none : (n : ℕ) (d : Bool) (s : Settings) → (d ≡ false) × Accepted n s → refusal n d s ≡ none
unfolding refusal lengths_refusal shape_refusal settings_refusal first row wrong_slots wrong_settle
accepted→refusal-none n d s (same, p) =
    rw (
      (one-to-most n limit).1 p.slots,
      same,
      (wrong_length-false s.shape n).1 p.length,
      p.bridges,
      (wrong_counts-false s.windows n).1 p.windows,
      (wrong_counts-false s.covered n).1 p.covered,
      le-ltb max_settle s.shape.settle p.settle,
    )

pub accepted-iff : {n : ℕ} {d : Bool} {s : Settings} → (refusal n d s ≡ none) ↔ ((d ≡ false) × Accepted n s)
accepted-iff {n} {d} {s} = (refusal-none→accepted n d s, accepted→refusal-none n d s)

-- two count ranges with the same ends are equal
pub count_range-ext : (r s : CountRange) → r.least ≡ s.least → r.most ≡ s.most → r ≡ s
count_range-ext r s e f = λ i. record { least = e i; most = f i }
