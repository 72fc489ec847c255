-- A row, filled from the last slot back to the first.
use Prim.Native.Nat.{ℕ, ◌+◌, ◌≤◌, ◌<◌}
use native.Mathlib.Nat.{eq-or-lt_of_le}
use native.Mathlib.Omega.{arith}
use mathlib.Core.List.{List}
use mathlib.Core.Logic.{⊎_elim}
use mathlib.Core.Path.{◌≡◌, refl, ◌∙◌}
use lib.ListN.{length, drop, get_or, set, replicate, length-map, get_or-replicate}
use lib.Seq.{get_or-set_same, get_or-set_other}
use Rattle.rule.specs.ClassCodes.{decode, decode_all}
use Rattle.rule.specs.declared.Shape.{Shape}
use Rattle.settings.specs.Refusals.{limit, places}
use Rattle.requests.specs.Best.{best}
use Rattle.requests.specs.Solution.{sentinel}
use Rattle.fast.specs.Rows.{Row}
use Rattle.fast.proofs.FromSlot.{from_end}

module _ (shape : Shape) (classes : List ℕ) (w : ℕ) where
  -- the least covered count of the slots from slot i on
  abbrev pub least_from : (i : ℕ) → ℕ
  least_from i = best sentinel shape (drop i (decode_all classes)) w

  -- a row with the counts from slot i on
  pub record RowFrom (row : List ℕ) (i : ℕ) : Type 0 where
    pub counts : (j : ℕ) → i ≤ j → j ≤ length classes → get_or row j 0 ≡ least_from j

  pub row-start : length classes ≤ limit → RowFrom (replicate places 0) (length classes)
  unfolding best
  row-start few =
      record {
        counts = λ j l m.
            let last : j ≡ length classes = omega arith in
            rw (get_or-replicate {A = ℕ} places j 0 0 (omega arith), last, from_end classes) refl;
      }

  pub row_step : (row : List ℕ) (i v : ℕ) → i < length row → RowFrom row (i + 1) → v ≡ least_from i →
      RowFrom (set row i v) i
  row_step row i v e f here =
      record {
        counts = λ j l m.
            ⊎_elim
            (λ s. rw (← s) (get_or-set_same row i v 0 e ∙ here))
            (λ t. get_or-set_other row i j v 0 (omega (arith, t)) ∙ f.counts j (omega (arith, t)) m)
            (eq-or-lt_of_le l);
      }

  pub row-end : {row : List ℕ} {i : ℕ} → i ≤ 0 → RowFrom row i → Row shape (decode_all classes) w row
  row-end e f = record { counts = λ j l. f.counts j (omega arith) (omega (arith, l, length-map classes decode)) }
