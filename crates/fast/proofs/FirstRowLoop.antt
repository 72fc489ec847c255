-- The row for no window, for the loop of `fast::row::first_row`.
use Prim.Native.Nat.{ℕ, ◌+◌, ◌≤◌}
use native.Mathlib.Nat.{le_refl}
use native.Mathlib.Omega.{arith}
use mathlib.Core.Bool.{cond}
use mathlib.Core.List.{List, ◌∷◌}
use mathlib.Core.Path.{◌≡◌, refl, subst, ◌∙◌}
use lib.ListN.{length, get_or, set, replicate, length-set, length-replicate}
use Rattle.rule.specs.ClassCodes.{decode, decode_all}
use Rattle.rule.specs.Ranges.{Class, under_only, over_only, either, allows}
use Rattle.rule.specs.Rule.{goes_with}
use Rattle.rule.specs.declared.Shape.{Shape}
use Rattle.settings.specs.Refusals.{limit, places}
use Rattle.requests.specs.Best.{best}
use Rattle.requests.specs.Solution.{sentinel}
use Rattle.fast.specs.Rows.{Row}
use Rattle.fast.proofs.FromSlot.{from-slot}
use Rattle.fast.proofs.RowFrom.{RowFrom, least_from, row-start, row_step, row-end}

least-first : (shape : Shape) (c : Class) (cs : List Class) →
    cond (allows c 0) (best sentinel shape cs 0) sentinel ≡ best sentinel shape (c ∷ cs) 0
unfolding best allows goes_with
least-first shape under_only cs = refl
least-first shape over_only cs = omega arith
least-first shape either cs = refl

module _ (classes : List ℕ) where
  -- the row from slot i on
  pub record FirstRowFrom (row : List ℕ) (i : ℕ) : Type 0 where
    pub inside : i ≤ length classes
    pub few : length classes ≤ limit
    pub wide : length row ≡ places
    pub filled : (shape : Shape) → RowFrom shape classes 0 row i

  pub first-start : length classes ≤ limit → FirstRowFrom (replicate places 0) (length classes)
  first-start e =
      record {
        inside = le_refl _;
        few = e;
        wide = length-replicate {A = ℕ} places 0;
        filled = λ shape. row-start shape classes 0 e;
      }

  pub first_step : (row : List ℕ) (i v : ℕ) {j : ℕ} → j ≡ i + 1 → FirstRowFrom row j →
      v ≡ cond (allows (decode (get_or classes i 0)) 0) (get_or row (i + 1) 0) sentinel →
      FirstRowFrom (set row i v) i
  first_step row i v at g is =
      let f = subst (FirstRowFrom row) at g in
      record {
        inside = omega (arith, f.inside);
        few = f.few;
        wide = length-set row i v ∙ f.wide;
        filled = λ shape.
            row_step shape classes 0 row i v (omega (arith, f.inside, f.few, f.wide)) (f.filled shape)
            (here shape f.inside (f.filled shape));
      }
    where
      here : (shape : Shape) → i + 1 ≤ length classes → RowFrom shape classes 0 row (i + 1) →
          v ≡ least_from shape classes 0 i
      here shape l f =
          rw (from-slot classes i (omega arith)) (is ∙ rw (f.counts (i + 1) (le_refl _) l) (least-first shape _ _))

  pub first-end : {row : List ℕ} {i : ℕ} → i ≤ 0 → FirstRowFrom row i → (shape : Shape) →
      Row shape (decode_all classes) 0 row
  first-end e f shape = row-end shape classes 0 e (f.filled shape)
