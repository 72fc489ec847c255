-- A row of least counts, from the last slot back to the first, for the loop of `fast::row::row_of`.
use Prim.Native.Nat.{ℕ, suc, ◌+◌, ◌≤◌, ◌<◌}
use native.Mathlib.Nat.{le_refl}
use native.Mathlib.Omega.{arith}
use mathlib.Core.Bool.{cond}
use mathlib.Core.List.{List, ◌∷◌}
use mathlib.Core.Path.{◌≡◌, refl, subst, ◌∙◌}
use lib.ListN.{length, drop, get_or, set, replicate, length-drop, length-map, length-set, length-replicate, get_or-replicate}
use lib.Seq.{get_or-drop, drop-drop}
use Rattle.rule.specs.ClassCodes.{decode, decode_all}
use Rattle.rule.specs.Ranges.{Class, under_only, allows}
use Rattle.rule.specs.declared.Shape.{Shape}
use Rattle.settings.specs.Refusals.{limit, places}
use Rattle.requests.specs.Solution.{sentinel}
use Rattle.fast.proofs.FromSlot.{from-slot}
use Rattle.fast.proofs.Nearest.{best-nearest}
use Rattle.fast.proofs.ReachLoop.{bounded}
use Rattle.fast.proofs.RowFrom.{RowFrom, least_from, row-start, row_step, row-end}
use Rattle.fast.proofs.Serves.{serves-anew, serves-least}
use Rattle.fast.specs.Minima.{Serves, Stepped, least_kept}
use Rattle.fast.specs.Rows.{Row, Ends, Reaches}
use Rattle.fast.specs.declared.row.Near.{Near}

ends-from : {shape : Shape} {w : ℕ} (cs : List Class) (i : ℕ) (ends : List ℕ) → Ends shape cs w ends →
    Ends shape (drop i cs) w (drop i ends)
ends-from cs i ends e =
    record {
      counts = λ j l.
          let n : i + suc j ≡ suc (i + j) = omega arith in
          get_or-drop i ends j 0 ∙ e.counts (i + j) (omega (arith, l, length-drop i cs))
          ∙ rw (get_or-drop i cs j under_only, drop-drop (suc j) i cs, n) refl;
    }

module _ (shape : Shape) (classes reach ends : List ℕ) where
  abbrev cs : List Class
  cs = decode_all classes

  -- what is said of a row is said of all window counts for which the ends are right
  abbrev Filled : (row : List ℕ) (i : ℕ) → Type 0
  Filled row i = (w : ℕ) → Ends shape cs w ends → RowFrom shape classes (suc w) row i

  -- the row from slot i on, and what serves that slot
  pub record MadeFrom (minima row : List ℕ) (near : Near) (i : ℕ) : Type 0 where
    pub inside : i ≤ length classes
    pub few : length classes ≤ limit
    pub wide : length row ≡ places
    pub serves : Serves ends i (get_or reach i 0) near minima
    pub filled : Filled row i

  pub made-start : length classes ≤ limit → Reaches shape.len shape.h cs reach →
      MadeFrom (replicate places sentinel) (replicate places 0) (record { ends = 0; least = sentinel }) (length classes)
  made-start e r =
      record {
        inside = le_refl _;
        few = e;
        wide = length-replicate {A = ℕ} places 0;
        serves = rw none (serves-anew record {
          least = λ k l.
              let first : k ≡ 0 = omega arith in
              rw (first, get_or-replicate {A = ℕ} places 0 sentinel 0 (omega arith)) refl;
        });
        filled = λ w n. row-start shape classes (suc w) e;
      }
    where
      none : get_or reach (length classes) 0 ≡ 0
      none = rw (← (length-map classes decode)) (bounded r).last

  -- the value at slot i is the least count there
  value-least : (row : List ℕ) (i v : ℕ) (minima : List ℕ) (near : Near) → length classes ≤ length ends →
      i < length classes → near.ends ≤ get_or reach i 0 → Serves ends i (get_or reach i 0) near minima →
      Filled row (i + 1) →
      v ≡ cond (allows (decode (get_or classes i 0)) 0) (get_or row (i + 1) 0)
      (least_kept (get_or reach i 0) near minima) →
      Reaches shape.len shape.h cs reach → (w : ℕ) → Ends shape cs w ends → v ≡ least_from shape classes (suc w) i
  value-least row i v minima near o l d s f is r w n =
      let slots : length cs ≡ length classes = length-map classes decode in
      let here = from-slot classes i l in
      let there : length (decode (get_or classes i 0) ∷ drop (i + 1) cs) ≤ length (drop i ends) =
      omega (arith, l, o, slots, length-drop (i + 1) cs, length-drop i ends) in
      let e = rw here at (ends-from cs i ends n) in
      is
      ∙ rw (
        serves-least d s,
        r.counts i (omega (arith, l, slots)),
        (f w n).counts (i + 1) (le_refl _) (omega arith),
        here,
      )
      (best-nearest shape _ _ _ w there e)

  pub made-step : (row minima minima₁ : List ℕ) (near near₁ : Near) (i v : ℕ) {j : ℕ} →
      length classes ≤ length ends → Reaches shape.len shape.h cs reach → j ≡ i + 1 → MadeFrom minima row near j →
      near₁.ends ≤ get_or reach i 0 →
      Stepped ends i (get_or reach i 0) near near₁ minima minima₁ →
      v ≡ cond (allows (decode (get_or classes i 0)) 0) (get_or row (i + 1) 0)
      (least_kept (get_or reach i 0) near₁ minima₁) →
      MadeFrom minima₁ (set row i v) near₁ i
  made-step row minima minima₁ near near₁ i v o r p g d step is =
      let f = subst (MadeFrom minima row near) p g in
      let l : i < length classes = omega (arith, f.inside) in
      let serves = step (get_or reach (i + 1) 0) ((bounded r).later i (omega (arith, l, length-map classes decode))) f.serves in
      record {
        inside = omega arith;
        few = f.few;
        wide = length-set row i v ∙ f.wide;
        serves = serves;
        filled = λ w n.
            row_step shape classes (suc w) row i v (omega (arith, f.few, f.wide)) (f.filled w n)
            (value-least row i v minima₁ near₁ o l d serves f.filled is r w n);
      }

  pub made-end : {minima row : List ℕ} {near : Near} {i : ℕ} → i ≤ 0 → MadeFrom minima row near i → (w : ℕ) →
      Ends shape cs w ends → Row shape cs (suc w) row
  made-end e f w n = row-end shape classes (suc w) e (f.filled w n)
