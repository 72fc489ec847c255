-- A plan scanned from the left, for the loop of `judge::marks::legal`.
use Prim.Native.Nat.{ℕ, ◌+◌, ◌≤◌, ◌<◌}
use native.Mathlib.Omega.{arith}
use mathlib.Core.Bool.{true, false, not, ◌||◌}
use mathlib.Core.List.{List, []}
use mathlib.Core.Path.{◌≡◌, refl}
use lib.Dec.{eqb}
use lib.IntN.{ℤ, pos}
use lib.ListN.{length, take, drop, get_or, drop_of_length-le, length-take}
use Rattle.rule.proofs.LegalFrom.{WithinSoFar, Passes, LegalFrom, start, legal→from, from→legal, legal_from-split}
use Rattle.rule.proofs.LegalFrom.{legal_from-join, from-nil→not-3, not-3→from-nil}
use Rattle.facts.proofs.Tests.{bool-ext, false_of_not, cond-at-most}
use Rattle.facts.proofs.Lists.{uncons}
use Rattle.rule.proofs.BridgeCount.{running-step, running-le}
use Rattle.judge.proofs.ScanStep.{Passes→not-broken, on→Passes}
use Rattle.rule.specs.ScanState.{slots_after, advanced}
use Rattle.rule.specs.BridgeCount.{running}
use Rattle.judge.specs.ScanStep.{step_of, on, broken}
use Rattle.rule.specs.Rule.{over, clear, carries, legal}
use Rattle.rule.specs.declared.ScanState.{ScanState}
use Rattle.rule.specs.declared.Shape.{Shape}

slots_after-le : (m : ℕ) {l i : ℕ} → l ≤ i → slots_after l m ≤ i + 1
unfolding slots_after
slots_after-le m bound =
    cond-at-most (eqb m 1) _ _ (omega arith) (cond-at-most (eqb m 2 || eqb m 3) _ _ (omega arith) (omega arith))

module _ (k : ℤ) (shape : Shape) (xs : List ℤ) (ms : List ℕ) where
  -- the scan stands before slot i: its count of bridges is that of the marks so far (document 02, T-04), and the plan
  -- is legal exactly when the slots that are left keep the rule from here on
  pub record LeftToScan (at : ScanState) (i : ℕ) : Type 0 where
    pub slots : at.slots ≤ i
    pub counted : at.bridges ≡ running 0 (take i ms)
    pub fits : WithinSoFar shape at
    pub to : legal k shape xs ms ≡ true → LegalFrom (carries k) shape at (drop i xs) (drop i ms)
    pub from : LegalFrom (carries k) shape at (drop i xs) (drop i ms) → legal k shape xs ms ≡ true

  pub scan-start : LeftToScan (start 0) 0
  unfolding running clear
  scan-start =
      record {
        slots = omega arith;
        counted = refl;
        fits = omega arith;
        to = λ e. legal→from (carries k) shape xs ms 0 e refl;
        from = λ o. (from→legal (carries k) shape xs ms 0 o).0;
      }

  module _ (at : ScanState) (i : ℕ) (left : LeftToScan at i) where
    pub scan-bridges-le : at.bridges ≤ i
    scan-bridges-le = omega (arith, left.counted, running-le 0 (take i ms), length-take i ms)

    pub scan-end : length ms ≤ i → length xs ≡ length ms → not (eqb at.mark 3) ≡ legal k shape xs ms
    scan-end g e =
        let ex : drop i xs ≡ [] = drop_of_length-le xs {i = i} (omega arith) in
        let em : drop i ms ≡ [] = drop_of_length-le ms g in
        bool-ext
        _
        _
        (λ q. left.from (rw (ex, em) (not-3→from-nil (carries k) shape at left.fits q)))
        (λ q. from-nil→not-3 (carries k) shape at (rw (ex, em) at (left.to q)))

    module _ (hx : i < length xs) (hm : i < length ms) where
      abbrev x : ℤ
      x = get_or xs i (pos 0)

      abbrev m : ℕ
      m = get_or ms i 0

      legal→split : legal k shape xs ms ≡ true →
          Passes shape at (carries k x m) m × LegalFrom (carries k) shape (advanced shape.settle at m)
          (drop (i + 1) xs) (drop (i + 1) ms)
      legal→split e =
          legal_from-split (carries k) shape at _ x _ m (rw (uncons xs i (pos 0) hx, uncons ms i 0 hm) at (left.to e))

      pub scan-broken : step_of shape at (over k x) m ≡ broken → legal k shape xs ms ≡ false
      scan-broken e = false_of_not _ (λ q. Passes→not-broken shape _ _ _ (legal→split q).0 e)

      pub scan_step : (next : ScanState) → step_of shape at (over k x) m ≡ on next → LeftToScan next (i + 1)
      scan_step next e =
          let (p, n) = on→Passes shape _ _ _ next e in
          rw (← n)
          (record {
            slots = slots_after-le m left.slots;
            counted = rw left.counted (running-step 0 ms i hm);
            fits = p.fits;
            to = λ q. (legal→split q).1;
            from =
                λ o. left.from (rw (uncons xs i (pos 0) hx, uncons ms i 0 hm)
                (legal_from-join (carries k) shape at _ x _ m left.fits p o));
          })
