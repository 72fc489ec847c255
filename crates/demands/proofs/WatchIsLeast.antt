-- The watch's count, measured against the definition: the least over legal marks is the least over sets of sequences.
use Prim.Native.Nat.{ℕ, ◌≤◌}
use native.Mathlib.Omega.{arith}
use mathlib.Core.List.{List}
use lib.IntN.{ℤ}
use lib.ListN.{length}
use Rattle.rule.proofs.LegalFrom.{legal-length}
use Rattle.rule.proofs.Counts.{covered_le}
use Rattle.rule.specs.Rule.{carries, shaped, covered}
use Rattle.published.proofs.Theorems.{theorems}
use Rattle.published.specs.Published.{Sequence, SpringyFocus, sequences_of}
use Rattle.watch.proofs.CountIsLeast.{count-is-least}
use Rattle.watch.specs.States.{LeadsTo}
use Rattle.watch.specs.declared.Watch.{Watch}
use Rattle.demands.proofs.Delivers.{drawn-by}
use Rattle.demands.specs.Demands.{LeastNumber}

pub watch-least : (k : ℤ) (len h : ℕ) (X : List ℤ) (w : Watch) → LeadsTo k len h X w →
    LeastNumber (λ yc. (S : List Sequence) × SpringyFocus X yc len h k S) w.windows
watch-least k len h X w l =
    let over-marks = count-is-least k len h X l.accepted in
    let (ms, e, same) = over-marks.met in
    let short : covered ms ≤ length X = omega (arith, covered_le ms, legal-length (carries k) (shaped len h) X ms e) in
    rw (← l.state)
    record {
      met = (
        sequences_of 0 ms,
        (theorems.corners X _ _ _ _ 0 _).springy.1
            (drawn-by _ _ X ms _ _ e (omega (arith, same)) short),
      );
      least = λ u (S, d).
          let o = (theorems.corners X _ _ _ _ 0 S).springy.0 d in
          let (ms, e, into, onto, number, summed) = theorems.drawn k (shaped len h) _ _ X S o in
          omega (arith, over-marks.least ms e, number, o.number);
    }
