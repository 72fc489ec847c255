-- The ends of the ranges on the marks' sides, slot by slot.
use Prim.Native.Nat.{ℕ, zero, suc, ◌<◌}
use native.Mathlib.Omega.{arith}
use mathlib.Core.List.{List, [], ◌∷◌}
use mathlib.Core.Path.{◌≡◌, refl, sym, ap, ◌∙◌}
use lib.IntN.{ℤ}
use lib.ListN.{length, get_or}
use Rattle.requests.proofs.ChosenIn.{paired-length}
use Rattle.rule.specs.Ranges.{range, end_for, ends_for}
use Rattle.rule.specs.declared.Range.{Range}
use Rattle.requests.specs.Request.{at, paired}

ends-length : (rs : List Range) (ms : List ℕ) → length (ends_for rs ms) ≡ length rs
ends-length [] ms = refl
ends-length (r ∷ rs) [] = ap suc (ends-length rs [])
ends-length (r ∷ rs) (m ∷ ms) = ap suc (ends-length rs ms)

pub paired-ends : (los his : List ℤ) (ms : List ℕ) → length his ≡ length los →
    length (ends_for (paired los his) ms) ≡ length los
paired-ends los his ms width = ends-length (paired los his) ms ∙ paired-length los his (sym width)

pub ends_at : (los his : List ℤ) (ms : List ℕ) (i : ℕ) → i < length los → i < length his → i < length ms →
    at (ends_for (paired los his) ms) i ≡ end_for (range (at los i) (at his i)) (get_or ms i 0)
ends_at [] his ms i p q s = absurd (omega arith)
ends_at (lo ∷ los) [] ms i p q s = absurd (omega arith)
ends_at (lo ∷ los) (hi ∷ his) [] i p q s = absurd (omega arith)
ends_at (lo ∷ los) (hi ∷ his) (m ∷ ms) zero p q s = refl
ends_at (lo ∷ los) (hi ∷ his) (m ∷ ms) (suc i) p q s = ends_at los his ms i (omega arith) (omega arith) (omega arith)
