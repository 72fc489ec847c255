-- Marks as a number to base 4, the mark of slot 0 first: it rises with the order, so that no list rises for ever.
use Prim.Native.Nat.{ℕ, suc, ◌+◌, ◌*◌, ◌<◌}
use native.Mathlib.Omega.{arith}
use mathlib.Core.List.{List, [], ◌∷◌}
use mathlib.Core.Path.{◌≡◌}
use lib.ListN.{length, get_or, replicate, length-replicate}
use Rattle.rule.specs.Order.{◌≺◌, ended, smaller, level}

-- the number that marks make after others that make n
abbrev pub value : (n : ℕ) → List ℕ → ℕ
value n [] = n
value n (m ∷ ms) = value (4 * n + m) ms

abbrev pub Small : List ℕ → Type 0
Small ms = (i : ℕ) → get_or ms i 0 < 4

value-mono : (ms ks : List ℕ) {n n' : ℕ} → Small ms → length ms ≡ length ks → n < n' → value n ms < value n' ks
value-mono [] [] small same e = e
value-mono [] (k ∷ ks) small same e = absurd (omega arith)
value-mono (m ∷ ms) [] small same e = absurd (omega arith)
value-mono (m ∷ ms) (k ∷ ks) small same e =
    value-mono ms ks (λ i. small (suc i)) (omega arith) (omega (arith, small 0))

pub value-rises : {ms ks : List ℕ} (n : ℕ) → Small ms → length ms ≡ length ks → ms ≺ ks → value n ms < value n ks
value-rises n small same ended = absurd (omega arith)
value-rises n small same (smaller {ms = ms} {ks = ks} e) =
    value-mono ms ks (λ i. small (suc i)) (omega arith) (omega arith)
value-rises n small same (level l) = value-rises _ (λ i. small (suc i)) (omega arith) l

-- above the number of all marks of n slots
abbrev pub top : (n : ℕ) → ℕ
top n = value 1 (replicate n 0)

pub below_top : (ms : List ℕ) (n : ℕ) → Small ms → length ms ≡ n → value 0 ms < top n
below_top ms n small same =
    value-mono ms (replicate n 0) small (omega (arith, same, length-replicate {A = ℕ} n 0)) (omega arith)
