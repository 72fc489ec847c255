-- A count of marks, kept slot by slot: before slot i it is n, and the marks from slot i on add the rest of the total.
use Prim.Native.Nat.{ℕ, suc, ◌+◌, ◌≤◌, ◌<◌}
use native.Mathlib.Omega.{arith}
use mathlib.Core.Bool.{Bool, true, false, cond}
use mathlib.Core.List.{List}
use mathlib.Core.Path.{◌≡◌}
use lib.ListN.{length, drop, get_or, drop_of_length-le}
use Rattle.facts.proofs.Lists.{uncons}
use Rattle.rule.specs.Rule.{count_if}

module _ (p : ℕ → Bool) (ms : List ℕ) where
  pub record Tally (i n : ℕ) : Type 0 where
    pub le_slot : n ≤ i
    pub total : count_if p ms ≡ n + count_if p (drop i ms)

  pub tally-start : Tally 0 0
  tally-start = omega arith

  pub tally-step : (i n : ℕ) → i < length ms → Tally i n → Tally (i + 1) (cond (p (get_or ms i 0)) (n + 1) n)
  unfolding count_if
  tally-step i n bound t = by (p (get_or ms i 0)) (rw (uncons ms i 0 bound) at t.total)
    where
      by : (b : Bool) → count_if p ms ≡ n + cond b (suc (count_if p (drop (i + 1) ms))) (count_if p (drop (i + 1) ms)) →
          Tally (i + 1) (cond b (n + 1) n)
      by true e = omega arith
      by false e = omega arith

  pub tally-end : (i n : ℕ) → length ms ≤ i → Tally i n → n ≡ count_if p ms
  unfolding count_if
  tally-end i n bound t = let e : count_if p (drop i ms) ≡ 0 = rw (drop_of_length-le ms bound) in omega arith
