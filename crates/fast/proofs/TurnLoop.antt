-- A list from its last element to its first, for the loop of `turned::turn`.
use Prim.Native.Nat.{ℕ, ◌+◌, ◌-◌, ◌≤◌, ◌<◌}
use native.Mathlib.Omega.{arith}
use mathlib.Core.List.{List, reverse}
use mathlib.Core.Path.{◌≡◌, refl, sym, ◌∙◌}
use lib.ListN.{length, take, get_or, set, replicate, length-reverse, length-replicate, length-set}
use lib.Seq.{take_all}
use Rattle.facts.proofs.Lists.{take_set_next, reverse-at}
use Rattle.settings.specs.Refusals.{limit}

module _ (classes : List ℕ) where
  -- the first i of the turned classes are written
  pub record TurnedBefore (turned : List ℕ) (i : ℕ) : Type 0 where
    pub inside : i ≤ length classes
    pub wide : length turned ≡ limit
    pub same : take i turned ≡ take i (reverse classes)

  pub turn-start : TurnedBefore (replicate limit 0) 0
  turn-start = record { inside = omega arith; wide = length-replicate {A = ℕ} limit 0; same = refl }

  module _ (turned : List ℕ) (i : ℕ) (t : TurnedBefore turned i) (short : length classes ≤ limit) where
    pub turn_step : (v : ℕ) → i < length classes → v ≡ get_or classes (length classes - (i + 1)) 0 →
        TurnedBefore (set turned i v) (i + 1)
    turn_step v e is =
        record {
          inside = omega arith;
          wide = length-set turned i v ∙ t.wide;
          same = take_set_next turned (reverse classes) i v 0 (omega (arith, t.wide))
              (omega (arith, e, length-reverse classes)) t.same (is ∙ sym (reverse-at classes i 0 e));
        }

    pub turn_end : length classes ≤ i → take (length classes) turned ≡ reverse classes
    turn_end e =
        let whole : i ≡ length classes = omega (arith, t.inside) in
        rw whole at t.same ∙ take_all (length classes) (reverse classes) (omega (arith, length-reverse classes))
