-- Which slots can be uncovered, as far as the slots owed are concerned: those round which not too many are lacking.
use Prim.Native.Nat.{ℕ, suc, ◌+◌, ◌-◌, ◌≤◌}
use native.Mathlib.Omega.{arith}
use mathlib.Core.Bool.{true}
use mathlib.Core.List.{List}
use mathlib.Core.Logic.{◌↔◌}
use mathlib.Core.Path.{◌≡◌, sym, ◌∙◌}
use borrow.Author.Tests.{le-leb, leb-true}
use Rattle.rule.specs.Ranges.{Class}
use Rattle.requests.specs.Best.{clearable}
use Rattle.sides.specs.Lacks.{Lacks}
use Rattle.sides.specs.Sides.{ClearRound}

clearable-iff : {settle lack : ℕ} {cs : List Class} → Lacks settle cs lack → (q : ℕ) → q ≤ settle →
    (clearable q cs ≡ true) ↔ (lack + q ≤ settle)
clearable-iff {settle} {lack} l q e = (
  (λ f. leb-true (lack + q) settle (sym (l.exactly q e) ∙ f)),
  (λ f. l.exactly q e ∙ le-leb (lack + q) settle f),
)

pub clear-round-iff : {settle p q : ℕ} {before after : List Class} → Lacks settle before p → Lacks settle after q →
    ClearRound settle before after ↔ (p + q ≤ suc settle)
clear-round-iff {settle} {p} {q} {before} {after} k l = (to, from)
  where
    to : ClearRound settle before after → p + q ≤ suc settle
    to c =
        let e = (clearable-iff k (settle - c.owed) (omega arith)).0 c.clear_before in
        let f = (clearable-iff l (c.owed - 1) (omega (arith, c.at_most))).0 c.clear_after in
        omega (arith, c.at_most, l.at_most, e, f)

    from : p + q ≤ suc settle → ClearRound settle before after
    from e =
        record {
          owed = p;
          at_most = k.at_most;
          clear_before = (clearable-iff k (settle - p) (omega arith)).1 (omega (arith, k.at_most));
          clear_after = (clearable-iff l (p - 1) (omega (arith, k.at_most))).1 (omega (arith, l.at_most));
        }
