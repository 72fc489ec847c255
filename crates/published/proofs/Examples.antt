-- What specs/Examples.antt states, proved.
use Prim.Native.Nat.{ℕ, ◌+◌, ◌≤◌, ◌<◌}
use native.Mathlib.Omega.{arith}
use mathlib.Core.List.{List, [], ◌∷◌, map}
use mathlib.Core.Path.{refl, sym, subst}
use lib.IntN.{pos}
use lib.Signed.{lt_z_yes, ◌<ℤ◌}
use Rattle.rule.specs.Rule.{over, goes_with, agrees, follows, ordered, rest, beyond, clear, count_if, keeps}
use Rattle.rule.specs.Rule.{each_window, legal_by, shaped, windows, covered}
use Rattle.published.proofs.Corners.{covered-at-length, focus, weighted}
use Rattle.published.proofs.Draws.{draws}
use Rattle.published.proofs.Sets.{◌∈◌, Within, DisjointPair, each, into, which, share→same, length-le}
use Rattle.published.specs.Examples.{sequence, X, Examples}
use Rattle.published.specs.Published.{Sequence, Holds, size, load, Focus, WeightedFocus, DisjointSequences}
use Rattle.published.specs.Published.{sequences_of}

table_1 : WeightedFocus (map pos (1 ∷ 1 ∷ 1 ∷ 1 ∷ 0 ∷ 1 ∷ 1 ∷ 1 ∷ [])) 2 5 (pos 0) 7 (sequence 0 3 ∷ sequence 5 7 ∷ [])
unfolding over goes_with agrees follows ordered rest beyond clear count_if keeps each_window legal_by windows covered
    sequences_of
table_1 = (weighted _ _ _ _ _ _).1 (draws (pos 0) (shaped 5 0) _ (1 ∷ 2 ∷ 2 ∷ 2 ∷ 0 ∷ 1 ∷ 2 ∷ 2 ∷ []) refl).0

satisfied : Focus X 2 6 (pos 0) (sequence 0 2 ∷ sequence 4 4 ∷ [])
unfolding over goes_with agrees follows ordered rest beyond clear count_if keeps each_window legal_by windows covered
    sequences_of
satisfied =
    let o = (draws (pos 0) (shaped 6 0) X (1 ∷ 2 ∷ 2 ∷ 0 ∷ 1 ∷ 0 ∷ []) refl).0 in
    (focus _ _ _ _ _).1 (covered-at-length _ _ _ _ _ _ o)

-- no two of x0, x2 and x4 are in one sequence of at most 2 indices, so that they need three sequences
violated : (S : List Sequence) → Focus X 2 2 (pos 0) S → ⊥
violated S d =
    let (a, am, ha) = at 0 (omega arith) (lt_z_yes tt) in
    let (b, bm, hb) = at 2 (omega arith) (lt_z_yes tt) in
    let (c, cm, hc) = at 4 (omega arith) (lt_z_yes tt) in
    let three : DisjointSequences 6 (a ∷ b ∷ c ∷ []) = (
      (within am, (within bm, (within cm, tt))),
      (
        (disjoint 0 2 (omega arith) am bm ha hb, (disjoint 0 4 (omega arith) am cm ha hc, tt)),
        ((disjoint 2 4 (omega arith) bm cm hb hc, tt), (tt, tt)),
      ),
    ) in
    let more = length-le 6 (a ∷ b ∷ c ∷ []) S three (into am (into bm (into cm (λ t m. elim m [ ])))) in
    omega (arith, more, d.c1)
  where
    at : (l : ℕ) → l < 6 → pos 0 <ℤ load X l → (t : Sequence) × (t ∈ S) × Holds l t
    at l bound o = which (Holds l) S ((d.c2 l bound).0 o)

    within : {t : Sequence} → t ∈ S → Within 6 t
    within m = each (Within 6) d.set.0 m

    disjoint : {t u : Sequence} (i j : ℕ) → i + 2 ≤ j → t ∈ S → u ∈ S → Holds i t → Holds j u → DisjointPair t u
    disjoint i j bound tm um ht hu l hl hl' =
        let e = share→same l d.set.1 tm um hl hl' in
        let ku = subst (λ u. Holds j u) (sym e) hu in
        omega (arith, ht, ku, each (λ s. size s ≤ 2) d.c3 tm)

pub examples : Examples
examples = record { table_1 = table_1; satisfied = satisfied; violated = violated }
