-- Worked examples of the papers, as instances of the definitions (proved in proofs/Examples.antt).
use Rattle.std.specs.Prelude.{ℕ, List, [], ◌∷◌, map, ℤ, pos}
use Rattle.published.specs.Published.{Sequence, Focus, WeightedFocus}

-- [i, .., j]
abbrev pub sequence : ℕ → ℕ → Sequence
sequence i j = record { first = i; last = j }

-- 002, Example 2: X = ⟨1, 3, 1, 0, 1, 0⟩
abbrev pub X : List ℤ
X = map pos (1 ∷ 3 ∷ 1 ∷ 0 ∷ 1 ∷ 0 ∷ [])

pub record Examples : Type 0 where
  -- 000, Examples 2 and 4 (Table 1): WeightedFocus(X, [2, 2], 5, 0, [7, 7]) is satisfied, by [0, .., 3] and [5, .., 7]
  pub table_1 : WeightedFocus (map pos (1 ∷ 1 ∷ 1 ∷ 1 ∷ 0 ∷ 1 ∷ 1 ∷ 1 ∷ [])) 2 5 (pos 0) 7
      (sequence 0 3 ∷ sequence 5 7 ∷ [])
  -- 002, Example 2: Focus(X, 2, 6, 0) is satisfied, by ⟨x0, x1, x2⟩ and ⟨x4⟩
  pub satisfied : Focus X 2 6 (pos 0) (sequence 0 2 ∷ sequence 4 4 ∷ [])
  -- Focus(X, 2, 2, 0) is violated
  pub violated : (S : List Sequence) → Focus X 2 2 (pos 0) S → ⊥
