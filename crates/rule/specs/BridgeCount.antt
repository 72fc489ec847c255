-- The judge's running count of the bridges of the window under way, and what it is (document 02, T-04). No contract
-- rests on this.
use Rattle.std.specs.Prelude.{ℕ, List, [], ◌∷◌, ◌++◌, ◌≡◌}
use Rattle.rule.specs.Rule.{rest, bridges}
use Rattle.rule.specs.ScanState.{bridges_after}

-- the count after marks, where it was b before them: after each slot it follows from the one before and the slot's mark
unfoldable pub running : (b : ℕ) → List ℕ → ℕ
running b [] = b
running b (m ∷ ms) = running (bridges_after b m) ms

-- b is the number of marks 3 since the mark 1 of the window that the marks end in: for every front, a mark 1, and marks
-- 2 and 3 after it (such a tail is its own `rest`). Of marks that do not end in a window nothing is said
abbrev pub BridgesSinceOpening : (b : ℕ) (marks : List ℕ) → Type 0
BridgesSinceOpening b marks =
    (front tail : List ℕ) → marks ≡ front ++ 1 ∷ tail → rest tail ≡ tail → b ≡ bridges tail

-- the running count is that number, whatever it was before the marks. Of the count in the judge's own loop this is
-- `count-in-window` in crates/judge/proofs/marks/legal/Answers.antt
abbrev pub RunningCount : Type 0
RunningCount = (b : ℕ) (marks : List ℕ) → BridgesSinceOpening (running b marks) marks
