-- What `solve` and `row_after` promise, in the words of `best` (crates/requests/specs/Solution.antt).
use Rattle.std.specs.Prelude.{ℕ, ◌≤◌, ◌<◌, List, ◌≡◌, length, drop, get_or}
use Rattle.std.proofs.lemmas.List.Edits.{sets}
use Rattle.rule.specs.Ranges.{Class}
use Rattle.rule.specs.declared.Shape.{Shape}
use Rattle.settings.specs.Refusals.{limit, places}
use Rattle.settings.specs.declared.Settings.{Settings}
use Rattle.requests.specs.Best.{best_after}
use Rattle.requests.specs.Solution.{sentinel, least_covered_count, least_window_count, thrift_count, drawn_plan, loss}
use Rattle.fast.specs.Lost.{lost_at}
use Rattle.fast.specs.declared.Solved.{Solved}

-- The least covered count, always; where it keeps the covered maximum, the least window count, the thrift and the first
-- plan, into the marks; and where that maximum is below the sentinel, what each slot loses. Elsewhere nothing is said
-- of the two counts and of losses. Where the maximum is not kept, the marks stay as they were.
pub record Solves (s : Settings) (cs : List Class) (before after : List ℕ) (r : Solved) : Type 0 where
  pub wide : length r.lost ≡ limit
  pub covered : r.covered ≡ least_covered_count s cs
  pub none : s.covered.most < r.covered → after ≡ before
  pub windows : r.covered ≤ s.covered.most → r.windows ≡ least_window_count s cs
  pub thrift : r.covered ≤ s.covered.most → r.thrift ≡ thrift_count s cs
  pub drawn : r.covered ≤ s.covered.most → after ≡ sets before 0 (drawn_plan s cs)
  pub lost : r.covered ≤ s.covered.most → s.covered.most < sentinel → (i : ℕ) → i < length cs →
      lost_at r.lost i ≡ loss s cs i

-- What comes after a window, where at most w windows are left: for each slot the least covered count of the slots from
-- there on, with the slots owed first.
pub record RowAfter (shape : Shape) (cs : List Class) (w : ℕ) (row : List ℕ) : Type 0 where
  pub wide : length row ≡ places
  pub counts : (i : ℕ) → i ≤ length cs → get_or row i 0 ≡ best_after sentinel shape (drop i cs) w
