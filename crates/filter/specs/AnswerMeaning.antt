-- All that comes back from the filter, for its contract.
use Rattle.std.specs.Prelude.{ℕ, List, ℤ}
use Rattle.refusals.specs.Answer.{Answer}
use Rattle.requests.specs.Promise.{Result, Outcome}

abbrev pub outcome_of : Answer Result → (lowest highest : List ℤ) (marks : List ℕ) → Outcome
outcome_of a lo hi ms = record { answer = a; lowest = lo; highest = hi; marks = ms }
