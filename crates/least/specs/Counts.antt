-- What `least_counts` hands up, in the words of `best`: the fewest windows, with the least covered count among plans
-- with that many (document 02, T-02), and the least covered count. That they are these is `CountsAreLeast` in
-- crates/requests/specs/Solution.antt.
use Rattle.std.specs.Prelude.{List, ◌≡◌}
use Rattle.rule.specs.Ranges.{Class}
use Rattle.settings.specs.declared.Settings.{Settings}
use Rattle.requests.specs.Solution.{least_covered_count, least_window_count, thrift_count}
use Rattle.least.specs.declared.LeastCounts.{LeastCounts}

abbrev pub Counted : Settings → List Class → LeastCounts → Type 0
Counted s cs least =
    (least.windows ≡ least_window_count s cs) × (least.thrift ≡ thrift_count s cs)
    × (least.covered ≡ least_covered_count s cs)
