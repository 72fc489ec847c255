-- What is promised of a span.
use Rattle.std.specs.Prelude.{ℕ, ◌≤◌, List, ◌≡◌, length, take}
use Rattle.rule.specs.Ranges.{Class}
use Rattle.sides.specs.Reach.{lows}
use Rattle.fast.specs.declared.reach.Span.{Span}

-- a window of r slots and b bridges can cover the first of these slots, as many as the span has
pub record Covers (r b : ℕ) (cs : List Class) (span : Span) : Type 0 where
  pub inside : span.slots ≤ length cs
  pub within : span.slots ≤ r
  pub counted : span.bridges ≡ lows (take span.slots cs)
  pub enough : span.bridges ≤ b
