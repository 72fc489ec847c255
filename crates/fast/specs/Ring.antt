-- The last rows, in a ring: row v stands at the place that follows from v.
use Rattle.std.specs.Prelude.{ℕ, ◌+◌, ◌%◌, ◌≤◌, ◌<◌, List, [], get_or}
use Rattle.rule.specs.Ranges.{Class}
use Rattle.rule.specs.declared.Shape.{Shape}
use Rattle.fast.specs.Rows.{Row}

abbrev pub ring_rows : ℕ
ring_rows = 32

abbrev pub place_of : (v : ℕ) → ℕ
place_of v = v % ring_rows

abbrev pub row_at : (rows : List (List ℕ)) (v : ℕ) → List ℕ
row_at rows v = get_or rows (place_of v) []

-- The ring has the rows up to row `last`, as far back as it goes; up to `top` all later rows are equal to that one.
pub record Ring (shape : Shape) (cs : List Class) (top : ℕ) (rows : List (List ℕ)) (last : ℕ) : Type 0 where
  pub recent : (v : ℕ) → v ≤ last → last < v + ring_rows → Row shape cs v (row_at rows v)
  pub repeated : (u : ℕ) → last ≤ u → u ≤ top → Row shape cs u (row_at rows last)
