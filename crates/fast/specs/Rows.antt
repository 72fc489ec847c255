-- What is promised of rows and of what they are made from, in the words of `best`.
use Rattle.std.specs.Prelude.{ℕ, suc, ◌+◌, ◌-◌, ◌≤◌, ◌<◌, cond, List, ◌≡◌, length, drop, get_or}
use Rattle.rule.specs.Ranges.{Class, under_only, allows}
use Rattle.rule.specs.declared.Shape.{Shape}
use Rattle.requests.specs.Best.{best, best_after}
use Rattle.requests.specs.Solution.{sentinel}
use Rattle.sides.specs.Lacks.{Lacks}
use Rattle.sides.specs.Reach.{fit}

-- A row of least counts: for each slot the least covered count of the slots from there on, with at most w windows. Past
-- the last slot that is 0.
pub record Row (shape : Shape) (cs : List Class) (w : ℕ) (row : List ℕ) : Type 0 where
  pub counts : (i : ℕ) → i ≤ length cs → get_or row i 0 ≡ best sentinel shape (drop i cs) w

-- what comes after a window that ends with slot i, where at most w windows are left then
abbrev pub end_at : Shape → List Class → (i w : ℕ) → ℕ
end_at shape cs i w = cond (allows (get_or cs i under_only) 2) (best_after sentinel shape (drop (suc i) cs) w) sentinel

pub record Ends (shape : Shape) (cs : List Class) (w : ℕ) (ends : List ℕ) : Type 0 where
  pub counts : (i : ℕ) → i < length cs → get_or ends i 0 ≡ end_at shape cs i w

-- for each slot, how many slots a window can cover from there on, of at most len slots and h bridges. A len of 0 counts
-- as 1
pub record Reaches (len h : ℕ) (cs : List Class) (reach : List ℕ) : Type 0 where
  pub counts : (i : ℕ) → i ≤ length cs → get_or reach i 0 ≡ fit (drop i cs) (suc (len - 1)) h

-- for each slot, how many of the slots owed are lacking from there on
pub record LacksFrom (settle : ℕ) (cs : List Class) (lacks : List ℕ) : Type 0 where
  pub counts : (i : ℕ) → i ≤ length cs → Lacks settle (drop i cs) (get_or lacks i 0)

-- A reach ends within the n slots, and that of the next slot ends no earlier: what the code for a row needs of it.
pub record Bounded (reach : List ℕ) (n : ℕ) : Type 0 where
  pub last : get_or reach n 0 ≡ 0
  pub within : (i : ℕ) → i ≤ n → i + get_or reach i 0 ≤ n
  pub later : (i : ℕ) → i < n → get_or reach i 0 ≤ suc (get_or reach (i + 1) 0)
