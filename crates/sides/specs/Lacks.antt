-- How many of the slots owed are lacking before a slot: the words in which they are counted, slot by slot.
use Rattle.std.specs.Prelude.{ℕ, ◌+◌, ◌-◌, ◌≤◌, cond, List, ◌≡◌, leb}
use Rattle.rule.specs.Ranges.{Class, allows}
use Rattle.requests.specs.Best.{clearable}

-- what is lacking before slots of these classes: the first q of them can be left uncovered exactly if so many are left
pub record Lacks (settle : ℕ) (cs : List Class) (lack : ℕ) : Type 0 where
  pub at_most : lack ≤ settle
  pub exactly : (q : ℕ) → q ≤ settle → clearable q cs ≡ leb (lack + q) settle

-- How many of the settle slots owed a window lacks that closes before a slot of class c, up to the next slot that must
-- be over; `next` is how many one lacks that closes after it. A window may close where it lacks none.
abbrev pub lacking_before : (settle : ℕ) → Class → (next : ℕ) → ℕ
lacking_before settle c next = cond (allows c 0) (next - 1) settle
