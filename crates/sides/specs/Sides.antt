-- What lies on both sides of a place between slots, and the windows and uncovered slots that fit between them: the
-- words of the crate `fast`. That they say which parts a slot keeps is proved in proofs/Parts.antt.
use Rattle.std.specs.Prelude.{ℕ, suc, ◌+◌, ◌-◌, ◌≤◌, ◌<◌, true, List, reverse, ◌≡◌, length, drop, get_or}
use Rattle.rule.specs.Ranges.{Class, under_only, allows}
use Rattle.rule.specs.declared.Shape.{Shape}
use Rattle.requests.specs.Best.{clearable, best}
use Rattle.sides.specs.Reach.{reach}

-- the slots before slot x, from the last back to the first
abbrev pub before : List Class → (x : ℕ) → List Class
before cs x = drop (length cs - x) (reverse cs)

-- The slots owed can lie round a slot that is one of them: `owed` of them are this slot and those after it, the others
-- lie before it, as far as there are so many slots.
pub record ClearRound (settle : ℕ) (before after : List Class) : Type 0 where
  pub owed : ℕ
  pub at_most : owed ≤ settle
  pub clear_before : clearable (settle - owed) before ≡ true
  pub clear_after : clearable (owed - 1) after ≡ true

module _ (T : ℕ) (shape : Shape) where
  -- the least covered count of the slots before slot x, with at most a windows, and of those from slot x on
  abbrev pub least_before : List Class → (x a : ℕ) → ℕ
  least_before cs x a = best T shape (before cs x) a

  abbrev pub least_from : List Class → (x b : ℕ) → ℕ
  least_from cs x b = best T shape (drop x cs) b

  -- A window over slots x to e - 1 that keeps g bridges to spare, with at most a windows before it, fits into w windows
  -- and n covered slots.
  pub record GoodWindow (cs : List Class) (w n g a x e : ℕ) : Type 0 where
    pub order : x < e
    pub inside : e ≤ length cs
    pub begins : allows (get_or cs x under_only) 2 ≡ true
    pub ends : allows (get_or cs (e - 1) under_only) 2 ≡ true
    pub spare : g ≤ shape.h
    pub reaches : e ≤ x + reach shape g (drop x cs)
    pub clear_before : clearable shape.settle (before cs x) ≡ true
    pub clear_after : clearable shape.settle (drop e cs) ≡ true
    pub few : a < w
    pub short : least_before cs x a + (e - x) + least_from cs e (w - 1 - a) ≤ n

  -- Slot i uncovered, with at most a windows before it, fits into them.
  pub record GoodGap (cs : List Class) (w n a i : ℕ) : Type 0 where
    pub inside : i < length cs
    pub free : allows (get_or cs i under_only) 0 ≡ true
    pub clear : ClearRound shape.settle (before cs i) (drop (suc i) cs)
    pub few : a ≤ w
    pub short : least_before cs i a + least_from cs i (w - a) ≤ n

  -- slot i lies in a good window, with g slots of it on either side
  pub record InWindow (cs : List Class) (w n g i : ℕ) : Type 0 where
    pub a : ℕ
    pub x : ℕ
    pub e : ℕ
    pub left : x + g ≤ i
    pub right : i + g < e
    pub good : GoodWindow cs w n g a x e

  -- slot i lies in a good gap
  pub record InGap (cs : List Class) (w n i : ℕ) : Type 0 where
    pub a : ℕ
    pub good : GoodGap cs w n a i
