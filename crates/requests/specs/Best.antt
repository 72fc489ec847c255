-- Least covered counts, by recursion on the slots. The functions of the crate `least` promise to give them; the
-- filter's promise does not rest on them. Two theorems say what they are: `best_from-le-covered` and `best_from-met` in
-- proofs/BestIsLeast.antt, which of slots that owe nothing are `best-le-covered` and `best-met`.
--
-- A slot is given by its class. A len of 0 counts as 1: a window has a first slot and at most len - 1 more, with at
-- most h bridges. T stands for "no plan": counts are capped at T.
--
-- Leaving a slot uncovered costs nothing, so that the uncovered slots owed after a window only keep it from closing
-- where one of them must be over: no count but `best_from` knows of them.
use Rattle.std.specs.Prelude.{ℕ, zero, suc, ◌-◌, ◌≤◌, min, Bool, true, cond, ◌&&◌, List, [], ◌∷◌, ◌≡◌, leb}
use Rattle.rule.specs.Ranges.{Class, allows}
use Rattle.rule.specs.Rule.{legal_by, nonzero, windows, covered}
use Rattle.rule.specs.declared.Shape.{Shape}

-- marks that are legal for slots of these classes, with at most w windows and c covered slots
pub record Fits (shape : Shape) (cs : List Class) (w c : ℕ) (ms : List ℕ) : Type 0 where
  pub in_rule : legal_by allows (nonzero shape) cs ms ≡ true
  pub few : windows ms ≤ w
  pub short : covered ms ≤ c

-- one of n is used, and f is given how many are left; if n is 0, there is no plan
abbrev pub using_one : (T n : ℕ) → (ℕ → ℕ) → ℕ
using_one T zero f = T
using_one T (suc n) f = f n

-- one more slot is covered, with the count capped at T
abbrev pub saturating_suc : (T c : ℕ) → ℕ
saturating_suc T c = min T (suc c)

-- the first s slots, as far as there are so many, can be left uncovered
unfoldable pub clearable : (s : ℕ) → List Class → Bool
clearable zero cs = true
clearable (suc s) [] = true
clearable (suc s) (c ∷ cs) = allows c 0 && clearable s cs

-- the count n of these slots, where s uncovered slots are owed first
abbrev pub owing : (T s : ℕ) → List Class → (n : ℕ) → ℕ
owing T s cs n = cond (clearable s cs) n T

module _ (T : ℕ) (shape : Shape) where
  -- `best`: the least covered count with at most w windows. A slot that may be uncovered is left uncovered; any other
  -- opens a window.
  -- `best_inside`: the same in a window that has r slots and b bridges left and continues with the next slot. A slot
  -- that may be over is taken as over, and after it the window closes or continues; any other is a bridge.
  unfoldable mutual
    pub best : List Class → (w : ℕ) → ℕ
    best [] w = 0
    best (c ∷ cs) w =
        cond (allows c 0) (best cs w)
        (saturating_suc T (using_one T w λ w.
        min (owing T shape.settle cs (best cs w)) (best_inside cs (shape.len - 1) shape.h w)))

    pub best_inside : List Class → (r b w : ℕ) → ℕ
    best_inside [] r b w = T
    best_inside (c ∷ cs) r b w =
        saturating_suc T
        (using_one T r λ r.
        cond (allows c 2) (min (owing T shape.settle cs (best cs w)) (best_inside cs r b w))
        (using_one T b λ b. best_inside cs r b w))

  -- the same outside a window, where q uncovered slots are owed, and after a window that has closed
  abbrev pub best_from : (q : ℕ) → List Class → (w : ℕ) → ℕ
  best_from q cs w = owing T q cs (best cs w)

  abbrev pub best_after : List Class → (w : ℕ) → ℕ
  best_after cs w = best_from shape.settle cs w

  -- the same after an over slot of a window, where the window closes or continues
  abbrev pub best_closable : List Class → (r b w : ℕ) → ℕ
  best_closable cs r b w = min (best_after cs w) (best_inside cs r b w)

  -- the first of the window counts from w to w + d for which `best` is at most c, or w + d if there is none
  unfoldable pub fewest : List Class → (c w d : ℕ) → ℕ
  fewest cs c w zero = w
  fewest cs c w (suc d) = cond (leb (best cs w) c) w (fewest cs c (suc w) d)
