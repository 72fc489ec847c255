-- The plan that is drawn from the first slot on, by recursion on the slots, its first marks being given as a front. The
-- crate `drawing` promises to draw it; the filter's promise does not rest on it. It is the first plan that begins with
-- the front (proofs/DrawnPlan.antt).
--
-- Outside a window only a slot that must be over opens one; a window closes as soon as the slots after it can do with
-- what is left of both maximums. The slots and bridges left to a window need not be known, since `best` counts only
-- windows that keep `len` and `h`.
use Rattle.std.specs.Prelude.{ℕ, ◌-◌, Bool, cond, not, ◌||◌, List, [], ◌∷◌, eqb, ltb, drop, get_or}
use Rattle.rule.specs.Ranges.{Class, allows}
use Rattle.rule.specs.declared.Shape.{Shape}
use Rattle.requests.specs.Best.{best_after}

-- The mark m before a slot, or 0 where its window closes: the slots from there on need to cover no more than the c that
-- are left. A window never closes right after a bridge.
abbrev pub closed_mark : (m c needed : ℕ) → ℕ
closed_mark m c needed = cond (eqb m 3 || ltb c needed) m 0

-- The mark of the next slot. Outside a window a slot that may be uncovered is left uncovered, and any other opens a
-- window; in one a slot that may be over is taken as over, and any other is a bridge.
abbrev pub next_mark : (m : ℕ) → Class → ℕ
next_mark m x = cond (eqb m 0) (cond (allows x 0) 0 1) (cond (allows x 2) 2 3)

-- what is left of n after a slot that may have used one
abbrev pub left_of : (n : ℕ) (used : Bool) → ℕ
left_of n used = cond used (n - 1) n

module _ (T : ℕ) (shape : Shape) where
  -- the marks of the slots after a mark m, with w windows and c covered slots left to them: those of the front, and where
  -- it has ended, the next mark
  unfoldable pub drawn_from : List Class → (front : List ℕ) (m w c : ℕ) → List ℕ
  drawn_from [] front m w c = []
  drawn_from (x ∷ cs) front m w c =
      let next = get_or front 0 (next_mark (closed_mark m c (best_after T shape (x ∷ cs) w)) x) in
      next ∷ drawn_from cs (drop 1 front) next (left_of w (eqb next 1)) (left_of c (not (eqb next 0)))
