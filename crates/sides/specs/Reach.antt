-- How far a window can reach.
use Rattle.std.specs.Prelude.{ℕ, suc, ◌+◌, ◌-◌, cond, List, [], ◌∷◌}
use Rattle.rule.specs.Ranges.{Class, allows}
use Rattle.rule.specs.declared.Shape.{Shape}
use Rattle.requests.specs.Best.{using_one}

-- how many of the slots, from the first on, a window can cover that has r slots and b bridges left
unfoldable pub fit : List Class → (r b : ℕ) → ℕ
fit [] r b = 0
fit (c ∷ cs) r b = using_one 0 r λ r. cond (allows c 2) (suc (fit cs r b)) (using_one 0 b λ b. suc (fit cs r b))

-- the same of a window of this shape that keeps g bridges to spare. A len of 0 counts as 1
abbrev pub reach : Shape → (g : ℕ) → List Class → ℕ
reach shape g cs = fit cs (suc (shape.len - 1)) (shape.h - g)

-- a slot that must be a bridge counts 1
abbrev pub low : Class → ℕ
low c = cond (allows c 2) 0 1

-- how many slots must be bridges
abbrev pub lows : List Class → ℕ
lows [] = 0
lows (c ∷ cs) = low c + lows cs
