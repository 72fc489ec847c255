-- What is promised of the sweep: of the windows and gaps that fit between counts of both sides, and of what slots lose.
use Rattle.std.specs.Prelude.{ℕ, suc, ◌+◌, ◌-◌, ◌≤◌, ◌<◌, Bool, true, false, cond, ◌||◌, List, ◌↔◌, ◌≡◌, ltb, length, drop, get_or}
use Rattle.rule.specs.Ranges.{Class, under_only, over_only, either, allows}
use Rattle.requests.specs.declared.Loss.{Loss}
use Rattle.requests.specs.declared.Loss.TheVariants.{Nothing as nothing, Under as under_part, Over as over_part}
use Rattle.rule.specs.declared.Shape.{Shape}
use Rattle.sides.specs.Far.{highest}
use Rattle.sides.specs.Reach.{reach}

-- for each slot, how far windows reach from there that keep g bridges to spare
pub record ReachesWith (shape : Shape) (g : ℕ) (cs : List Class) (reaches : List ℕ) : Type 0 where
  pub sound : (x e : ℕ) → x < length cs → x < e → e ≤ x + get_or reaches x 0 →
      (g ≤ shape.h) × (e ≤ x + reach shape g (drop x cs))
  pub all : (x e : ℕ) → x < length cs → g ≤ shape.h → e ≤ x + reach shape g (drop x cs) → e ≤ x + get_or reaches x 0

-- a window from slot x up to before slot e fits, where `starts` has what lies before it, from the last slot back, and
-- `ends` what lies after it
pub record Fits (reach starts ends : List ℕ) (n most x e : ℕ) : Type 0 where
  pub order : x < e
  pub reaches : e ≤ x + get_or reach x 0
  pub short : get_or starts (n - suc x) 0 + (e - x) + get_or ends (e - 1) 0 ≤ most

-- `after` is the furthest end of a window from slot x on that fits, as far as it is further than `before`. No window is
-- looked for where the counts of both sides do not fit together
pub record Further (reach starts ends row : List ℕ) (n most x : ℕ) (before after : ℕ) : Type 0 where
  pub no_nearer : before ≤ after
  pub met : before < after → Fits reach starts ends n most x after
  pub furthest : (e : ℕ) → get_or starts (n - suc x) 0 + get_or row x 0 ≤ most →
      Fits reach starts ends n most x e → e ≤ after

-- true exactly for each slot that can be left uncovered, between what is lacking before it (from the last slot back) and
-- after it
pub record FreeSlots (settle : ℕ) (cs : List Class) (turned lacks : List ℕ) (free : List Bool) : Type 0 where
  pub exactly : (i : ℕ) → i < length cs → (get_or free i false ≡ true) ↔ ((allows (get_or cs i under_only) 0 ≡ true)
      × (get_or turned (length cs - i) 0 + get_or lacks (i + 1) 0 ≤ suc settle))

-- slot i is free, and the counts of both sides fit together there
abbrev pub GapAt : (free : List Bool) (before row : List ℕ) (n most i : ℕ) → Type 0
GapAt free before row n most i =
    (get_or free i false ≡ true) × (get_or before (n - i) 0 + get_or row i 0 ≤ most)

-- what a slot loses, by which parts stay
abbrev pub loss_by : Class → (under over : Bool) → Loss
loss_by under_only under over = nothing
loss_by over_only under over = nothing
loss_by either under over = cond under (cond over nothing over_part) under_part

abbrev pub under_stays : (gaps : List Bool) (bridged : List ℕ) (i : ℕ) → Bool
under_stays gaps bridged i = get_or gaps i false || ltb (i + 1) (highest (λ x. get_or bridged x 0) i)

abbrev pub over_stays : (far : List ℕ) (i : ℕ) → Bool
over_stays far i = ltb i (highest (λ x. get_or far x 0) (suc i))
