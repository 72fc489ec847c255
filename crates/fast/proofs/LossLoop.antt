-- What slots lose, slot by slot, for the loop of `losses::losses`.
use Prim.Native.Nat.{ℕ, ◌+◌, ◌<◌, max}
use native.Mathlib.Numerals.{add-one}
use native.Mathlib.Omega.{arith}
use mathlib.Core.Bool.{Bool, false, ◌||◌}
use mathlib.Core.List.{List}
use mathlib.Core.Path.{◌≡◌, refl, ◌∙◌}
use lib.Dec.{ltb}
use lib.ListN.{get_or, set, replicate, length-replicate}
use Rattle.rule.specs.ClassCodes.{decode}
use Rattle.settings.specs.Refusals.{limit}
use Rattle.requests.specs.declared.Loss.{Loss}
use Rattle.requests.specs.declared.Loss.TheVariants.{Nothing}
use Rattle.sides.specs.Far.{highest}
use Rattle.fast.proofs.FilledBefore.{FilledBefore, filled-start, filled-step}
use Rattle.fast.specs.Sweep.{loss_by, under_stays, over_stays}

module _ (classes far bridged : List ℕ) (gaps : List Bool) where
  -- what the slots before slot i lose is written, and the ends of windows from these slots on are gone through
  pub record LostBefore (lost : List Loss) (furthest inside i : ℕ) : Type 0 where
    pub filled : FilledBefore Nothing (λ j was is. is
        ≡ loss_by (decode (get_or classes j 0)) (under_stays gaps bridged j) (over_stays far j))
        (replicate limit Nothing) lost i
    pub over : furthest ≡ highest (λ x. get_or far x 0) i
    pub under : inside ≡ highest (λ x. get_or bridged x 0) i

  pub loss-start : LostBefore (replicate limit Nothing) 0 0 0
  loss-start = record { filled = filled-start Nothing; over = refl; under = refl }

  pub loss-step : (lost : List Loss) (furthest inside i : ℕ) (v : Loss) {furthest' inside' : ℕ} {stays : Bool} →
      LostBefore lost furthest inside i → i < limit → furthest' ≡ max (get_or far i 0) furthest →
      stays ≡ (get_or gaps i false || ltb (i + 1) inside) →
      v ≡ loss_by (decode (get_or classes i 0)) stays (ltb i furthest') →
      inside' ≡ max (get_or bridged i 0) inside → LostBefore (set lost i v) furthest' inside' (i + 1)
  loss-step lost furthest inside i v l there further kept is deeper =
      record {
        filled = filled-step Nothing lost i v l.filled (omega (arith, length-replicate {A = Loss} limit Nothing))
            (is ∙ rw (kept, further, max_comm (get_or far i 0) furthest, l.over, l.under) refl);
        over = rw (add-one, further, max_comm (get_or far i 0) furthest, l.over) refl;
        under = rw (add-one, deeper, max_comm (get_or bridged i 0) inside, l.under) refl;
      }
    where
      max_comm : (a b : ℕ) → max a b ≡ max b a
      max_comm a b = omega arith
