-- The first slot whose range is crossed, its lowest load above its highest, by a walk from slot 0 on.
use Prim.Native.Nat.{ℕ, suc, ◌+◌, ◌≤◌, ◌<◌}
use native.Mathlib.Numerals.{add-one}
use native.Mathlib.Omega.{arith}
use mathlib.Core.Bool.{true, false, cond}
use mathlib.Core.List.{List}
use mathlib.Core.Option.{none, some}
use mathlib.Core.Path.{◌≡◌, refl}
use lib.IntN.{ℤ, pos}
use lib.ListN.{length, drop, drop_of_length-le}
use lib.Seq.{drop-cons}
use lib.Signed.{lt_z}
use Rattle.refusals.specs.declared.Refusal.TheVariants.{Crossed}
use Rattle.requests.specs.Request.{at, paired, crossed}

-- No range before slot i is crossed.
pub record Uncrossed (los his : List ℤ) (i : ℕ) : Type 0 where
  pub inside : i ≤ length los
  pub same : crossed i (paired (drop i los) (drop i his)) ≡ crossed 0 (paired los his)

module _ {los his : List ℤ} where
  pub uncrossed-start : Uncrossed los his 0
  uncrossed-start = record { inside = omega arith; same = refl }

  module _ (i : ℕ) (wide : length his ≡ length los) (u : Uncrossed los his i) where
    -- slot i is the first crossed one, or the first is after it
    crossed-at : i < length los →
        cond (lt_z (at his i) (at los i)) (some (Crossed i))
        (crossed (suc i) (paired (drop (suc i) los) (drop (suc i) his)))
        ≡ crossed 0 (paired los his)
    unfolding crossed
    crossed-at e = rw (drop-cons los i (pos 0) e, drop-cons his i (pos 0) (omega arith)) at u.same

    pub crossed-here : i < length los → lt_z (at his i) (at los i) ≡ true → some (Crossed i) ≡ crossed 0 (paired los his)
    crossed-here e c = rw c at (crossed-at e)

    pub uncrossed-step : i < length los → lt_z (at his i) (at los i) ≡ false → Uncrossed los his (i + 1)
    uncrossed-step e c = rw add-one (record { inside = e; same = rw c at (crossed-at e) })

    pub uncrossed-end : length los ≤ i → none ≡ crossed 0 (paired los his)
    unfolding crossed
    uncrossed-end e = rw (drop_of_length-le los {i = i} e) at u.same
