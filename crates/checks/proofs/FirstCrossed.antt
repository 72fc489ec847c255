-- The first slot whose range is crossed, its lowest load above its highest, by its place.
use Prim.Native.Nat.{ℕ, zero, suc, ◌+◌, ◌<◌}
use native.Mathlib.Omega.{arith}
use mathlib.Core.Bool.{true, false}
use mathlib.Core.List.{List, [], ◌∷◌}
use mathlib.Core.Option.{none, some}
use mathlib.Core.Path.{◌≡◌, refl}
use lib.IntN.{ℤ}
use lib.ListN.{length}
use lib.Signed.{lt_z}
use Rattle.refusals.specs.declared.Refusal.TheVariants.{Crossed}
use Rattle.requests.specs.Request.{at, paired, crossed}

-- los and his are the ends of the slots from slot j on, and slot m is the first crossed one of them
first-from : (j m i : ℕ) (los his : List ℤ) → m ≡ j + i → length his ≡ length los → i < length los →
    lt_z (at his i) (at los i) ≡ true →
    ((k : ℕ) → k < i → lt_z (at his k) (at los k) ≡ false) →
    some (Crossed m) ≡ crossed j (paired los his)
unfolding crossed
first-from j m i [] his is wide there here before = absurd (omega arith)
first-from j m i (lo ∷ los) [] is wide there here before = absurd (omega arith)
first-from j m zero (lo ∷ los) (hi ∷ his) is wide there here before =
    let same : m ≡ j = omega arith in
    rw (here, same)
first-from j m (suc i) (lo ∷ los) (hi ∷ his) is wide there here before =
    rw (before 0 (omega arith))
    (first-from (suc j) m i los his (omega arith) (omega arith) (omega arith) here (λ k l. before (suc k) (omega arith)))

none-from : (j : ℕ) (los his : List ℤ) →
    ((k : ℕ) → k < length los → lt_z (at his k) (at los k) ≡ false) →
    none ≡ crossed j (paired los his)
unfolding crossed
none-from j [] his all = refl
none-from j (lo ∷ los) [] all = refl
none-from j (lo ∷ los) (hi ∷ his) all =
    rw (all 0 (omega arith)) (none-from (suc j) los his (λ k l. all (suc k) (omega arith)))

module _ (los his : List ℤ) where
  pub first-crossed : (i : ℕ) → length his ≡ length los → i < length los →
      lt_z (at his i) (at los i) ≡ true →
      ((k : ℕ) → k < i → lt_z (at his k) (at los k) ≡ false) →
      some (Crossed i) ≡ crossed 0 (paired los his)
  first-crossed i wide there here before = first-from 0 i i los his (omega arith) wide there here before

  pub none-crossed : ((k : ℕ) → k < length los → lt_z (at his k) (at los k) ≡ false) →
      none ≡ crossed 0 (paired los his)
  none-crossed all = none-from 0 los his all
