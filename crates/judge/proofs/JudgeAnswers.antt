-- What the judge says, from the tests in its code: d, check, b, w and c are what the functions called there gave.
use Prim.Native.Nat.{ℕ, ◌≤◌, ◌<◌}
use mathlib.Core.Bool.{Bool, true, false, not, and-false}
use mathlib.Core.List.{List}
use mathlib.Core.Path.{◌≡◌}
use borrow.Author.Tests.{le-leb, lt-leb, not-true, not-false}
use lib.IntN.{ℤ}
use lib.ListN.{length}
use Rattle.judge.specs.Judgment.{says, allowed, judge_refusal, judgment}
use Rattle.refusals.specs.Answer.{Answer, refuses, gives, refusal_of}
use Rattle.refusals.specs.declared.Refusal.{Refusal}
use Rattle.settings.specs.Refusals.{differs, refusal}
use Rattle.rule.specs.Rule.{legal, windows, covered}
use Rattle.settings.specs.declared.Settings.{Settings}

module _ (s : Settings) (xs : List ℤ) (ms : List ℕ) (d : Bool) (check : Answer Unit)
    (different : d ≡ differs (length xs) (length ms))
    (is : refusal_of check ≡ refusal (length xs) d s) where
  given : refusal_of check ≡ judge_refusal s xs ms
  given = rw (← different) is

  pub refused : (r : Refusal) → check ≡ refuses r → refuses r ≡ judgment s xs ms
  unfolding judgment
  refused r e = rw (← given, e)

  module _ (passed : check ≡ gives tt) where
    pub illegal : {b : Bool} → b ≡ legal s.k s.shape xs ms → not b ≡ true →
        gives (says false 0 0) ≡ judgment s xs ms
    unfolding judgment allowed
    illegal {b} b-is e = rw (← given, passed, ← b-is, not-true b e)

    module _ (w c : ℕ) (w-is : w ≡ windows ms) (c-is : c ≡ covered ms) where
      pub too-many-windows : s.windows.most < w → gives (says false 0 0) ≡ judgment s xs ms
      unfolding judgment allowed
      too-many-windows bound = simp (← given, passed, ← w-is, lt-leb w s.windows.most, and-false)

      pub too-many-covered : s.covered.most < c → gives (says false 0 0) ≡ judgment s xs ms
      unfolding judgment allowed
      too-many-covered bound = simp (← given, passed, ← c-is, lt-leb c s.covered.most, and-false)

      pub accepted : {b : Bool} → b ≡ legal s.k s.shape xs ms → not b ≡ false → w ≤ s.windows.most →
          c ≤ s.covered.most → gives (says true w c) ≡ judgment s xs ms
      unfolding judgment allowed
      accepted {b} b-is e bound g =
          simp (
            ← given,
            passed,
            ← b-is,
            not-false b e,
            ← w-is,
            ← c-is,
            le-leb w s.windows.most,
            le-leb c s.covered.most,
          )
