-- What each slot can be, from the first on (the loop of `drawing::classes::classify`).
use Prim.Native.Nat.{ℕ, ◌+◌, ◌<◌, min}
use native.Mathlib.Omega.{arith}
use mathlib.Core.List.{List, map}
use mathlib.Core.Path.{◌≡◌, refl, sym, ◌∙◌}
use lib.IntN.{ℤ}
use lib.ListN.{length, replicate, length-map, length-replicate}
use lib.Seq.{sets}
use Rattle.drawing.specs.Codes.{codes_of}
use Rattle.facts.proofs.Lists.{sets-full}
use Rattle.requests.proofs.ChosenIn.{paired-min}
use Rattle.requests.specs.Request.{paired}
use Rattle.requests.specs.Solution.{classes_of}
use Rattle.rule.specs.ClassCodes.{code}
use Rattle.rule.specs.Ranges.{class_of}
use Rattle.settings.specs.Refusals.{limit}

module _ (k : ℤ) (lowest highest : List ℤ) where
  -- where n places are left from place i on: to store there the classes of slots with these loads is to store all of
  -- them
  pub record LeftToClass (codes : List ℕ) (i n : ℕ) (los his : List ℤ) : Type 0 where
    pub wide : length codes ≡ limit
    pub places_left : i + n ≡ limit
    pub whole : sets codes i (map code (classes_of k los his)) ≡ codes_of (classes_of k lowest highest)

  pub class-start : {i n : ℕ} {los his : List ℤ} → i ≡ 0 → n ≡ limit → los ≡ lowest → his ≡ highest →
      LeftToClass (replicate limit 0) i n los his
  class-start i n los his =
      rw (i, n, los, his) (record { wide = length-replicate {A = ℕ} limit 0; places_left = refl; whole = refl })

  pub class-end : (codes : List ℕ) (i n : ℕ) (los his : List ℤ) → LeftToClass codes i n los his →
      (0 < n → min (length los) (length his) ≡ 0) → codes ≡ codes_of (classes_of k lowest highest)
  class-end codes i n los his left none =
      let rest = map code (classes_of k los his) in
      let few : length rest ≡ min (length los) (length his) =
      length-map (classes_of k los his) code ∙ length-map (paired los his) (class_of k) ∙ paired-min los his in
      sym (sets-full rest codes i (grind (arith, few, none))) ∙ left.whole
