-- The classes from a slot on.
use Prim.Native.Nat.{ℕ, ◌+◌, ◌<◌}
use native.Mathlib.Omega.{arith}
use mathlib.Core.List.{List, [], ◌∷◌}
use mathlib.Core.Path.{◌≡◌, ap, ◌∙◌}
use lib.ListN.{length, drop, get_or, drop_of_length-le, length-map, get_or-map}
use Rattle.facts.proofs.Lists.{uncons}
use Rattle.rule.specs.ClassCodes.{decode, decode_all}
use Rattle.rule.specs.Ranges.{under_only}

module _ (classes : List ℕ) where
  pub class-at : (i : ℕ) → get_or (decode_all classes) i under_only ≡ decode (get_or classes i 0)
  unfolding decode
  class-at i = get_or-map decode classes i 0

  pub from-slot : (i : ℕ) → i < length classes →
      drop i (decode_all classes) ≡ decode (get_or classes i 0) ∷ drop (i + 1) (decode_all classes)
  from-slot i e =
      uncons (decode_all classes) i under_only (omega (arith, e, length-map classes decode))
      ∙ ap (λ c. c ∷ drop (i + 1) (decode_all classes)) (class-at i)

  pub from_end : drop (length classes) (decode_all classes) ≡ []
  from_end = drop_of_length-le (decode_all classes) {i = length classes} (omega (arith, length-map classes decode))
