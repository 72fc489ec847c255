-- The bytes of classes decode to these classes.
use Prim.Native.Nat.{ℕ, ◌≤◌}
use native.Mathlib.Omega.{arith}
use mathlib.Core.List.{List, [], ◌∷◌, map}
use mathlib.Core.Path.{◌≡◌, refl, ap, ap₂, ◌∙◌}
use lib.ListN.{length, take, drop, replicate, length-map, length-replicate}
use lib.Seq.{length-sets, take_at}
use Rattle.drawing.specs.Codes.{codes_of}
use Rattle.facts.proofs.Lists.{sets-front}
use Rattle.rule.proofs.ClassCodes.{decode-code}
use Rattle.rule.specs.ClassCodes.{code, decode_all}
use Rattle.rule.specs.Ranges.{Class}
use Rattle.settings.specs.Refusals.{limit}

-- the bytes before any class is stored
abbrev unders : List ℕ
unders = replicate limit 0

unders-wide : length unders ≡ limit
unders-wide = length-replicate {A = ℕ} limit 0

pub codes-wide : (cs : List Class) → length (codes_of cs) ≡ limit
codes-wide cs = length-sets unders 0 (map code cs) ∙ unders-wide

decoded : (cs : List Class) → decode_all (map code cs) ≡ cs
decoded [] = refl
decoded (c ∷ cs) = ap₂ ◌∷◌ (decode-code c) (decoded cs)

pub codes-decoded : (cs : List Class) → length cs ≤ limit → decode_all (take (length cs) (codes_of cs)) ≡ cs
codes-decoded cs few =
    let n = length-map cs code in
    let fits : length (map code cs) ≤ length unders = omega (arith, few, n, unders-wide) in
    ap (λ codes. decode_all (take (length cs) codes)) (sets-front (map code cs) unders fits)
    ∙ ap decode_all (take_at (map code cs) (drop (length (map code cs)) unders) (length cs) n)
    ∙ decoded cs
