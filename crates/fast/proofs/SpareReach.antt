-- How far windows reach that keep bridges to spare, for `sweep::spare_reaches`.
use Prim.Native.Nat.{ℕ, zero, suc, ◌+◌, ◌-◌, ◌≤◌, ◌<◌}
use native.Mathlib.Omega.{arith}
use mathlib.Core.List.{List}
use mathlib.Core.Path.{◌≡◌, refl, ap, ◌∙◌}
use lib.ListN.{length, drop, get_or, replicate}
use Rattle.rule.specs.Ranges.{Class}
use Rattle.rule.specs.declared.Shape.{Shape}
use Rattle.sides.specs.Reach.{fit, reach}
use Rattle.fast.specs.Rows.{Reaches}
use Rattle.fast.specs.Sweep.{ReachesWith}

-- windows that may have all bridges but g keep those g
pub reaches-with : (shape : Shape) (g : ℕ) {h : ℕ} {cs : List Class} {reaches : List ℕ} → h + g ≡ shape.h →
    Reaches shape.len h cs reaches → ReachesWith shape g cs reaches
reaches-with shape g {h} {cs} {reaches} rest r =
    record {
      sound = λ x e l past reached. (omega (arith, rest), omega (arith, reached, at x l));
      all = λ x e l spare reached. omega (arith, reached, at x l);
    }
  where
    at : (x : ℕ) → x < length cs → get_or reaches x 0 ≡ reach shape g (drop x cs)
    at x l =
        let others : h ≡ shape.h - g = omega (arith, rest) in
        r.counts x (omega arith) ∙ ap (fit (drop x cs) (suc (shape.len - 1))) others

none-at : (n x : ℕ) → get_or {A = ℕ} (replicate n 0) x 0 ≡ 0
none-at zero x = refl
none-at (suc n) zero = refl
none-at (suc n) (suc x) = none-at n x

-- a reach of no slots ends within any slots that it begins in
pub none_within : (n : ℕ) {m : ℕ} (x : ℕ) → x ≤ m → x + get_or (replicate n 0) x 0 ≤ m
none_within n x e = omega (arith, none-at n x)

-- where there are fewer bridges, no window keeps g
pub none-spare : (shape : Shape) (g : ℕ) (cs : List Class) (n : ℕ) → shape.h < g →
    ReachesWith shape g cs (replicate n 0)
none-spare shape g cs n few =
    record {
      sound = λ x e l past reached. absurd (omega (arith, reached, past, none-at n x));
      all = λ x e l spare. absurd (omega (arith, spare));
    }
