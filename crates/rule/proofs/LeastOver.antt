-- The least of a count over lists of marks: over more lists it is no higher, over the same lists it is the same, as is
-- the thrift, and there is only one.
use Prim.Native.Nat.{ℕ, ◌≤◌}
use native.Mathlib.Nat.{le_antisymm}
use native.Mathlib.Omega.{arith}
use mathlib.Core.List.{List}
use mathlib.Core.Path.{◌≡◌}
use Rattle.rule.specs.Rule.{LeastOver, Fewest, ThriftOver}

module _ {P Q : List ℕ → Type 0} {count : List ℕ → ℕ} {v : ℕ} (more : (ms : List ℕ) → P ms → Q ms) where
  pub least-mono : {w : ℕ} → LeastOver P count v → LeastOver Q count w → w ≤ v
  least-mono a b = let (ms, p, e) = a.met in omega (arith, e, b.least ms (more ms p))

  pub least-congr : ((ms : List ℕ) → Q ms → P ms) → LeastOver P count v → LeastOver Q count v
  least-congr back l =
      let (ms, p, e) = l.met in
      record { met = (ms, more ms p, e); least = λ ms q. l.least ms (back ms q) }

pub least-unique : {P : List ℕ → Type 0} {count : List ℕ → ℕ} {v w : ℕ} → LeastOver P count v → LeastOver P count w →
    v ≡ w
least-unique a b = le_antisymm (least-mono (λ ms p. p) b a) (least-mono (λ ms p. p) a b)

fewest-congr : {P Q : List ℕ → Type 0} → ((ms : List ℕ) → P ms → Q ms) → ((ms : List ℕ) → Q ms → P ms) →
    (ms : List ℕ) → Fewest P ms → Fewest Q ms
fewest-congr more back ms f = record { holds = more ms f.holds; fewest = λ ks q. f.fewest ks (back ks q) }

pub thrift-congr : {P Q : List ℕ → Type 0} {v : ℕ} → ((ms : List ℕ) → P ms → Q ms) →
    ((ms : List ℕ) → Q ms → P ms) → ThriftOver P v → ThriftOver Q v
thrift-congr more back = least-congr (fewest-congr more back) (fewest-congr back more)
