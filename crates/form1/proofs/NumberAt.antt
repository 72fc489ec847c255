-- Numbers byte by byte: as they stand at places of a file, and as they are put there.
use Prim.Native.Nat.{ℕ, suc, ◌+◌, ◌-◌, ◌*◌, ◌/◌, ◌%◌, ◌<◌}
use native.Mathlib.Omega.{arith}
use mathlib.Core.Bool.{Bool, true, false, cond}
use mathlib.Core.List.{List, [], ◌∷◌, ◌++◌}
use mathlib.Core.Path.{◌≡◌, refl, ap}
use borrow.Author.Tests.{lt-ltb}
use lib.Dec.{ltb}
use lib.IntN.{ℤ, pos, negsuc}
use lib.ListN.{length, take, drop, get_or}
use lib.Seq.{drop-drop}
use mir.Syntax.{w32}
use mir.Val.{SFits, sel, of_z, to_z}
use Rattle.facts.proofs.Lists.{uncons}
use Rattle.form1.specs.Form1.{little_endian, number_at, signed}
use Rattle.form1.specs.Layout.{bytes, bits}

module _ (file : List ℕ) where
  -- the first byte, and the number after it
  number_at-suc : (size place next : ℕ) → next ≡ place + 1 → place < length file →
      number_at (suc size) place file ≡ get_or file place 0 + 256 * number_at size next file
  unfolding little_endian number_at
  number_at-suc size place next e bound = rw (e, uncons file place 0 bound) refl

  pub number_at-1 : (place : ℕ) → place < length file → get_or file place 0 ≡ number_at 1 place file
  unfolding little_endian number_at
  number_at-1 place bound = rw (uncons file place 0 bound) (omega arith)

  pub number_at-2 : (place : ℕ) → place + 1 < length file →
      get_or file place 0 + get_or file (place + 1) 0 * 256 ≡ number_at 2 place file
  number_at-2 place bound =
      omega (arith, number_at-suc 1 place (place + 1) refl (omega arith), number_at-1 (place + 1) bound)

  pub number_at-4 : (place : ℕ) → place + 3 < length file →
      get_or file place 0 + get_or file (place + 1) 0 * 256 + get_or file (place + 2) 0 * 65536
      + get_or file (place + 3) 0 * 16777216 ≡ number_at 4 place file
  number_at-4 place bound =
      omega (
        arith,
        number_at-suc 3 place (place + 1) (omega arith) (omega arith),
        number_at-suc 2 (place + 1) (place + 2) (omega arith) (omega arith),
        number_at-suc 1 (place + 2) (place + 3) (omega arith) (omega arith),
        number_at-1 (place + 3) bound,
      )

halves : (bytes : List ℕ) → little_endian (take 2 bytes) + 65536 * little_endian (take 2 (drop 2 bytes))
    ≡ little_endian (take 4 bytes)
unfolding little_endian
halves [] = refl
halves (a ∷ []) = omega arith
halves (a ∷ b ∷ bytes) = omega arith

pub number_at-pairs : (file : List ℕ) (place : ℕ) → number_at 2 place file + 65536 * number_at 2 (place + 2) file
    ≡ number_at 4 place file
unfolding number_at
number_at-pairs file place = rw (← drop-drop 2 place file) (halves (drop place file))

pub ruleset numbers = (number_at-1, number_at-2)

of_z-bits : (z : ℤ) → SFits w32 z → of_z w32 z ≡ bits z
unfolding bits
of_z-bits (pos n) f = refl
of_z-bits (negsuc n) f = let bounded : n < 2147483648 = f.sfits in omega arith

-- 32 bits, read as a signed number
pub toZ-signed : (n : ℕ) → n < 4294967296 → to_z w32 n ≡ signed n
unfolding signed
toZ-signed n bound = rw (lt-ltb n 4294967296 bound) (by-half (ltb n 2147483648))
  where
    by-half : (b : Bool) → sel b (pos n) (negsuc (4294967296 - suc n)) ≡ cond b (pos n) (negsuc (4294967296 - suc n))
    by-half true = refl
    by-half false = refl

pub bytes_1 : (n : ℕ) → bytes 1 n ≡ n % 256 ∷ []
unfolding bytes
bytes_1 n = refl

pub bytes_2 : (n : ℕ) → n % 65536 % 256 ∷ n % 65536 / 256 % 256 ∷ [] ≡ bytes 2 n
unfolding bytes
bytes_2 n =
    let first : n % 65536 % 256 ≡ n % 256 = omega arith in
    let second : n % 65536 / 256 % 256 ≡ n / 256 % 256 = omega arith in
    rw (first, second) refl

-- a number in four bytes is its lower half and its upper half in two bytes each
pub bytes_4 : (n : ℕ) → bytes 4 n ≡ bytes 2 n ++ bytes 2 (n / 65536)
unfolding bytes
bytes_4 n = let upper : n / 256 / 256 ≡ n / 65536 = omega arith in rw upper refl

-- a signed number
pub bytes-bits : (z : ℤ) → SFits w32 z →
    let n = of_z w32 z in
    n % 256 ∷ n / 256 % 256 ∷ n / 65536 % 256 ∷ n / 16777216 % 256 ∷ [] ≡ bytes 4 (bits z)
unfolding bytes
bytes-bits z f =
    let n = of_z w32 z in
    let third : n / 65536 ≡ n / 256 / 256 = omega arith in
    let last : n / 16777216 ≡ n / 256 / 256 / 256 = omega arith in
    rw (third, last) (ap (bytes 4) (of_z-bits z f))
