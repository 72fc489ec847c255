-- Classes as the code holds them: one byte per slot.
use Rattle.std.specs.Prelude.{ℕ, cond, List, map, eqb}
use Rattle.rule.specs.Ranges.{Class, under_only, over_only, either}

-- the byte of a class
abbrev pub code : Class → ℕ
code under_only = 0
code over_only = 1
code either = 2

-- 0 is under only, 1 over only, and any other byte open
unfoldable pub decode : ℕ → Class
decode m = cond (eqb m 0) under_only (cond (eqb m 1) over_only either)

abbrev pub decode_all : List ℕ → List Class
decode_all = map decode
