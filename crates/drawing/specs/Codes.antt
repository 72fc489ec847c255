-- Classes in an array of LIMIT bytes.
use Rattle.std.specs.Prelude.{ℕ, List, map, replicate}
use Rattle.std.proofs.lemmas.List.Edits.{sets}
use Rattle.rule.specs.ClassCodes.{code}
use Rattle.rule.specs.Ranges.{Class, under_only}
use Rattle.settings.specs.Refusals.{limit}

-- the bytes of the classes, as many as it has places for, and that of a slot that is under only at every later place
abbrev pub codes_of : List Class → List ℕ
codes_of cs = sets (replicate limit (code under_only)) 0 (map code cs)
