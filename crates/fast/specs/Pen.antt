-- A plan that is drawn on from a slot.
use Rattle.std.specs.Prelude.{ℕ, List, [], drop}
use Rattle.std.proofs.lemmas.List.Edits.{sets}
use Rattle.rule.specs.Ranges.{Class}
use Rattle.rule.specs.declared.Shape.{Shape}
use Rattle.requests.specs.Drawing.{drawn_from}
use Rattle.requests.specs.Solution.{sentinel}
use Rattle.fast.specs.declared.pen.Pen.{Pen}

-- the marks with those of the slots from the pen on drawn, where w windows are left to them
abbrev pub drawn_on : Shape → List Class → (w : ℕ) → Pen → (marks : List ℕ) → List ℕ
drawn_on shape cs w pen marks =
    sets marks pen.slot (drawn_from sentinel shape (drop pen.slot cs) [] pen.mark w pen.covered)
