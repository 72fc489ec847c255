-- `drawing::classes::classify` meets its contract. The loop's invariant: to store the classes of the slots that are left
-- is to store all (`LeftToClass`).
use native.Mathlib.Omega.{arith}
use mathlib.Core.Logic.{⊎_elim}
use mir.Facts.{to_z-of_z}
use Rattle.std.proofs.Common.{rules}
use Rattle.drawing.proofs.ClassifyLoop.{class-start, class-end}
use Rattle.drawing.proofs.classes.classify.Goals as goal

pub loop-i-init : goal.loop-i-init
loop-i-init c = class-start _ _ _ (search rules) (search rules) (search rules) (search rules)

pub returns : goal.returns
returns c =
    rw (← to_z-of_z c.ranges.k)
    (class-end _ _ _ c.loop-i.codes _ _ _ _ c.loop-i.invariant λ e.
    ⊎_elim (λ x. omega (arith, x.1.0)) (λ x. omega (arith, x.1.0)) (c.in-None.ensures.steps.0 e))
