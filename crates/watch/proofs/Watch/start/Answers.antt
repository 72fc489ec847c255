-- `watch::Watch::start` meets its contract: a refusal is handed up, and otherwise the first state is given.
use mathlib.Core.Path.{sym}
use mir.Facts.{to_z-of_z}
use Rattle.refusals.proofs.Answer.{handed-up}
use Rattle.watch.proofs.StartAnswers.{start-refuses, start_gives}
use Rattle.watch.proofs.Watch.start.Goals as goal

pub returns-in_err-check_shape : goal.returns-in_err-check_shape
returns-in_err-check_shape c =
    let refused = rw c.shape.ensures at c.in_err-check_shape.ensures in
    rw (handed-up _ _ c.from_residual.ensures.1) (sym ((start-refuses _ _ _ _).1 (sym refused)))

pub returns : goal.returns
returns c =
    let passed = rw c.shape.ensures at c.in_ok-check_shape.ensures in
    rw (to_z-of_z c.ranges.k) (sym (start_gives _ _ _ (sym passed)))
