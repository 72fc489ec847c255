-- `fast::losses::lost_by` meets its contract: its tests are the definition's.
use mathlib.Core.Logic.{⊎_elim}
use mathlib.Core.Path.{refl}
use Rattle.rule.proofs.ClassCodes.{decode-0, decode-1, decode-other}
use Rattle.fast.proofs.losses.lost_by.Goals as goal

pub returns-then-class-eq-UNDER : goal.returns-then-class-eq-UNDER
returns-then-class-eq-UNDER c =
    ⊎_elim (λ under. rw (decode-0 _ under) refl) (λ over. rw (decode-1 _ over.1) refl) c.then-class-eq-UNDER.either

pub returns-then-not-under : goal.returns-then-not-under
returns-then-not-under c =
    let open-slot = decode-other _ c.if-class-eq-UNDER.false c.if-class-eq-OVER.false in
    rw (open-slot, c.if-not-under.true) refl

pub returns-then-not-over : goal.returns-then-not-over
returns-then-not-over c =
    let open-slot = decode-other _ c.if-class-eq-UNDER.false c.if-class-eq-OVER.false in
    rw (open-slot, c.if-not-under.false, c.if-not-over.true) refl
