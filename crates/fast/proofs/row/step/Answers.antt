-- `fast::row::step` meets its contract: with one near end more, or with minima that are filled anew.
use native.Mathlib.Omega.{arith}
use Rattle.fast.proofs.Serves.{stepped-near, serves-anew}
use Rattle.fast.proofs.row.step.Goals as goal

pub returns-then-near-f-clause-stepped : goal.returns-then-near-f-clause-stepped
returns-then-near-f-clause-stepped c = stepped-near _ _ (omega arith) (omega arith)

pub returns-clause-stepped : goal.returns-clause-stepped
returns-clause-stepped c = λ g l serves. serves-anew c.refill.ensures
