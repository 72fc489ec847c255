-- `judge::judge` meets its contract: a plan that passes the check has as many marks as loads, at most the limit.
use Prim.Native.Nat.{◌≤◌}
use native.Mathlib.Omega.{arith}
use mathlib.Core.Path.{◌≡◌, sym, ◌∙◌}
use lib.ListN.{length}
use Rattle.settings.proofs.Accepted.{differs_false, accepted-iff}
use Rattle.settings.specs.Refusals.{limit}
use Rattle.judge.proofs.judge.Goals as goal
use Rattle.judge.proofs.judge.Goals.{In_ok-check}

passed : (c : In_ok-check) → let args = c.args in
    (length args.loads.now ≡ length args.marks.now) × (length args.marks.now ≤ limit)
passed c =
    let (d, p) = accepted-iff.0 (sym c.in_ok-check.ensures) in
    omega (arith, (differs_false _ _).0 (sym c.differ.ensures ∙ d), p.slots.1)

pub legal-requires : goal.legal-requires
legal-requires c = passed (goal.at.legal-requires c).In_ok-check

pub count_marks-seen-requires : goal.count_marks-seen-requires
count_marks-seen-requires c = (passed (goal.at.count_marks-seen-requires c).In_ok-check).1
