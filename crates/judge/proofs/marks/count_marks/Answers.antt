-- `judge::marks::count_marks` meets its contract. The loop's invariant: each count is of the marks so far (`Tally`).
use Prim.Native.Nat.{ℕ, ◌+◌, ◌<◌}
use native.Mathlib.Omega.{arith}
use mathlib.Core.Bool.{Bool, true, false, cond}
use mathlib.Core.List.{List}
use mathlib.Core.Path.{◌≡◌, sym, ap, subst, ◌∙◌}
use lib.ListN.{length, get_or}
use mir.Val.{bool_byte}
use Rattle.rule.proofs.Tally.{Tally, tally-start, tally-step, tally-end}
use Rattle.rule.specs.Rule.{windows, covered}
use Rattle.judge.proofs.marks.count_marks.Goals as goal

-- a test added as a number counts one more where it holds
added : (b : Bool) (n : ℕ) → cond b (n + 1) n ≡ n + bool_byte b
added true n = omega arith
added false n = omega arith

tallied : {p : ℕ → Bool} {ms : List ℕ} {i n r : ℕ} → i < length ms → r ≡ bool_byte (p (get_or ms i 0)) →
    Tally p ms i n → Tally p ms (i + 1) (n + r)
tallied {p} {ms} {i} {n} bound is t =
    subst (Tally p ms (i + 1)) (added _ n ∙ ap (λ m. n + m) (sym is)) (tally-step _ _ i n bound t)

pub loop-mark-init : goal.loop-mark-init
loop-mark-init c = (omega arith, tally-start _ _, tally-start _ _)

pub loop-mark-preserved : goal.loop-mark-preserved
loop-mark-preserved c =
    let (_, opened, covers) = c.loop-mark.invariant in
    let there = c.loop-mark-test.true in
    (omega arith, tallied there c.from.ensures opened, tallied there c.from-in-loop-mark.ensures covers)

pub returns : goal.returns
unfolding windows covered
returns c = (
  tally-end _ _ _ _ (omega arith) c.loop-mark.invariant.1,
  tally-end _ _ _ _ (omega arith) c.loop-mark.invariant.2,
)
