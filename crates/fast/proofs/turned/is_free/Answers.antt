-- `fast::turned::is_free` meets its contract: its tests are those of the byte's class and of the sum.
use native.Mathlib.Omega.{arith}
use mathlib.Core.Bool.{true≢false}
use mathlib.Core.Path.{◌≡◌, refl, sym, ◌∙◌}
use borrow.Author.Tests.{leb-true, le-leb, eq-eqb}
use Rattle.rule.proofs.ClassCodes.{can-be-uncovered, cannot-be-uncovered}
use Rattle.fast.proofs.turned.is_free.Goals as goal

pub returns-then-class-ne-OVER : goal.returns-then-class-ne-OVER
returns-then-class-ne-OVER c = (
  λ e. (can-be-uncovered _ c.if-class-ne-OVER.true, omega (arith, leb-true _ _ e)),
  λ f. le-leb _ _ (omega (arith, f.1)),
)

pub returns-else-class-ne-OVER : goal.returns-else-class-ne-OVER
returns-else-class-ne-OVER c =
    let over : c.args.class ≡ 1 = omega (arith, c.if-class-ne-OVER.false) in (
      λ e. absurd (true≢false (sym e ∙ rw (eq-eqb c.args.class 1 over) refl)),
      λ f. absurd (true≢false (sym f.0 ∙ cannot-be-uncovered _ over)),
    )
