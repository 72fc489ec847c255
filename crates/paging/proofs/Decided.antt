-- The promise decides the answer and what the lent slice holds then.
use Prim.Native.Nat.{ℕ}
use mathlib.Core.List.{List}
use mathlib.Core.Logic.{◌↔◌, ⊎_elim}
use mathlib.Core.Option.{some-ne-none, some-injective}
use mathlib.Core.Path.{◌≡◌, refl, sym, ap, subst, ◌∙◌}
use Rattle.refusals.specs.Answer.{Answer, refuses, gives}
use Rattle.refusals.specs.declared.Refusal.{Refusal}
use Rattle.rule.proofs.Order.{first-unique}
use Rattle.paging.specs.Paging.{Call, RefusedWith, by_checks, by_plan, Accepted, Result, next, no_further, Turns}

module _ (q : Call) where
  one-refusal : {f g : Refusal} → RefusedWith q f → RefusedWith q g → f ≡ g
  one-refusal (by_checks e) (by_checks d) = some-injective _ _ (sym e ∙ d)
  one-refusal (by_checks e) (by_plan passes some not-plan) = absurd (some-ne-none _ (sym e ∙ passes))
  one-refusal (by_plan passes some not-plan) (by_checks d) = absurd (some-ne-none _ (sym d ∙ passes))
  one-refusal (by_plan passes some not-plan) (by_plan _ _ _) = refl

  refused-or-accepted : {f : Refusal} → RefusedWith q f → Accepted q → ⊥
  refused-or-accepted (by_checks e) a = some-ne-none _ (sym e ∙ a.passes)
  refused-or-accepted (by_plan passes some not-plan) a = ⊎_elim some not-plan a.plan

  pub decided : (a b : Answer Result) (ms ks : List ℕ) → Turns q a ms → Turns q b ks → (a ≡ b) × (ms ≡ ks)
  decided (refuses f) (refuses g) ms ks (e, u) (d, v) = (ap refuses (one-refusal e d), u ∙ sym v)
  decided (refuses f) (gives next) ms ks (e, u) (a, n) = absurd (refused-or-accepted e a)
  decided (refuses f) (gives no_further) ms ks (e, u) (a, n, v) = absurd (refused-or-accepted e a)
  decided (gives next) (refuses g) ms ks (a, n) (d, v) = absurd (refused-or-accepted d a)
  decided (gives next) (gives next) ms ks (a, n) (b, m) = (refl, first-unique n m)
  decided (gives next) (gives no_further) ms ks (a, n) (b, none, v) = absurd (none ms n.holds)
  decided (gives no_further) (refuses g) ms ks (a, none, u) (d, v) = absurd (refused-or-accepted d a)
  decided (gives no_further) (gives next) ms ks (a, none, u) (b, n) = absurd (none ks n.holds)
  decided (gives no_further) (gives no_further) ms ks (a, none, u) (b, _, v) = (refl, u ∙ sym v)

  pub turns→refused : (a : Answer Result) (ms : List ℕ) → Turns q a ms → (f : Refusal) →
      (a ≡ refuses f) ↔ RefusedWith q f
  turns→refused a ms turned f = (
    (λ e. (subst (λ a. Turns q a ms) e turned).0),
    (λ refused. (decided a (refuses f) ms _ turned (refused, refl)).0),
  )

  pub turns→unaltered : (a : Answer Result) (ms : List ℕ) → Turns q a ms →
      (a ≡ gives no_further → ms ≡ q.request.marks) × ((f : Refusal) → a ≡ refuses f → ms ≡ q.request.marks)
  turns→unaltered a ms turned = (
    (λ e. (subst (λ a. Turns q a ms) e turned).2),
    (λ f e. (subst (λ a. Turns q a ms) e turned).1),
  )
