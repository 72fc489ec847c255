-- Whether a call that passes its checks is refused with 35.
use mathlib.Core.Bool.{Bool, true, false, not, ◌&&◌, true≢false}
use mathlib.Core.List.{[]}
use mathlib.Core.Logic.{◌⊎◌, inl, inr}
use mathlib.Core.Option.{none}
use mathlib.Core.Path.{◌≡◌, refl, sym, ap, ◌∙◌}
use borrow.Author.Tests.{eqb-true, not-true, not-false}
use lib.Dec.{eqb}
use lib.ListN.{length}
use Rattle.facts.proofs.Lists.{no_length}
use Rattle.facts.proofs.Tests.{and-true→both}
use Rattle.refusals.specs.declared.Refusal.TheVariants.{GivenPlan}
use Rattle.requests.specs.Request.{PlanOf}
use Rattle.paging.proofs.NextIsFirst.{is-plan-iff}
use Rattle.paging.proofs.Passes.{passes→passed}
use Rattle.paging.specs.Paging.{Call, checked, RefusedWith, by_plan, Accepted}
use Rattle.paging.specs.Parting.{is_plan, no_plan_given}

module _ (q : Call) (passes : checked q ≡ none) where
  abbrev refused : Bool
  refused = no_plan_given q.request.settings q.request.lowest q.request.highest q.given

  abbrev plan? : Bool
  plan? = is_plan q.request.settings q.request.lowest q.request.highest q.given

  pub given-refused : refused ≡ true → RefusedWith q GivenPlan
  unfolding no_plan_given
  given-refused e =
      let (some, not-plan) = and-true→both (not (eqb (length q.given) 0)) _ e in
      by_plan passes
      (λ empty. true≢false (sym some ∙ ap (λ given. not (eqb (length given) 0)) empty))
      (λ plan. true≢false (sym ((is-plan-iff q.request (passes→passed q passes).formed q.given).0 plan)
      ∙ not-true plan? not-plan))

  pub given-accepted : refused ≡ false → Accepted q
  unfolding no_plan_given
  given-accepted e = record { passes = passes; plan = by (eqb (length q.given) 0) refl e }
    where
      by : (b : Bool) → eqb (length q.given) 0 ≡ b → (not b && not plan?) ≡ false →
          (q.given ≡ []) ⊎ PlanOf q.request q.given
      by true empty e = inl (no_length q.given (eqb-true _ _ empty))
      by false some e =
          inr ((is-plan-iff q.request (passes→passed q passes).formed q.given).1 (not-false plan? e))
