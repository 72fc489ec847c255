-- An outcome that keeps the promise for a request that is not refused says "planned" if there is a plan, and "no plan"
-- if there is none.
use Prim.Native.Nat.{ℕ}
use mathlib.Core.List.{List}
use mathlib.Core.Logic.{◌↔◌, ◌⊎◌, inl, inr}
use mathlib.Core.Option.{some, some-ne-none, some-injective}
use mathlib.Core.Path.{◌≡◌, refl, sym, ap, ◌∙◌, subst}
use Rattle.refusals.specs.Answer.{Answer, refuses, gives}
use Rattle.refusals.specs.declared.Refusal.{Refusal}
use Rattle.requests.proofs.SolutionKeeps.{solution-keeps}
use Rattle.requests.specs.Promise.{Result, no_plan, planned, Outcome, Says, SaysPlanned, SaysNoPlan}
use Rattle.requests.specs.Promise.{Unaltered, Planned, NoPlan, Answers, Keeps}
use Rattle.requests.specs.Request.{Request, filter_refusal, WellFormed, PlanOf, LeastWindows, LeastCovered}
use Rattle.requests.specs.Solution.{solution}
use Rattle.requests.specs.declared.PlanCounts.{PlanCounts}

-- an outcome that says "planned", with what the promise says of it
pub record IsPlanned (r : Request) (o : Outcome) : Type 0 where
  pub counts : PlanCounts
  pub answer : Says o counts
  pub promise : Planned r counts o

module _ (r : Request) (o : Outcome) (keeps : Keeps r o) where
  pub keeps→planned : (n : PlanCounts) → Says o n → Planned r n o
  keeps→planned n e = (subst (λ a. Answers r a o) e keeps).1

  pub keeps→no_plan : SaysNoPlan o → NoPlan r
  keeps→no_plan e = (subst (λ a. Answers r a o) e keeps).1

  pub keeps→unaltered : (SaysNoPlan o → Unaltered r o) × ((f : Refusal) → o.answer ≡ refuses f → Unaltered r o)
  keeps→unaltered = ((λ e. (subst (λ a. Answers r a o) e keeps).2), λ f e. (subst (λ a. Answers r a o) e keeps).1)

  -- the answer is a refusal exactly when the table of refusals gives it
  pub keeps→refused : (f : Refusal) → (o.answer ≡ refuses f) ↔ (filter_refusal r ≡ some f)
  keeps→refused f = ((λ e. (subst (λ a. Answers r a o) e keeps).0), by o.answer keeps)
    where
      by : (a : Answer Result) → Answers r a o → filter_refusal r ≡ some f → a ≡ refuses f
      by (refuses g) kept e = ap refuses (some-injective _ _ (sym kept.0 ∙ e))
      by (gives no_plan) kept e = absurd (some-ne-none _ (sym e ∙ kept.0))
      by (gives (planned n)) kept e = absurd (some-ne-none _ (sym e ∙ kept.0))

  planned-or-none : WellFormed r → IsPlanned r o ⊎ (SaysNoPlan o × NoPlan r)
  planned-or-none w = by o.answer refl keeps
    where
      by : (a : Answer Result) → o.answer ≡ a → Answers r a o → IsPlanned r o ⊎ (SaysNoPlan o × NoPlan r)
      by (refuses f) e kept = absurd (some-ne-none _ (sym kept.0 ∙ w))
      by (gives no_plan) e kept = inr (e, kept.1)
      by (gives (planned n)) e kept = inl (record { counts = n; answer = e; promise = kept.1 })

  pub plan→planned : WellFormed r → (ms : List ℕ) → PlanOf r ms → IsPlanned r o
  plan→planned w ms p = by (planned-or-none w)
    where
      by : IsPlanned r o ⊎ (SaysNoPlan o × NoPlan r) → IsPlanned r o
      by (inl i) = i
      by (inr (e, n)) = absurd (n ms p)

  pub plan→says-planned : WellFormed r → (ms : List ℕ) → PlanOf r ms → SaysPlanned o
  plan→says-planned w ms p = let i = plan→planned w ms p in (i.counts, i.answer)

  pub no_plan→says : WellFormed r → NoPlan r → SaysNoPlan o
  no_plan→says w n = by (planned-or-none w)
    where
      by : IsPlanned r o ⊎ (SaysNoPlan o × NoPlan r) → SaysNoPlan o
      by (inl i) = let (ms, p, _) = i.promise.windows.least.met in absurd (n ms p)
      by (inr (e, _)) = e

-- a request with a plan has both least counts
module _ (r : Request) (w : WellFormed r) (ms : List ℕ) (p : PlanOf r ms) where
  solved : IsPlanned r (solution r)
  solved = plan→planned r (solution r) (solution-keeps r) w ms p

  pub least_windows : (v : ℕ) × LeastWindows r v
  least_windows = let counted = solved.promise.windows in (counted.value, counted.least)

  pub least_covered : (v : ℕ) × LeastCovered r v
  least_covered = let counted = solved.promise.covered in (counted.value, counted.least)
