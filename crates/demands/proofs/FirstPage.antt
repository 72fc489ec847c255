-- The first page is the plan that the filter draws.
use native.Mathlib.Omega.{arith}
use mathlib.Core.List.{[]}
use Rattle.requests.proofs.Formed.{formed-iff}
use Rattle.requests.proofs.Outcomes.{keeps→planned}
use Rattle.requests.specs.Promise.{Outcome, Says, Keeps}
use Rattle.requests.specs.Request.{Request, WellFormed, PlanOf}
use Rattle.requests.specs.declared.PlanCounts.{PlanCounts}
use Rattle.rule.proofs.Order.{none_before}
use Rattle.rule.specs.Order.{First}
use Rattle.paging.proofs.NextIsFirst.{plan-length}
use Rattle.paging.specs.Paging.{NextPlan}

pub first_page : (r : Request) → WellFormed r → (o : Outcome) → Keeps r o → (n : PlanCounts) → Says o n →
    NextPlan r [] o.marks
first_page r well o kept n e =
    let good = formed-iff.0 well in
    let drawn : First (PlanOf r) o.marks = (keeps→planned r o kept n e).first in
    record {
      holds = record {
        plan = drawn.holds;
        later = none_before o.marks (omega (arith, plan-length r good drawn.holds, good.pass.slots.0));
      };
      first = λ ks after. drawn.first ks after.plan;
    }
