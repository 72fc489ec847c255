-- The next plan of a request (document 02, T-05), as a relation between what is given and what comes back.
use Rattle.std.specs.Prelude.{ℕ, Bool, not, ◌&&◌, ◌||◌, List, [], ◌∷◌, ◌⊎◌, ◌≡◌, ltb, eqb, ℤ, length}
use Rattle.std.proofs.Math.Option.{Option, none, some}
use Rattle.refusals.specs.Answer.{Answer, refuses, gives}
use Rattle.refusals.specs.Table.{row, first}
use Rattle.refusals.specs.declared.Refusal.{Refusal}
use Rattle.refusals.specs.declared.Refusal.TheVariants.{PagedSlots, GivenPlan}
use Rattle.rule.specs.Order.{◌≺◌, First}
use Rattle.settings.specs.Refusals.{differs, lengths_refusal}
use Rattle.settings.specs.declared.Settings.{Settings}
use Rattle.requests.specs.Request.{Request, request_of, request_refusal, PlanOf}
use Rattle.paging.specs.declared.Page.{Page}
pub use Rattle.paging.specs.declared.Page.TheVariants.{Next as next, End as no_further}

-- "Up to 12 slots"
abbrev pub page_limit : ℕ
page_limit = 12

-- What is given: a request, whose mark slice is the one lent for the result, and the marks of a plan, or none.
pub record Call : Type 0 where
  pub request : Request
  pub given : List ℕ

abbrev pub call_of : Settings → (lowest highest : List ℤ) (given marks : List ℕ) → Call
call_of s los his given ms = record { request = request_of s los his ms; given = given }

-- 34: more than 12 slots
unfoldable pub too_many_slots : (n : ℕ) → Bool
too_many_slots n = ltb page_limit n

-- 22, beside the highest loads: the result slice has another length, or the given one has and is not empty ("22 here
-- exempts the empty slice")
unfoldable pub marks_differ : (n given marks : ℕ) → Bool
marks_differ n given marks = (not (eqb given 0) && differs n given) || differs n marks

-- The refusals that do not ask whether the given marks are a plan: 21 and 22, then 34, then 23 to 31. The last are those
-- of a request, among which 21 and 22 do not apply any more.
unfoldable pub checks_refusal : Settings → (lowest highest : List ℤ) (given marks : ℕ) → Option Refusal
checks_refusal s los his given marks =
    let different = marks_differ (length los) given marks in
    first
    (lengths_refusal (length los) (differs (length los) (length his) || different)
    ∷ row PagedSlots (too_many_slots (length los))
    ∷ request_refusal s los his different
    ∷ [])

abbrev pub checked : Call → Option Refusal
checked q =
    let r = q.request in
    checks_refusal r.settings r.lowest r.highest (length q.given) (length r.marks)

-- a call is refused with f: by one of these, or, after all of them, with 35, where the given marks are not legal for the
-- ranges within both maximums. The empty slice is given for the first plan, and is never refused so
pub data RefusedWith (q : Call) : Refusal → Type 0 where
  by_checks : {f : Refusal} → checked q ≡ some f → RefusedWith q f
  by_plan : checked q ≡ none → (q.given ≡ [] → ⊥) → (PlanOf q.request q.given → ⊥) → RefusedWith q GivenPlan

-- a call is not refused
pub record Accepted (q : Call) : Type 0 where
  pub passes : checked q ≡ none
  pub plan : (q.given ≡ []) ⊎ PlanOf q.request q.given

-- the plans of a request that come after given marks in the order of T-03. Where no marks are given, these are all
pub record PlanAfter (r : Request) (given ms : List ℕ) : Type 0 where
  pub plan : PlanOf r ms
  pub later : given ≺ ms

-- the next plan is the first of them
abbrev pub NextPlan : Request → (given ms : List ℕ) → Type 0
NextPlan r given = First (PlanAfter r given)

-- "there is no further one"
abbrev pub NoFurther : Request → (given : List ℕ) → Type 0
NoFurther r given = (ms : List ℕ) → PlanAfter r given ms → ⊥

-- the result for a call that is not refused
abbrev pub Result : Type 0
Result = Page

-- What is promised with each answer, where the lent slice holds ms then: it is unaltered by refusals and at the end. The
-- loads are only read.
abbrev pub Turns : Call → Answer Result → (ms : List ℕ) → Type 0
Turns q (refuses f) ms = RefusedWith q f × (ms ≡ q.request.marks)
Turns q (gives no_further) ms = Accepted q × NoFurther q.request q.given × (ms ≡ q.request.marks)
Turns q (gives next) ms = Accepted q × NextPlan q.request q.given ms
