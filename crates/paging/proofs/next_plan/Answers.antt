-- `paging::next_plan` meets its contract: the checks, then the given plan, then the next.
use native.Mathlib.Omega.{arith}
use mathlib.Core.Option.{none}
use mathlib.Core.Path.{◌≡◌, refl, sym}
use mir.Facts.{to_z-of_z}
use mir.Syntax.{w32}
use mir.Val.{SFits}
use Rattle.drawing.proofs.OfRequest.{wide, whole}
use Rattle.drawing.specs.Codes.{codes_of}
use Rattle.refusals.proofs.Answer.{handed-up}
use Rattle.requests.proofs.Formed.{formed-iff}
use Rattle.requests.specs.Request.{WellFormed}
use Rattle.requests.specs.Solution.{classes}
use Rattle.paging.specs.Paging.{Call, call_of, checked, by_checks}
use Rattle.paging.proofs.GivenPlan.{given-refused, given-accepted}
use Rattle.paging.proofs.Passes.{Passed, passes→passed, passed→ready}
use Rattle.paging.proofs.next_plan.Goals as goal
use Rattle.paging.proofs.next_plan.Goals.{After-classify-codes}

pub returns-in_err-check_call : goal.returns-in_err-check_call
returns-in_err-check_call c =
    rw (handed-up _ _ c.from_residual.ensures.1) (by_checks (sym c.in_err-check_call.ensures), refl)

-- a call that passes its checks
abbrev call : After-classify-codes → Call
call c =
    let args = c.args in
    call_of args.settings args.lowest.now args.highest.now args.given.now args.marks.now

passes : (c : After-classify-codes) → checked (call c) ≡ none
passes c = sym c.in_ok-check_call.ensures

passed : (c : After-classify-codes) → Passed (call c)
passed c = passes→passed (call c) (passes c)

well : (c : After-classify-codes) → WellFormed (call c).request
well c = formed-iff.1 (passed c).formed

codes : (c : After-classify-codes) → c.classify-codes.result ≡ codes_of (classes (call c).request)
codes c =
    let k-fits : SFits w32 (call c).request.settings.k = record { sfits = c.type_inv.settings.0.1 } in
    simp (to_z-of_z, k-fits) at c.classify-codes.ensures

pub slice_bounds-codes-end : goal.slice_bounds-codes-end
slice_bounds-codes-end c = omega (arith, (passed c).short, wide _ (well c) _ (codes c))

pub slice_bounds-search-end : goal.slice_bounds-search-end
slice_bounds-search-end c =
    let p = (goal.at.slice_bounds-search-end c).After-classify-codes in
    sym (whole _ (well p) _ (codes p))

pub invariant_of-search : goal.invariant_of-search
invariant_of-search c =
    let p = (goal.at.invariant_of-search c).After-classify-codes in
    record { ready = passed→ready _ (passed p) _ (codes p); as_long = (passed p).as_long }

pub returns-then-no_plan_given : goal.returns-then-no_plan_given
returns-then-no_plan_given c =
    let p = (goal.at.returns-then-no_plan_given c).After-classify-codes in
    (given-refused (call p) (passes p) (rw (← c.no_plan_given.ensures) c.if-no_plan_given.true), refl)

pub turn-requires : goal.turn-requires
turn-requires c =
    let p = (goal.at.turn-requires c).After-classify-codes in
    given-accepted (call p) (passes p) (rw (← c.no_plan_given.ensures) c.if-no_plan_given.false)
