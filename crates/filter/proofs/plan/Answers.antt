-- `filter::plan` meets its contract: what the called functions gave, taken together (`PlanAnswers`).
use native.Mathlib.Omega.{arith}
use mathlib.Core.Path.{◌≡◌, refl, sym}
use lib.ListN.{take}
use lib.Seq.{take_all}
use mir.Facts.{to_z-of_z}
use mir.Syntax.{w32}
use mir.Val.{SFits}
use Rattle.settings.specs.Refusals.{limit}
use Rattle.drawing.proofs.OfRequest.{wide, whole, whole-short, by_codes}
use Rattle.drawing.specs.Codes.{codes_of}
use Rattle.filter.proofs.PlanAnswers.{no-plan-kept, plan-kept}
use Rattle.rule.specs.ClassCodes.{decode_all}
use Rattle.requests.proofs.Formed.{formed-iff}
use Rattle.requests.specs.Request.{Request, request_of, slots, WellFormed}
use Rattle.requests.specs.Solution.{classes}
use Rattle.least.specs.Counts.{Counted}
use Rattle.filter.proofs.plan.Goals as goal
use Rattle.filter.proofs.plan.Goals.{After-classify-codes}
use Rattle.least.specs.declared.LeastCounts.{LeastCounts}

-- The request, seen from where the bytes that stand for its classes are known (`k` was passed on as bits).
abbrev request : After-classify-codes → Request
request c =
    let args = c.args in
    request_of args.settings args.lowest.now args.highest.now args.marks.now

well : (c : After-classify-codes) → WellFormed (request c)
well c = c.requires

codes : (c : After-classify-codes) → c.classify-codes.result ≡ codes_of (classes (request c))
codes c =
    let k-fits : SFits w32 (request c).settings.k = record { sfits = c.type_inv.settings.0.1 } in
    simp (to_z-of_z, k-fits) at c.classify-codes.ensures

by_bytes : (c : After-classify-codes) → decode_all (take (slots (request c)) c.classify-codes.result) ≡ classes (request c)
by_bytes c = by_codes _ (well c) _ (codes c)

pub slice_bounds-codes-end : goal.slice_bounds-codes-end
slice_bounds-codes-end c =
    let p = (goal.at.slice_bounds-codes-end c).After-classify-codes in
    omega (arith, (formed-iff.0 (well p)).pass.slots.1, wide _ (well p) _ (codes p))

pub slice_bounds-least_counts-end : goal.slice_bounds-least_counts-end
slice_bounds-least_counts-end c =
    let p = (goal.at.slice_bounds-least_counts-end c).After-classify-codes in
    sym (whole _ (well p) _ (codes p))

pub slice_bounds-codes-end-2 : goal.slice_bounds-codes-end-2
slice_bounds-codes-end-2 c =
    let p = (goal.at.slice_bounds-codes-end-2 c).After-classify-codes in
    omega (arith, (formed-iff.0 (well p)).pass.slots.1, wide _ (well p) _ (codes p))

pub slice_bounds-draw-end : goal.slice_bounds-draw-end
slice_bounds-draw-end c =
    let p = (goal.at.slice_bounds-draw-end c).After-classify-codes in
    sym (whole _ (well p) _ (codes p))

pub invariant_of-narrow : goal.invariant_of-narrow
invariant_of-narrow c =
    let p = (goal.at.invariant_of-narrow c).After-classify-codes in
    let f = formed-iff.0 (well p) in
    record { few = f.pass.slots.1; long = f.pass.length.0 }

-- the least counts: `least_counts` reads every slot of the request
counts : (p : After-classify-codes) (least : LeastCounts) →
    Counted (request p).settings (decode_all (take limit (take (slots (request p)) p.classify-codes.result))) least →
    Counted (request p).settings (decode_all (take (slots (request p)) p.classify-codes.result)) least
counts p least found =
    rw (take_all limit (take (slots (request p)) p.classify-codes.result) (whole-short _ (well p) _ (codes p))) at found

pub returns-then-least-settings : goal.returns-then-least-settings
returns-then-least-settings c =
    let p = (goal.at.returns-then-least-settings c).After-classify-codes in
    no-plan-kept _ (well p) _ (by_bytes p) _ (counts p _ c.least_counts-least.ensures) (omega arith)

pub narrow-requires : goal.narrow-requires
narrow-requires c =
    let p = (goal.at.narrow-requires c).After-classify-codes in
    let f = formed-iff.0 (well p) in
    (refl, f.width, by_bytes p)

pub returns : goal.returns
returns c =
    let p = (goal.at.returns c).After-classify-codes in
    let whole = take_all limit (take (slots (request p)) p.classify-codes.result) (whole-short _ (well p) _ (codes p)) in
    plan-kept _ (well p) _ (by_bytes p) _ (counts p _ c.least_counts-least.ensures) c.if-least-settings.false
    (rw whole at c.draw.ensures) c.raise.ensures c.raise-2.ensures c.narrow.ensures
