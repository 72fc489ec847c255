-- `judge::marks::legal` meets its contract. The loop's invariant: the plan is legal exactly when the slots that are
-- left keep the rule from the scan state on (`LegalLoop.LeftToScan`).
use native.Mathlib.Omega.{arith}
use mathlib.Core.Path.{◌≡◌, sym, ◌∙◌}
use Prim.Native.Nat.{ℕ, ◌<◌, min}
use lib.IntN.{ℤ, pos}
use lib.ListN.{length, get_or, take, length-append}
use mir.Facts.{to_z-of_z}
use mir.Syntax.{w32}
use mir.Val.{SFits}
use Rattle.rule.proofs.BridgeCount.{running-counts}
use Rattle.judge.proofs.LegalLoop.{scan-start, scan-bridges-le, scan-broken, scan_step, scan-end}
use Rattle.rule.specs.BridgeCount.{BridgesSinceOpening}
use Rattle.judge.specs.ScanStep.{step_of}
use Rattle.rule.specs.Rule.{over}
use Rattle.std.proofs.Common.{rules}
use Rattle.std.proofs.lemmas.Slice.Zip.{zip_turn, zip_end}
use Rattle.judge.proofs.marks.legal.Goals as goal
use Rattle.judge.proofs.marks.legal.Goals.{At-loop-load, In-Some, After-scan_slot}

-- document 02, T-04, of the loop's own state: if the slots so far end in a window, its count is the number of marks 3
-- since the window's mark 1
count-in-window : (c : At-loop-load) →
    BridgesSinceOpening c.loop-load.at.bridges (take (length c.loop-load.yielded) c.args.marks.now)
count-in-window c = rw c.loop-load.invariant.counted (running-counts 0 _)

pub loop-load-init : goal.loop-load-init
loop-load-init c = scan-start _ _ _ _

-- the load and the mark of this turn are those of the slot that the scan stands before
slot : (c : In-Some) → let i = length c.loop-load.yielded in let loads = c.args.loads.now in let marks = c.args.marks.now in
    (i < length loads) × (i < length marks)
    × ((d : ℤ) → c.in-Some.field-0-0.now ≡ get_or loads i d) × ((d : ℕ) → c.in-Some.field-0-1.now ≡ get_or marks i d)
slot c =
    zip_turn c.args.loads.now c.args.marks.now c.loop-load.yielded c.into_iter-load-iterator.result c.loop-load.load-iterator
    c.next.new.self c.next.result (search rules) (search rules) c.loop-load.yielded_by _ c.in-Some.is c.next.ensures.steps

pub scan_slot-requires : goal.scan_slot-requires
scan_slot-requires c =
    let loop = c.loop-load in
    let (_, below, _, _) = slot (goal.at.scan_slot-requires c).In-Some in
    (omega arith, omega (arith, scan-bridges-le _ _ _ _ loop.at (length loop.yielded) loop.invariant))

stepped : (c : After-scan_slot) →
    let args = c.args in
    let i = length c.loop-load.yielded in
    c.in-Some.field-0-0.now ≡ get_or args.loads.now i (pos 0) → c.in-Some.field-0-1.now ≡ get_or args.marks.now i 0 →
    c.scan_slot.result ≡ step_of args.settings.shape c.loop-load.at
    (over args.settings.k (get_or args.loads.now i (pos 0))) (get_or args.marks.now i 0)
stepped c load mark =
    let k : SFits w32 c.args.settings.k = search rules in
    let x : SFits w32 c.in-Some.field-0-0.now = search rules in
    rw (← load, ← mark, ← simp (to_z-of_z, k, x) at c.over.ensures) c.scan_slot.ensures

pub returns-in_default : goal.returns-in_default
returns-in_default c =
    let loop = c.loop-load in
    let p = goal.at.returns-in_default c in
    let (in_loads, in_marks, load, mark) = slot p.In-Some in
    let step = stepped p.After-scan_slot (load _) (mark _) in
    sym (scan-broken _ _ _ _ loop.at _ loop.invariant in_loads in_marks (sym step ∙ c.in_default.is))

pub loop-load-preserved : goal.loop-load-preserved
loop-load-preserved c =
    let loop = c.loop-load in
    let p = goal.at.loop-load-preserved c in
    let (in_loads, in_marks, load, mark) = slot p.In-Some in
    let step = stepped p.After-scan_slot (load _) (mark _) in
    simp length-append
    (scan_step _ _ _ _ loop.at _ loop.invariant in_loads in_marks _ (sym step ∙ c.in-Some-scan_slot.is))

pub returns : goal.returns
returns c =
    let loop = c.loop-load in
    let all : length loop.yielded ≡ min (length c.args.loads.now) (length c.args.marks.now) =
    zip_end c.args.loads.now c.args.marks.now loop.yielded c.into_iter-load-iterator.result loop.load-iterator
    c.next.new.self c.next.result (search rules) (search rules) loop.yielded_by c.in-None.is c.next.ensures.steps in
    scan-end _ _ _ _ loop.at _ loop.invariant (omega arith) (omega arith)
