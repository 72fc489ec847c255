-- `listing::put::Text::slot_lines` meets its contract. The loop's invariant: the lines from slot i on are left to write
-- (`SlotsLeft`).
use Rattle.std.proofs.Common.{rules, length}
use native.Mathlib.Omega.{arith}
use mir.Facts.{to_z-of_z}
use mir.Syntax.{w32}
use mir.Val.{SFits}
use Rattle.std.proofs.lemmas.List.{length_push}
use Rattle.listing.proofs.Lengths.{slot_line-short}
use Rattle.listing.proofs.SlotLinesLoop.{slots_turn, slots_end, lines_start, lines_step, lines_end, all_short}
use Rattle.listing.proofs.put.Text.slot_lines.Goals as goal

pub loop-i-init : goal.loop-i-init
loop-i-init c = lines_start _ _ _ (omega arith)

pub loop-i-preserved : goal.loop-i-preserved
loop-i-preserved c =
    let turn = slots_turn c.args.lowest.now c.args.highest.now c.args.marks.now c.into_iter-i-iterator.result (cc) (cc) (cc) (cc) c.loop-i.yielded _ c.next.new.self _ c.loop-i.yielded_by c.next.ensures.steps c.in-Some.is in
    let fits-lo : SFits w32 c.in-Some.lo.now = search rules in
    let fits-hi : SFits w32 c.in-Some.hi.now = search rules in
    let (bound, n, lo, hi, m) = turn in
    let mark = c.type_inv.marks (length c.loop-i.yielded) in
    rw (length_push c.loop-i.yielded _)
    (lines_step _ _ _ c.loop-i.invariant bound
    (rw (to_z-of_z fits-lo, to_z-of_z fits-hi, n, lo, hi, m) at c.slot_line.ensures)
    (λ few. slot_line-short _ _ _ _ few (rw lo at fits-lo) (rw hi at fits-hi) (omega (arith, mark))))

pub returns : goal.returns
returns c =
    let end = slots_end c.args.lowest.now c.args.highest.now c.args.marks.now c.into_iter-i-iterator.result (cc) (cc) (cc) (cc) c.loop-i.yielded _ c.next.new.self _ c.loop-i.yielded_by c.next.ensures.steps c.in-None.is in
    record {
      written = lines_end _ _ _ c.loop-i.invariant (omega arith);
      short = all_short _ _ _ c.loop-i.invariant (omega arith);
    }
