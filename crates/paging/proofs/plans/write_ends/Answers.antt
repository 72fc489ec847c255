-- `paging::plans::write_ends` meets its contract. The loop's invariant: the loads are the ends as far as slot i.
use native.Mathlib.Omega.{arith}
use mathlib.Core.Path.{◌≡◌, sym, ◌∙◌}
use lib.IntN.{pos}
use lib.ListN.{get_or}
use lib.Seq.{take_all}
use mir.Syntax.{w32}
use mir.Val.{to_z, of_z}
use Rattle.facts.proofs.Lists.{take_set_next}
use Rattle.facts.proofs.Tests.{rules}
use Rattle.requests.specs.Request.{at}
use Rattle.rule.specs.Ranges.{range, end_for}
use Rattle.paging.proofs.Ends.{paired-ends, ends_at}
use Rattle.paging.proofs.plans.write_ends.Goals as goal

pub loop-i-preserved : goal.loop-i-preserved
loop-i-preserved c =
    let args = c.args in
    let i = c.loop-i.i in
    let slots = paired-ends args.lowest.now args.highest.now args.marks.now c.requires.0 in
    let load : to_z w32 (of_z w32 c.end_for.result)
    ≡ end_for (range (at args.lowest.now i) (at args.highest.now i)) (get_or args.marks.now i 0) = search rules in
    take_set_next c.loop-i.loads _ i _ (pos 0) (omega arith) (omega arith) c.loop-i.invariant
    (load ∙ sym (ends_at args.lowest.now args.highest.now args.marks.now i (omega arith) (omega arith) (omega arith)))

pub returns : goal.returns
returns c =
    let args = c.args in
    let i = c.loop-i.i in
    let slots = paired-ends args.lowest.now args.highest.now args.marks.now c.requires.0 in
    sym (take_all i c.loop-i.loads (omega arith)) ∙ c.loop-i.invariant ∙ take_all i _ (omega arith)
