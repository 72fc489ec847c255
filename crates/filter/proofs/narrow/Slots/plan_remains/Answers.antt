-- `filter::narrow::Slots::plan_remains` meets its contract: the classes that `least_counts` is given are
-- those with the slot settled (`NarrowLoop`).
use native.Mathlib.Omega.{arith}
use mathlib.Core.Path.{refl, sym}
use lib.ListN.{take, set, length-set}
use lib.Seq.{take_all}
use Rattle.settings.specs.Refusals.{limit}
use Rattle.filter.proofs.NarrowLoop.{settled, settled-length}
use Rattle.requests.specs.Solution.{possible}
use Rattle.filter.proofs.narrow.Slots.plan_remains.Goals as goal

pub slice_bounds-settled-end : goal.slice_bounds-settled-end
slice_bounds-settled-end c = omega (arith, length-set c.args.self.now.codes c.args.i c.args.class)

pub slice_bounds-least_counts-end : goal.slice_bounds-least_counts-end
slice_bounds-least_counts-end c =
    let args = c.args in
    sym (settled-length args.self.now.codes args.self.now.n args.i args.class (omega arith))

pub returns : goal.returns
unfolding possible
returns c =
    let args = c.args in
    let short = settled-length args.self.now.codes args.self.now.n args.i args.class (omega arith) in
    let lent = take args.self.now.n (set args.self.now.codes args.i args.class) in
    rw (
      c.least_counts.ensures.2,
      take_all limit lent (omega (arith, short)),
      settled args.self.now.codes args.self.now.n args.i args.class (omega arith),
    )
    refl
