-- `icecoppice::watches::icecoppice_watch_start` meets its contract: the numbers are those of what the start gives.
use mathlib.Core.Path.{◌≡◌, ap, ◌∙◌}
use mir.Facts.{to_z-of_z}
use Rattle.watch.specs.Start.{starting}
use Rattle.icecoppice.specs.WatchNumbers.{start_numbers}
use Rattle.icecoppice.proofs.watches.icecoppice_watch_start.Goals as goal
use Rattle.icecoppice.proofs.watches.icecoppice_watch_start.Goals.{After-start-started}

start_is : (c : After-start-started) → let args = c.args in
    c.start-started.result ≡ starting args.k args.len args.h
start_is c = simp (to_z-of_z, c.ranges.k) at c.start-started.ensures

pub returns : goal.returns
returns c = c.from.ensures ∙ ap start_numbers (start_is (goal.at.returns c).After-start-started)
