-- `watch::reached::Bounded::spacing` meets its contract: by whether one slot fills a window.
use Rattle.watch.proofs.StateTests.{spacing-by-bridges}
use Rattle.watch.proofs.reached.Bounded.spacing.Goals as goal

pub returns-else-self-eq1 : goal.returns-else-self-eq1
returns-else-self-eq1 c =
    rw c.from.ensures (spacing-by-bridges _ _ c.args.self.bounded.accepted c.if-self-eq1.false)
