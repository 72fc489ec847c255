-- `checks::check_request` meets its contract: lengths and settings, then the slots.
use mathlib.Core.Path.{sym, ◌∙◌}
use Rattle.facts.proofs.Tests.{or-false→both}
use Rattle.settings.proofs.Accepted.{differs_false, accepted-iff}
use Rattle.checks.proofs.check_request.Goals as goal

pub first_crossed-requires : goal.first_crossed-requires
first_crossed-requires c =
    let (same-lengths, _) = accepted-iff.0 (sym c.in_ok-check.ensures) in
    (differs_false _ _).0 (sym c.differ.ensures ∙ (or-false→both _ _ same-lengths).0)
