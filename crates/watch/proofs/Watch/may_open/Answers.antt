-- `watch::Watch::may_open` meets its contract: by whether a window was opened.
use mathlib.Core.Logic.{inl, inr, ⊎_elim}
use Rattle.std.proofs.Common.{rules}
use mathlib.Core.Path.{◌≡◌, refl}
use mir.Facts.{to_z-of_z}
use mir.Syntax.{w32}
use mir.Val.{SFits}
use Rattle.rule.specs.Rule.{over}
use Rattle.watch.specs.Tested.{highest}
use Rattle.watch.proofs.Watch.may_open.Goals as goal
use Rattle.watch.proofs.Watch.may_open.Goals.{After-over}

pub returns-then-self-eq0 : goal.returns-then-self-eq0
returns-then-self-eq0 c = (λ e. inl c.if-self-eq0.true, λ o. refl)

side : (c : After-over) → c.over.result ≡ over c.args.self.k highest
side c =
    let k-fits : SFits w32 c.args.self.k = search rules in
    simp (to_z-of_z, k-fits) at c.over.ensures

pub returns : goal.returns
returns c = rw (side (goal.at.returns c).After-over) (λ e. inr e, ⊎_elim (λ none. absurd (c.if-self-eq0.false none)) (λ o. o))
