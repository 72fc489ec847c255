-- What has to hold of a slot's range before it loses a part.
use Rattle.std.specs.Prelude.{ℤ, ◌≤ℤ◌, ◌<ℤ◌}
use Rattle.requests.specs.declared.Loss.{Loss}
use Rattle.requests.specs.declared.Loss.TheVariants.{Nothing as nothing, Under as under_part, Over as over_part}

-- a slot that loses a part is open
abbrev pub OpenIfLost : ℤ → Loss → (lowest highest : ℤ) → Type 0
OpenIfLost k nothing lo hi = Unit
OpenIfLost k under_part lo hi = (lo ≤ℤ k) × (k <ℤ hi)
OpenIfLost k over_part lo hi = (lo ≤ℤ k) × (k <ℤ hi)
