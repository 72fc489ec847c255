-- What is said of the slots' losses, one by one.
use Rattle.std.specs.Prelude.{ℕ, List, get_or}
use Rattle.requests.specs.declared.Loss.{Loss}
use Rattle.requests.specs.declared.Loss.TheVariants.{Nothing as nothing}

-- what slot i loses
abbrev pub lost_at : (lost : List Loss) (i : ℕ) → Loss
lost_at lost i = get_or lost i nothing
