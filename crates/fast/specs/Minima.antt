-- The least count over ends within reach, and what is kept of it from slot to slot.
use Rattle.std.specs.Prelude.{ℕ, suc, ◌+◌, ◌-◌, ◌≤◌, min, List, [], ◌∷◌, ◌≡◌, length, take, drop, get_or}
use Rattle.requests.specs.Solution.{sentinel}
use Rattle.fast.specs.declared.row.Near.{Near}

-- The least count of a window over ends that lie side by side: for each there is what comes after it, and the window
-- covers the slots up to it, which are d for the first.
abbrev pub nearest : (d : ℕ) → (ends : List ℕ) → ℕ
nearest d [] = sentinel
nearest d (v ∷ vs) = min (min sentinel (d + v)) (nearest (suc d) vs)

-- for each number of first ends, up to `top`, the least count over them
pub record Minima (ends : List ℕ) (top : ℕ) (minima : List ℕ) : Type 0 where
  pub least : (k : ℕ) → k ≤ top → get_or minima k 0 ≡ nearest 1 (take k ends)

-- What is kept for slot x, which reaches f ends: the least count over the near ones, and the minima of those that
-- follow, as far as the reach goes and maybe further.
pub record Serves (ends : List ℕ) (x f : ℕ) (near : Near) (minima : List ℕ) : Type 0 where
  pub top : ℕ
  pub within : f ≤ near.ends + top
  pub known : near.ends ≤ length (drop x ends)
  pub near_least : near.least ≡ nearest 1 (take near.ends (drop x ends))
  pub later_least : Minima (drop near.ends (drop x ends)) top minima

-- from the slot after slot x, which reaches g ends, to slot x: a reach ends no later than that of the next slot
abbrev pub Stepped : (ends : List ℕ) (x f : ℕ) (near near₁ : Near) (minima minima₁ : List ℕ) → Type 0
Stepped ends x f near near₁ minima minima₁ =
    (g : ℕ) → f ≤ suc g → Serves ends (x + 1) g near minima → Serves ends x f near₁ minima₁

-- the least count over the f ends within reach, from what is kept
abbrev pub least_kept : (f : ℕ) → Near → (minima : List ℕ) → ℕ
least_kept f near minima = min near.least (min sentinel (near.ends + get_or minima (f - near.ends) 0))
