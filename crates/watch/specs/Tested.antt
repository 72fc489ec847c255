-- The states that loads lead to, by the numbers in them: what a step tests. No public promise rests on this. That
-- each `Reached` state is `Tested` is proofs/ReachedIsTested.antt; the converse is proofs/TestedIsReached.antt.
use Rattle.std.specs.Prelude.{ℕ, ◌+◌, ◌*◌, ◌-◌, ◌≤◌, ◌<◌, min, true, ◌⊎◌, ◌≡◌, ℤ, pos}
use Rattle.std.proofs.Math.Option.{none}
use Rattle.rule.specs.Rule.{over}
use Rattle.watch.specs.States.{start_refusal, max_taken}
use Rattle.watch.specs.declared.Watch.{Watch}

-- the highest load: with it as the threshold no load is over, and no window opens
abbrev pub highest : ℤ
highest = pos 2147483647

-- the fewest slots from one window's opening to the next one's: by then the window is full, or it
-- was ended by one under load more than it has bridges
abbrev pub spacing : (len h : ℕ) → ℕ
spacing len h = min len (h + 2)

-- what keeps the sums below small: the settings are accepted, no more windows were opened than
-- slots taken, and no more slots were taken than a watch takes
pub record Bounded (w : Watch) : Type 0 where
  pub accepted : start_refusal w.len w.h ≡ none
  pub counted : w.windows ≤ w.taken
  pub few : w.taken ≤ max_taken

-- no window is active, and the slots taken are enough for all the windows opened, at this spacing
pub record Idle (w : Watch) : Type 0 where
  pub slots : w.room ≡ 0
  pub bridges : w.spare ≡ 0
  pub each : w.windows * spacing w.len w.h ≤ w.taken

-- a window is active, its first slot was over, and the slots taken are enough for it and, at this
-- spacing, for each window before it
pub record Active (w : Watch) : Type 0 where
  pub opened : 1 ≤ w.windows
  pub slots : (1 ≤ w.room) × (w.room < w.len)
  pub bridges : w.spare ≤ w.h
  pub used : (w.h - w.spare) < (w.len - w.room)
  pub each : (w.windows - 1) * spacing w.len w.h + (w.len - w.room) ≤ w.taken

pub record Tested (w : Watch) : Type 0 where
  pub accepted : start_refusal w.len w.h ≡ none
  pub few : w.taken ≤ max_taken
  pub opens : (w.windows ≡ 0) ⊎ (over w.k highest ≡ true)
  pub phase : Idle w ⊎ Active w

-- what a state has to keep for one load more to be taken
pub record Ready (w : Watch) : Type 0 where
  pub sized : 1 ≤ w.len
  pub counted : w.windows ≤ w.taken
  pub more : w.taken < max_taken
  pub active : 1 ≤ w.spare → 1 ≤ w.room
