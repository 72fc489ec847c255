-- The states of a watch (document 01, "Watch"), and which of them loads lead to.
use Rattle.std.specs.Prelude.{ℕ, ◌+◌, ◌-◌, ◌≤◌, cond, List, [], ◌∷◌, ◌≡◌, eqb, ℤ, length}
use Rattle.std.proofs.Math.Option.{Option, none}
use Rattle.std.specs.Int.{w32}
use Rattle.std.proofs.Common.{SFits}
use Rattle.refusals.specs.declared.Refusal.{Refusal}
use Rattle.settings.specs.Refusals.{limit, shape_refusal}
use Rattle.rule.specs.Rule.{over, shaped}
use Rattle.watch.specs.declared.Watch.{Watch}

-- "Where each refusal is checked", the settings rows for the watch: 23 with the limit in place of n, and 24
abbrev pub start_refusal : (len h : ℕ) → Option Refusal
start_refusal len h = shape_refusal limit (shaped len h)

-- an accepted start: no slot taken, no window opened, none active
abbrev pub initial : (k : ℤ) (len h : ℕ) → Watch
initial k len h = record { k = k; len = len; h = h; taken = 0; windows = 0; room = 0; spare = 0 }

-- the state with one slot more taken, this many windows opened so far, and this much left to the
-- active window; a window is active while it has slots left
abbrev pub after_slot : Watch → (windows room spare : ℕ) → Watch
after_slot w windows room spare =
    record {
      k = w.k;
      len = w.len;
      h = w.h;
      taken = w.taken + 1;
      windows = windows;
      room = room;
      spare = cond (eqb room 0) 0 spare;
    }

-- an over load uses a slot of the active window, or opens a window where none is active
unfoldable pub after_over : Watch → Watch
after_over w =
    cond (eqb w.room 0)
    (after_slot w (w.windows + 1) (w.len - 1) w.h)
    (after_slot w w.windows (w.room - 1) w.spare)

-- an under load uses a slot and a bridge of the active window, or ends it where no bridge is left
unfoldable pub after_under : Watch → Watch
after_under w =
    cond (eqb w.spare 0)
    (after_slot w w.windows 0 0)
    (after_slot w w.windows (w.room - 1) (w.spare - 1))

unfoldable pub after : Watch → (load : ℤ) → Watch
after w load = cond (over w.k load) (after_over w) (after_under w)

-- the state after these loads
unfoldable pub state_after : Watch → (loads : List ℤ) → Watch
state_after w [] = w
state_after w (x ∷ xs) = state_after (after w x) xs

-- "It takes 1,000,000 slots"
abbrev pub max_taken : ℕ
max_taken = 1000000

-- loads are signed 32-bit numbers ("From load ranges to windows")
abbrev pub FitLoads : List ℤ → Type 0
FitLoads [] = Unit
FitLoads (x ∷ xs) = SFits w32 x × FitLoads xs

-- an accepted start and these loads, at most as many as a watch takes, lead to the state w
pub record LeadsTo (k : ℤ) (len h : ℕ) (loads : List ℤ) (w : Watch) : Type 0 where
  pub accepted : start_refusal len h ≡ none
  pub fit : FitLoads loads
  pub few : length loads ≤ max_taken
  pub state : state_after (initial k len h) loads ≡ w

-- some accepted start and some loads lead to the state w
abbrev pub Reached : Watch → Type 0
Reached w = (k : ℤ) × (len : ℕ) × (h : ℕ) × (loads : List ℤ) × LeadsTo k len h loads w
