-- The answers of the watch for C, in numbers, and what these promise.
use Rattle.std.specs.Prelude.{ℕ, ◌<◌, Bool, false, List, [], ◌∷◌, ◌++◌, ◌↔◌, ◌≡◌, ℤ, pos, length}
use Rattle.std.proofs.Math.Option.{none}
use Rattle.refusals.specs.Answer.{Answer, refuses, gives}
use Rattle.refusals.specs.Numbers.{number}
use Rattle.watch.specs.Promise.{opened, Steps}
use Rattle.watch.specs.Start.{starting}
use Rattle.watch.specs.States.{start_refusal, max_taken, LeadsTo, Reached}
use Rattle.watch.specs.declared.Watch.{Watch}
use Rattle.watch.specs.declared.step.Stepped.{Stepped}
use Rattle.icecoppice.specs.declared.watches.StartNumbers.{StartNumbers}
use Rattle.icecoppice.specs.declared.watches.StepNumbers.{StepNumbers}

-- a start gives the code 0 and the state, or the refusal's number and a state of zeros
abbrev pub no_watch : Watch
no_watch = record { k = pos 0; len = 0; h = 0; taken = 0; windows = 0; room = 0; spare = 0 }

abbrev pub start_numbers : Answer Watch → StartNumbers
start_numbers (gives w) = record { code = 0; watch = w }
start_numbers (refuses r) = record { code = number r; watch = no_watch }

-- a step gives the code 0 and whether the load opened a window, or the refusal's number; either way also the state
abbrev pub step_numbers : Answer Bool → Watch → StepNumbers
step_numbers (gives opened) w = record { code = 0; opened = opened; watch = w }
step_numbers (refuses r) w = record { code = number r; opened = false; watch = w }

-- The numbers are those of a step that keeps its promise.
pub record StepsInNumbers (w : Watch) (load : ℤ) (numbers : StepNumbers) : Type 0 where
  pub stepped : Stepped
  pub is : numbers ≡ step_numbers stepped.answer stepped.watch
  pub kept : Steps w load stepped

-- What a caller can tell from the numbers (proofs/WatchMeans.antt): code 0 is an accepted start, and the code of a
-- step says which of its three situations it was.
abbrev pub StartMeans : Type 0
StartMeans = (k : ℤ) (len h : ℕ) → ((start_numbers (starting k len h)).code ≡ 0) ↔ (start_refusal len h ≡ none)

pub record StepMeans (w : Watch) (load : ℤ) (numbers : StepNumbers) : Type 0 where
  pub unreached : (numbers.code ≡ 32) ↔ (Reached w → ⊥)
  pub full : (numbers.code ≡ 33) ↔ (Reached w × (w.taken ≡ max_taken))
  pub kept : (numbers.code ≡ 0 → ⊥) → numbers.watch ≡ w
  pub taken : (k : ℤ) (len h : ℕ) (loads : List ℤ) → LeadsTo k len h loads w → length loads < max_taken →
      LeadsTo k len h (loads ++ load ∷ []) numbers.watch
      × (numbers.code ≡ 0) × (numbers.opened ≡ opened w numbers.watch)
