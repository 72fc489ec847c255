-- What a step and a run give (document 01, "Watch" and "Where each refusal is checked"), and what
-- the count is. Start.antt has what a start gives.
use Rattle.std.specs.Prelude.{ℕ, suc, ◌-◌, ◌<◌, min, Bool, true, cond, List, [], ◌∷◌, ◌++◌, ◌↔◌, ◌⊎◌, ◌≡◌, ltb, ℤ, pos, length, take}
use Rattle.std.proofs.Math.Option.{Option, none, some}
use Rattle.refusals.specs.Answer.{refuses, gives}
use Rattle.refusals.specs.declared.Refusal.{Refusal}
use Rattle.refusals.specs.declared.Refusal.TheVariants.{Unreached, Full}
use Rattle.rule.specs.Rule.{legal, shaped, windows, LeastOver}
use Rattle.watch.specs.States.{start_refusal, initial, state_after, max_taken, LeadsTo, Reached}
use Rattle.watch.specs.declared.Watch.{Watch}
use Rattle.watch.specs.declared.step.Stepped.{Stepped}

-- a window was opened between two states
abbrev pub opened : (before after : Watch) → Bool
opened v w = ltb v.windows w.windows

-- What a step gives, for every state and every load.
pub record Steps (w : Watch) (load : ℤ) (r : Stepped) : Type 0 where
  -- 32: a state that no accepted start and steps lead to
  pub unreached : (r.answer ≡ refuses Unreached) ↔ (Reached w → ⊥)
  -- 33: 1,000,000 slots already taken
  pub full : (r.answer ≡ refuses Full) ↔ (Reached w × (w.taken ≡ max_taken))
  -- no other refusal is given, and a watch refused at a step keeps its state
  pub kept : (q : Refusal) → r.answer ≡ refuses q → ((q ≡ Unreached) ⊎ (q ≡ Full)) × (r.watch ≡ w)
  -- otherwise the loads that lead to the given state, followed by this one, lead to the state that
  -- comes back, and the answer says whether this one opened a window
  pub taken : (k : ℤ) (len h : ℕ) (loads : List ℤ) → LeadsTo k len h loads w → length loads < max_taken →
      LeadsTo k len h (loads ++ load ∷ []) r.watch × (r.answer ≡ gives (opened w r.watch))

-- A run steps load by load, up to the first that is refused. It gives the state then, how many
-- loads were taken, and the refusal, if any.
pub data Runs : (before : Watch) (loads : List ℤ) (after : Watch) (taken : ℕ) (refusal : Option Refusal) → Type 0 where
  done : {w : Watch} → Runs w [] w 0 none
  stops : {w : Watch} {x : ℤ} {xs : List ℤ} {q : Refusal} (r : Stepped) → Steps w x r →
      r.answer ≡ refuses q →
      Runs w (x ∷ xs) r.watch 0 (some q)
  continues : {w v : Watch} {x : ℤ} {xs : List ℤ} {b : Bool} {n : ℕ} {o : Option Refusal} (r : Stepped) → Steps w x r →
      r.answer ≡ gives b → Runs r.watch xs v n o → Runs w (x ∷ xs) v (suc n) o

-- From a state that loads lead to, a run takes as many loads as the limit allows. The earlier loads, followed by
-- these, lead to the state that comes back, and the run is refused, with 33, exactly when loads are left over.
pub record RunsToLimit (k : ℤ) (len h : ℕ) (loads xs : List ℤ) (v : Watch) (n : ℕ)
    (o : Option Refusal) : Type 0 where
  pub taken : n ≡ min (length xs) (max_taken - length loads)
  pub state : LeadsTo k len h (loads ++ take n xs) v
  pub refused : o ≡ cond (ltb n (length xs)) (some Full) none

abbrev pub RunsFromReached : Type 0
RunsFromReached =
    (k : ℤ) (len h : ℕ) (loads xs : List ℤ) (w v : Watch) (n : ℕ) (o : Option Refusal) → LeadsTo k len h loads w →
    Runs w xs v n o → RunsToLimit k len h loads xs v n o

-- After an accepted start and any loads the window count is the least number of windows that covers
-- them, over all legal marks.
abbrev pub CountIsLeast : Type 0
CountIsLeast = (k : ℤ) (len h : ℕ) (loads : List ℤ) → start_refusal len h ≡ none →
    LeastOver (λ ms. legal k (shaped len h) loads ms ≡ true) windows (state_after (initial k len h) loads).windows

-- Case L: len 4, loads 1, 0, 0, 1
abbrev pub case_l : (h : ℕ) → Watch
case_l h = state_after (initial (pos 0) 4 h) (pos 1 ∷ pos 0 ∷ pos 0 ∷ pos 1 ∷ [])

pub record CaseL : Type 0 where
  pub one_bridge : (case_l 1).windows ≡ 2
  pub two_bridges : (case_l 2).windows ≡ 1
