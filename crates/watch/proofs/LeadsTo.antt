-- States and the loads that lead to them: what one load does to a state, and one load after others.
use Prim.Native.Nat.{ℕ, ◌+◌, ◌-◌, ◌≤◌, ◌<◌}
use native.Mathlib.Omega.{arith}
use mathlib.Core.Bool.{true, false}
use mathlib.Core.List.{List, [], ◌∷◌, ◌++◌}
use mathlib.Core.Path.{◌≡◌, refl, ap, ◌∙◌}
use borrow.Author.Tests.{eq-eqb, ne_eqb}
use lib.Dec.{eqb}
use lib.IntN.{ℤ}
use lib.ListN.{length, length-append}
use mir.Syntax.{w32}
use mir.Val.{SFits}
use Rattle.facts.proofs.Tests.{cond_cases}
use Rattle.rule.specs.Rule.{over}
use Rattle.watch.specs.States.{initial, after_slot, after_over, after_under, after, state_after, max_taken, FitLoads}
use Rattle.watch.specs.States.{LeadsTo}
use Rattle.watch.specs.declared.Watch.{Watch}

-- one load after others
state_after-snoc : (w : Watch) (loads : List ℤ) (x : ℤ) → state_after w (loads ++ x ∷ []) ≡ after (state_after w loads) x
unfolding state_after
state_after-snoc w [] x = refl
state_after-snoc w (y ∷ ys) x = state_after-snoc (after w y) ys x

pub after-taken : (w : Watch) (x : ℤ) → (after w x).taken ≡ w.taken + 1
unfolding after after_over after_under
after-taken w x =
    cond_cases P (over w.k x) (cond_cases P (eqb w.room 0) refl refl) (cond_cases P (eqb w.spare 0) refl refl)
  where
    P : Watch → Type 0
    P v = v.taken ≡ w.taken + 1

state_after-taken : (loads : List ℤ) (w : Watch) → (state_after w loads).taken ≡ w.taken + length loads
unfolding state_after
state_after-taken [] w = omega arith
state_after-taken (x ∷ xs) w = omega (arith, state_after-taken xs (after w x), after-taken w x)

-- as many slots are taken as there are loads
pub taken-length : {k : ℤ} {len h : ℕ} {loads : List ℤ} {w : Watch} → LeadsTo k len h loads w →
    w.taken ≡ length loads
taken-length {k} {len} {h} {loads} l = rw (← l.state) (omega (arith, state_after-taken loads (initial k len h)))

fit_loads-snoc : (loads : List ℤ) {x : ℤ} → SFits w32 x → FitLoads loads → FitLoads (loads ++ x ∷ [])
fit_loads-snoc [] f all = (f, tt)
fit_loads-snoc (y ∷ ys) f (one, more) = (one, fit_loads-snoc ys f more)

-- one load more, where the limit is not yet reached
pub leads_to-snoc : {k : ℤ} {len h : ℕ} {loads : List ℤ} {w : Watch} (x : ℤ) → SFits w32 x →
    length loads < max_taken →
    LeadsTo k len h loads w → LeadsTo k len h (loads ++ x ∷ []) (after w x)
leads_to-snoc {k} {len} {h} {loads} x f few l =
    record {
      accepted = l.accepted;
      fit = fit_loads-snoc loads f l.fit;
      few = omega (arith, length-append loads (x ∷ []));
      state = state_after-snoc (initial k len h) loads x ∙ ap (λ v. after v x) l.state;
    }

-- what a slot does to a state, by whether its load is over or under and by what is left to the active window
module _ (w : Watch) where
  pub after_over-opens : w.room ≡ 0 → after_over w ≡ after_slot w (w.windows + 1) (w.len - 1) w.h
  unfolding after_over
  after_over-opens e = rw (eq-eqb w.room 0 e)

  pub after_over-continues : 1 ≤ w.room → after_over w ≡ after_slot w w.windows (w.room - 1) w.spare
  unfolding after_over
  after_over-continues e = rw (ne_eqb w.room 0 (omega arith))

  pub after_under-ends : w.spare ≡ 0 → after_under w ≡ after_slot w w.windows 0 0
  unfolding after_under
  after_under-ends e = rw (eq-eqb w.spare 0 e)

  pub after_under-bridges : 1 ≤ w.spare → after_under w ≡ after_slot w w.windows (w.room - 1) (w.spare - 1)
  unfolding after_under
  after_under-bridges e = rw (ne_eqb w.spare 0 (omega arith))

  module _ (x : ℤ) where
    pub after-of-over : over w.k x ≡ true → after w x ≡ after_over w
    unfolding after
    after-of-over o = rw o

    pub after-of-under : over w.k x ≡ false → after w x ≡ after_under w
    unfolding after
    after-of-under u = rw u
