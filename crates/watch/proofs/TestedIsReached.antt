-- Each state that passes the tests of a step (`Tested`) is one that loads lead to: where a slot is
-- taken, some load makes it from a state with one slot fewer that passes them too.
use Prim.Native.Nat.{ℕ, zero, suc, ◌+◌, ◌*◌, ◌-◌, ◌≤◌, ◌<◌}
use native.Mathlib.Nat.{le_refl, eq-or-lt_of_le, le-mul_of_pos_right, lt_of_mul-lt-mul_right}
use native.Mathlib.Omega.{arith}
use mathlib.Core.Bool.{false, cond}
use mathlib.Core.List.{[], ◌∷◌, ◌++◌}
use mathlib.Core.Logic.{◌⊎◌, inl, inr, ⊎_elim}
use mathlib.Core.Path.{◌≡◌, refl, subst, sym, ◌∙◌}
use borrow.Author.Tests.{eq-eqb, ne_eqb}
use lib.Dec.{eqb}
use lib.IntN.{ℤ}
use lib.Signed.{≤ℤ_refl}
use mir.Syntax.{w32}
use mir.Val.{SFits}
use Rattle.rule.proofs.Sides.{le→under}
use Rattle.rule.specs.Rule.{over}
use Rattle.watch.proofs.LeadsTo.{taken-length, leads_to-snoc, after_over-opens, after_over-continues}
use Rattle.watch.proofs.LeadsTo.{after_under-ends, after_under-bridges, after-of-over, after-of-under}
use Rattle.watch.proofs.ReachedIsTested.{accepted-numbers, threshold}
use Rattle.facts.proofs.Naturals.{mul-split-last}
use Rattle.watch.specs.States.{initial, after, state_after, LeadsTo, Reached}
use Rattle.watch.specs.Tested.{highest, spacing, Idle, Active, Tested}
use Rattle.watch.specs.declared.Watch.{Watch}

-- a state with the settings of another
abbrev with_settings_of : Watch → (taken windows room spare : ℕ) → Watch
with_settings_of w t n r b = record { k = w.k; len = w.len; h = w.h; taken = t; windows = n; room = r; spare = b }

same_numbers : (w : Watch) {t n r b : ℕ} → (t ≡ w.taken) × (n ≡ w.windows) × (r ≡ w.room) × (b ≡ w.spare) →
    with_settings_of w t n r b ≡ w
same_numbers w (t, n, r, b) = rw (t, n, r, b)

-- where no slot is taken, the state is an accepted start
starts : (w : Watch) → w.taken ≡ 0 → Tested w → Reached w
unfolding state_after
starts w e s =
    let sized : 1 ≤ spacing w.len w.h = omega (arith, (accepted-numbers w.len w.h s.accepted).0) in
    let some = le-mul_of_pos_right w.windows sized in
    let state : initial w.k w.len w.h ≡ w =
    ⊎_elim (λ (i : Idle w). same_numbers w (omega arith)) (λ (a : Active w). absurd (omega arith)) s.phase in
    (w.k, w.len, w.h, [], record { accepted = s.accepted; fit = tt; few = omega arith; state = state })

highest-fits : SFits w32 highest
highest-fits = record { sfits = omega arith }

-- of the states with these settings and t slots taken, those that pass the tests are reached
abbrev Earlier : ℕ → Watch → Type 0
Earlier t w = (n r b : ℕ) → Tested (with_settings_of w t n r b) → Reached (with_settings_of w t n r b)

module _ {t : ℕ} {w : Watch} (e : w.taken ≡ suc t) (f : SFits w32 w.k) (s : Tested w) (earlier : Earlier t w) where
  abbrev least : ℕ
  least = spacing w.len w.h

  abbrev before : (windows room spare : ℕ) → Watch
  before n r b = with_settings_of w t n r b

  -- a load leads here from a state that passes the tests
  origin : (n r b : ℕ) (x : ℤ) → SFits w32 x → n ≤ w.windows → Idle (before n r b) ⊎ Active (before n r b) →
      after (before n r b) x ≡ w → Reached w
  origin n r b x fits few phase is =
      let tested : Tested (before n r b) =
      record {
        accepted = s.accepted;
        few = omega (arith, s.few);
        opens = ⊎_elim (λ none. inl (omega (arith, none))) inr s.opens;
        phase = phase;
      } in
      let (k, len, h, loads, l) = earlier n r b tested in
      let on = leads_to-snoc x fits (omega (arith, taken-length l, s.few)) l in
      (k, len, h, loads ++ x ∷ [], subst (LeadsTo k len h (loads ++ x ∷ [])) is on)

  -- the state after a load is this one: only an active window has bridges left
  lands : (n r b : ℕ) → (n ≡ w.windows) × (r ≡ w.room) × (1 ≤ w.room → b ≡ w.spare) →
      with_settings_of w (t + 1) n r (cond (eqb r 0) 0 b) ≡ w
  lands n r b (opened, slots, bridges) =
      ⊎_elim (λ (i : Idle w). rw (eq-eqb r 0 (omega arith)) (same_numbers w (omega arith)))
      (λ (a : Active w). rw (ne_eqb r 0 (omega arith)) (same_numbers w (omega (arith, bridges a.slots.0))))
      s.phase

  under : over w.k w.k ≡ false
  under = le→under (≤ℤ_refl w.k)

  -- an over load opened a window, which may be full at once
  opened : 1 ≤ w.windows → (w.windows - 1) * least ≤ t → w.len - 1 ≡ w.room →
      (1 ≤ w.room → w.h ≡ w.spare) → Reached w
  opened some each slots bridges =
      origin (w.windows - 1) 0 0 highest highest-fits (omega arith) (inl (omega arith))
      (after-of-over _ _ (threshold s some) ∙ after_over-opens _ refl
      ∙ lands (w.windows - 1 + 1) (w.len - 1) w.h (omega arith, slots, bridges))

  module _ (i : Idle w) where
    -- an under load came with no bridge left
    unbridged : (room : ℕ) → Idle (before w.windows room 0) ⊎ Active (before w.windows room 0) → Reached w
    unbridged room phase =
        origin w.windows room 0 w.k f (le_refl _) phase
        (after-of-under _ _ under ∙ after_under-ends _ refl ∙ lands w.windows 0 0 (omega arith))

    -- where the slots taken are just enough for the windows opened, the under load ended the last one
    ended : 1 ≤ w.windows → (w.windows - 1) * least + least ≡ suc t → w.h + 2 ≤ w.len → Reached w
    ended some all wide =
        let used : w.len - (w.len - (w.h + 1)) ≡ w.h + 1 = omega arith in
        unbridged (w.len - (w.h + 1)) (inr (omega (arith, used)))

    idle : Reached w
    idle = ⊎_elim latest (λ each. unbridged 0 (inl (omega arith))) (eq-or-lt_of_le i.each)
      where
        latest : w.windows * least ≡ w.taken → Reached w
        latest all =
            let some = lt_of_mul-lt-mul_right least {m = 0} {n = w.windows} (omega arith) in
            let all = sym (mul-split-last w.windows least some) ∙ all ∙ e in
            let (sized, few, wide) = accepted-numbers w.len w.h s.accepted in
            ⊎_elim (λ one. opened some (omega arith) (omega arith) (omega arith)) (λ two. ended some all (wide two))
            (eq-or-lt_of_le sized)

  module _ (a : Active w) where
    module _ (later : w.room + 1 < w.len) where
      slot : w.len - w.room ≡ w.len - (w.room + 1) + 1
      slot = omega arith

      -- an over load used a slot of the window
      over-continued : (w.h - w.spare) + 1 < w.len - w.room → Reached w
      over-continued more =
          origin w.windows (w.room + 1) w.spare highest highest-fits (le_refl _) (inr (omega (arith, slot, a)))
          (after-of-over _ _ (threshold s a.opened) ∙ after_over-continues _ (omega arith)
          ∙ lands w.windows (w.room + 1 - 1) w.spare (omega arith))

      -- each slot of the window after its first was a bridge, and so was the last slot taken
      bridged : (w.h - w.spare) + 1 ≡ w.len - w.room → Reached w
      bridged same =
          let bridge : w.h - w.spare ≡ w.h - (w.spare + 1) + 1 = omega arith in
          origin w.windows (w.room + 1) (w.spare + 1) w.k f (le_refl _) (inr (omega (arith, slot, bridge, a)))
          (after-of-under _ _ under ∙ after_under-bridges _ (omega arith)
          ∙ lands w.windows (w.room + 1 - 1) (w.spare + 1 - 1) (omega arith))

    active : Reached w
    active = ⊎_elim first later (eq-or-lt_of_le (omega arith))
      where
        first : w.room + 1 ≡ w.len → Reached w
        first one = opened a.opened (omega (arith, a.each)) (omega arith) (omega arith)

        later : w.room + 1 < w.len → Reached w
        later more = ⊎_elim (bridged more) (over-continued more) (eq-or-lt_of_le (omega arith))

from_start : (t : ℕ) (w : Watch) → w.taken ≡ t → SFits w32 w.k → Tested w → Reached w
from_start zero w e f s = starts w e s
from_start (suc t) w e f s =
    let earlier : Earlier t w = λ n r b. from_start t (with_settings_of w t n r b) refl f in
    ⊎_elim (idle e f s earlier) (active e f s earlier) s.phase

pub tested→reached : (w : Watch) → SFits w32 w.k → Tested w → Reached w
tested→reached w f s = from_start w.taken w refl f s
