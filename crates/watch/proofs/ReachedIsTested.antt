-- Each state that loads lead to passes the tests of a step (`Tested`). TestedIsReached.antt has the converse.
use Prim.Native.Nat.{ℕ, zero, suc, ◌+◌, ◌*◌, ◌-◌, ◌≤◌, ◌<◌}
use native.Mathlib.Nat.{eq-zero-or-pos}
use native.Mathlib.Omega.{arith}
use mathlib.Core.Bool.{Bool, true, false}
use mathlib.Core.List.{List, [], ◌∷◌}
use mathlib.Core.Logic.{◌⊎◌, inl, inr, ⊎_elim}
use mathlib.Core.Option.{none}
use mathlib.Core.Path.{◌≡◌, refl, subst}
use borrow.Author.Tests.{ne_eqb}
use lib.Dec.{le→leb}
use lib.IntN.{ℤ, pos, negsuc}
use lib.ListN.{length}
use lib.Signed.{◌≤ℤ◌, le_z_yes}
use mir.Syntax.{w32}
use mir.Val.{SFits}
use Rattle.facts.proofs.Naturals.{sub-pred, mul-split-last}
use Rattle.rule.proofs.Sides.{over-mono}
use Rattle.refusals.proofs.Table.{first-none-row}
use Rattle.settings.proofs.Accepted.{wrong_length-false, bridges-le}
use Rattle.settings.specs.Refusals.{limit, shape_refusal}
use Rattle.rule.specs.Rule.{over, shaped}
use Rattle.watch.proofs.LeadsTo.{after-taken, after_over-opens, after_over-continues, after_under-ends}
use Rattle.watch.proofs.LeadsTo.{after_under-bridges, after-of-over, after-of-under}
use Rattle.watch.specs.States.{start_refusal, initial, after_slot, after, state_after, max_taken, FitLoads}
use Rattle.watch.specs.States.{Reached}
use Rattle.watch.specs.Tested.{highest, spacing, Idle, Active, Tested}
use Rattle.watch.specs.declared.Watch.{Watch}

-- what an accepted start says of the numbers of its shape
pub accepted-numbers : (len h : ℕ) → start_refusal len h ≡ none →
    (1 ≤ len) × (len ≤ limit) × (2 ≤ len → h + 2 ≤ len)
unfolding shape_refusal
accepted-numbers len h e =
    let (length, e) = first-none-row _ _ _ e in
    let (bridges, e) = first-none-row _ _ _ e in
    let (some, few) = (wrong_length-false (shaped len h) limit).0 length in
    (some, few, λ two. omega (arith, bridges-le (shaped len h) bridges))

initial-tested : (k : ℤ) (len h : ℕ) → start_refusal len h ≡ none → Tested (initial k len h)
initial-tested k len h e = record { accepted = e; few = omega arith; opens = inl refl; phase = inl (omega arith) }

load-le-highest : (x : ℤ) → SFits w32 x → x ≤ℤ highest
load-le-highest (pos n) f = let bounded : n < 2147483648 = f.sfits in le_z_yes (le→leb n 2147483647 (omega arith))
load-le-highest (negsuc n) f = le_z_yes tt

-- where a window was opened, there are loads above the threshold
pub threshold : {w : Watch} → Tested w → 1 ≤ w.windows → over w.k highest ≡ true
threshold s some = ⊎_elim (λ e. absurd (omega (arith, e))) (λ o. o) s.opens

module _ {w : Watch} (s : Tested w) (few : w.taken < max_taken) where
  abbrev least : ℕ
  least = spacing w.len w.h

  -- no window is active after the slot
  ended : (n : ℕ) → (n ≡ 0) ⊎ (over w.k highest ≡ true) → n * least ≤ w.taken + 1 → Tested (after_slot w n 0 0)
  ended n opens each = record { accepted = s.accepted; few = omega arith; opens = opens; phase = inl (omega arith) }

  -- the n-th window has used the slot, and is active after it unless it is full
  abbrev Uses : (n room spare : ℕ) → Type 0
  Uses n room spare =
      (1 ≤ n) × (spare ≤ w.h) × ((w.h - spare) < (w.len - room)) × ((n - 1) * least + (w.len - room) ≤ w.taken + 1)

  used : (n room spare : ℕ) → over w.k highest ≡ true → Uses n room spare → Tested (after_slot w n room spare)
  used n zero spare o u = ended n (inr o) (omega (arith, mul-split-last n least u.0))
  used n (suc room) spare o u =
      rw (ne_eqb (suc room) 0 (omega arith))
      record { accepted = s.accepted; few = omega arith; opens = inr o; phase = inr (omega arith) }

  module _ (x : ℤ) where
    -- an over load opens a window where none is active
    opening : over w.k x ≡ true → over w.k highest ≡ true → Idle w → Tested (after w x)
    opening e o i =
        let (some, few, more) = accepted-numbers w.len w.h s.accepted in
        let before : w.windows + 1 - 1 ≡ w.windows = omega arith in
        rw (after-of-over w x e, after_over-opens w i.slots)
        (used (w.windows + 1) (w.len - 1) w.h o (rw before (omega (arith, i.each))))

    -- an under load leaves no window active where none was
    resting : over w.k x ≡ false → Idle w → Tested (after w x)
    resting e i =
        rw (after-of-under w x e, after_under-ends w i.bridges)
        (ended w.windows s.opens (omega (arith, i.each)))

    module _ (a : Active w) where
      slot : w.len - (w.room - 1) ≡ (w.len - w.room) + 1
      slot = (sub-pred w.len w.room (omega arith)).1

      over-continues : over w.k x ≡ true → Tested (after w x)
      over-continues e =
          rw (after-of-over w x e, after_over-continues w a.slots.0)
          (used w.windows (w.room - 1) w.spare (threshold s a.opened) (omega (arith, slot, a)))

      ending : over w.k x ≡ false → w.spare ≡ 0 → Tested (after w x)
      ending e z =
          rw (after-of-under w x e, after_under-ends w z)
          (ended w.windows s.opens (omega (arith, mul-split-last w.windows least a.opened)))

      bridging : over w.k x ≡ false → 1 ≤ w.spare → Tested (after w x)
      bridging e z =
          let bridge = sub-pred w.h w.spare (omega arith) in
          rw (after-of-under w x e, after_under-bridges w z)
          (used w.windows (w.room - 1) (w.spare - 1) (threshold s a.opened) (omega (arith, slot, bridge, a)))

    after-tested : SFits w32 x → Tested (after w x)
    after-tested f = by (over w.k x) refl
      where
        by : (b : Bool) → over w.k x ≡ b → Tested (after w x)
        by true e = ⊎_elim (opening e (over-mono w.k (load-le-highest x f) e)) (λ a. over-continues a e) s.phase
        by false e =
            ⊎_elim (resting e) (λ a. ⊎_elim (ending a e) (bridging a e) (eq-zero-or-pos w.spare)) s.phase

state_after-tested : (loads : List ℤ) {w : Watch} → FitLoads loads → w.taken + length loads ≤ max_taken → Tested w →
    Tested (state_after w loads)
unfolding state_after
state_after-tested [] fit few s = s
state_after-tested (x ∷ xs) {w} (one, more) few s =
    state_after-tested xs more (omega (arith, after-taken w x)) (after-tested s (omega arith) x one)

pub reached→tested : (w : Watch) → Reached w → Tested w
reached→tested w (k, len, h, loads, l) =
    subst Tested l.state
    (state_after-tested loads l.fit (omega (arith, l.few)) (initial-tested k len h l.accepted))
