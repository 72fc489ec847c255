-- `fast::ring::fill` meets its contract: each turn makes a row (`FillLoop`).
use Prim.Native.Nat.{◌+◌, ◌≤◌}
use native.Mathlib.Nat.{le_refl}
use native.Mathlib.Omega.{arith}
use mathlib.Core.Logic.{inl, inr}
use mathlib.Core.Path.{◌≡◌, refl, sym, ◌∙◌}
use Rattle.std.specs.Cmp.Lexicographic.{same_text}
use Rattle.fast.proofs.FillLoop.{fill_start, fill-turn, fill-repeats, fill-ring, fill-counted}
use Rattle.fast.proofs.ring.fill.Goals as goal

pub loop-v-init : goal.loop-v-init
loop-v-init c = fill_start _ _ c.args.rows.now (omega arith) (c.first_row-row.ensures _)

pub loop-v-preserved : goal.loop-v-preserved
loop-v-preserved c =
    let made = c.row_of-next.ensures _ (c.ends_of.ensures _ c.loop-v.invariant.now) in
    fill-turn _ _ c.loop-v.found c.loop-v.invariant made c.place.ensures c.or_found-found.ensures

pub returns-then-eq : goal.returns-then-eq
returns-then-eq c =
    let slots = c.args.slots.now in
    let made = c.row_of-next.ensures _ (c.ends_of.ensures _ c.loop-v.invariant.now) in
    let within : c.loop-v.v + 1 ≤ c.args.w = omega arith in
    let end = fill-turn _ _ c.loop-v.found c.loop-v.invariant made c.place.ensures c.or_found-found.ensures in
    let ended = inr (fill-repeats _ _ c.loop-v.found c.loop-v.invariant made (same_text _ _ (sym c.if-eq.true ∙ c.eq.ensures))) in
    record {
      last = within;
      ring = fill-ring slots.settings _ _ end within ended;
      counted = fill-counted slots.settings _ _ end within ended;
    }

pub returns : goal.returns
returns c =
    let slots = c.args.slots.now in
    let full : c.loop-v.v ≡ c.args.w = omega arith in
    let end = rw full at c.loop-v.invariant in
    record {
      last = le_refl _;
      ring = fill-ring slots.settings _ _ end (le_refl _) (inl refl);
      counted = fill-counted slots.settings _ _ end (le_refl _) (inl refl);
    }
