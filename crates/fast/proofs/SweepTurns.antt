-- What the functions that `sweep::sweep` calls gave in a turn, taken together: one window more before, and one fewer
-- after.
use Prim.Native.Nat.{ℕ, suc, ◌+◌, ◌-◌, ◌≤◌, ◌<◌, min}
use native.Mathlib.Omega.{arith}
use mathlib.Core.Bool.{Bool, false}
use mathlib.Core.List.{List, reverse}
use mathlib.Core.Path.{◌≡◌, ap, ◌∙◌}
use lib.ListN.{length, replicate, length-map, length-reverse}
use Rattle.rule.specs.ClassCodes.{decode, decode_all}
use Rattle.rule.specs.Ranges.{Class}
use Rattle.rule.specs.declared.Shape.{Shape}
use Rattle.settings.specs.Refusals.{limit, places}
use Rattle.settings.specs.declared.Settings.{Settings}
use Rattle.fast.proofs.FillLoop.{Repeats, repeats-of, ring-next}
use Rattle.fast.proofs.ReachLoop.{within}
use Rattle.fast.proofs.SpareReach.{reaches-with}
use Rattle.fast.proofs.SweepLoop.{Sweeping, Within, GapsAfter, FurtherAfter, sweep-start, sweep-turn}
use Rattle.fast.specs.Ring.{ring_rows, row_at}
use Rattle.fast.specs.Rows.{Row, Ends, LacksFrom}
use Rattle.fast.specs.Sweep.{ReachesWith, FreeSlots}
use Rattle.fast.specs.declared.ring.RowRing.{RowRing}
use Rattle.fast.specs.declared.slots.Slots.{Slots}

-- the rows with as many windows left as before a turn, and with one fewer
pub turn-rows : (slots : Slots) (was ready used : RowRing) {row next : List ℕ} → was.slots.now ≡ slots →
    ready.slots.now ≡ was.slots.now → ready.left ≡ was.left → ready.last < ready.left - 1 + ring_rows →
    used.slots.now ≡ ready.slots.now → used.left ≡ ready.left - 1 → used.last ≡ ready.last →
    row ≡ row_at ready.rows (min ready.left ready.last) → next ≡ row_at used.rows (min used.left used.last) →
    Row slots.settings.shape (decode_all slots.classes.now) was.left row
    × Row slots.settings.shape (decode_all slots.classes.now) used.left next
turn-rows slots was ready used same kept left recent kept-too fewer last row next = (
  rw (← left) (ring-next ready slots (kept ∙ same) (omega arith) row),
  ring-next used slots (kept-too ∙ kept ∙ same) (omega arith) next,
)

module _ (slots before : Slots) (whole : Bool) (as-set : before.settings ≡ slots.settings)
    (turned : decode_all before.classes.now ≡ reverse (decode_all slots.classes.now)) where
  abbrev s : Settings
  s = slots.settings

  abbrev cs : List Class
  cs = decode_all slots.classes.now

  abbrev w : ℕ
  w = s.windows.most

  same-shape : before.settings.shape ≡ s.shape
  same-shape = ap (λ s. s.shape) as-set

  few : length cs ≤ limit
  few = omega (arith, slots.few, length-map slots.classes.now decode)

  pub as-long : length before.classes.now ≡ length slots.classes.now
  as-long =
      omega (
        arith,
        ap length turned,
        length-reverse cs,
        length-map slots.classes.now decode,
        length-map before.classes.now decode,
      )

  turned-lacking : LacksFrom s.shape.settle (reverse cs) before.lacks
  turned-lacking = rw (same-shape, turned) at before.lacking

  module _ {free : List Bool} (frees : FreeSlots s.shape.settle cs before.lacks slots.lacks free) where
    pub sweep-begun : {side row : List ℕ} {gaps : List Bool} (ring : RowRing) →
        ((shape : Shape) → Row shape (decode_all before.classes.now) 0 side) → ring.slots.now ≡ slots →
        ring.left ≡ w → ring.last ≤ ring.left → row ≡ row_at ring.rows (min ring.left ring.last) →
        GapsAfter s slots.classes.now whole free side row (replicate limit whole) gaps (length slots.classes.now) →
        Sweeping s slots.classes.now whole side (replicate places 0) (replicate places 0) gaps ring.left
    sweep-begun ring first same all l here found =
        rw all
        (sweep-start s slots.classes.now whole few turned-lacking slots.lacking frees (rw turned at (first s.shape))
        (rw all at (ring-next ring slots same (omega arith) here)) found)

    module _ {side far bridged : List ℕ} {gaps : List Bool} {left : ℕ}
        (now : Sweeping s slots.classes.now whole side far bridged gaps left) (more : 0 < left)
        {starts side' : List ℕ}
        (begins : (w : ℕ) → Row before.settings.shape (decode_all before.classes.now) w side →
        Ends before.settings.shape (decode_all before.classes.now) w starts)
        (makes : (w : ℕ) → Ends before.settings.shape (decode_all before.classes.now) w starts →
        Row before.settings.shape (decode_all before.classes.now) (suc w) side') where
      begin : Ends s.shape (reverse cs) (w - left) starts
      begin = (rw (same-shape, turned) at begins) (w - left) now.side

      made : Row s.shape (reverse cs) (suc (w - left)) side'
      made = (rw (same-shape, turned) at makes) (w - left) begin

      pub turn-repeats : {left' : ℕ} → left' ≡ left - 1 → side' ≡ side → Repeats s.shape (reverse cs) (w - left')
      turn-repeats {left'} fewer same =
          let next : w - left' ≡ suc (w - left) = omega (arith, now.within) in
          rw next (repeats-of s.shape (reverse cs) now.side made same)

      pub sweep-turned : {spare ends row next : List ℕ} {left' : ℕ} → left' ≡ left - 1 →
          Within s slots.classes.now whole spare (length slots.classes.now) →
          (whole ≡ false → ReachesWith s.shape 1 cs spare) →
          Row s.shape cs left row × Row s.shape cs left' next →
          ((w : ℕ) → Row s.shape cs w next → Ends s.shape cs w ends) →
          (far' bridged' : List ℕ) (gaps' : List Bool) →
          FurtherAfter s slots.classes.now whole slots.reach starts ends row far far' (length slots.classes.now) →
          FurtherAfter s slots.classes.now whole spare starts ends row bridged bridged'
          (length slots.classes.now) →
          GapsAfter s slots.classes.now whole free side' next gaps gaps' (length slots.classes.now) →
          Sweeping s slots.classes.now whole side' far' bridged' gaps' left'
      sweep-turned {left' = left'} fewer spare-within spared (counts, after) ends far' bridged' gaps' far-found bridged-found
          gaps-found =
          let counts-next = rw fewer at after in
          rw fewer
          (sweep-turn s slots.classes.now whole few turned-lacking slots.lacking frees now more (within slots)
          (reaches-with s.shape 0 (omega arith) slots.reaches) spare-within spared begin (ends (left - 1) counts-next) counts
          counts-next far' bridged' gaps' made far-found bridged-found gaps-found)
