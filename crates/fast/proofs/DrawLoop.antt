-- A plan that is drawn on until a window opens, for the loop of `pen::draw_on`.
use Prim.Native.Nat.{ℕ, ◌+◌, ◌-◌, ◌≤◌, ◌<◌, min}
use native.Mathlib.Nat.{le_refl}
use native.Mathlib.Numerals.{add-one}
use native.Mathlib.Omega.{arith}
use mathlib.Core.Bool.{cond, not}
use mathlib.Core.List.{List, [], ◌∷◌}
use mathlib.Core.Path.{◌≡◌, refl, sym, ◌∙◌}
use borrow.Author.Tests.{ne_eqb}
use lib.Dec.{eqb}
use lib.ListN.{length, drop, get_or, set, length-drop, length-map, length-set}
use Rattle.facts.proofs.Lists.{sets-full}
use Rattle.requests.proofs.DrawnPlan.{drawn_from-length}
use Rattle.requests.specs.Best.{best_after}
use Rattle.requests.specs.Drawing.{closed_mark, next_mark, left_of, drawn_from}
use Rattle.requests.specs.Solution.{sentinel}
use Rattle.rule.specs.ClassCodes.{decode, decode_all}
use Rattle.rule.specs.Ranges.{Class}
use Rattle.rule.specs.declared.Shape.{Shape}
use Rattle.sides.proofs.Lacks.{none-lacking}
use Rattle.fast.proofs.FromSlot.{from-slot}
use Rattle.fast.specs.Pen.{drawn_on}
use Rattle.fast.specs.Rows.{Row, LacksFrom}
use Rattle.fast.specs.declared.pen.Pen.{Pen}

-- a count that is masked where slots are lacking is what comes after a window
pub unless-lacking-after : {shape : Shape} {cs : List Class} {w : ℕ} {lacks row : List ℕ} →
    LacksFrom shape.settle cs lacks → Row shape cs w row → (i : ℕ) → i ≤ length cs →
    cond (eqb (get_or lacks i 0) 0) (get_or row i 0) sentinel ≡ best_after sentinel shape (drop i cs) w
unless-lacking-after lacking counts i e = rw (none-lacking (lacking.counts i e), counts.counts i e) refl

-- nothing is drawn past the last slot, or the last mark
pub drawn_on-done : (shape : Shape) (cs : List Class) (w : ℕ) (pen : Pen) (marks : List ℕ) →
    min (length cs) (length marks) ≤ pen.slot → drawn_on shape cs w pen marks ≡ marks
drawn_on-done shape cs w pen marks e =
    let rest = drawn_from sentinel shape (drop pen.slot cs) [] pen.mark w pen.covered in
    let few : length rest ≡ length cs - pen.slot =
    drawn_from-length sentinel shape (drop pen.slot cs) [] pen.mark w pen.covered
    ∙ length-drop pen.slot cs in
    sets-full rest marks pen.slot (omega (arith, e, few))

abbrev pub pen_at : (i mark covered : ℕ) → Pen
pen_at i mark covered = record { slot = i; mark = mark; covered = covered }

module _ (shape : Shape) (classes row : List ℕ) (start : Pen) (before : List ℕ) where
  abbrev cs : List Class
  cs = decode_all classes

  -- to draw on, with these windows left, is to draw on from the start
  abbrev Whole : (left : ℕ → ℕ) → Pen → (marks : List ℕ) → Type 0
  Whole left pen marks =
      (w : ℕ) → Row shape cs w row → drawn_on shape cs (left w) pen marks ≡ drawn_on shape cs w start before

  -- no mark drawn so far has opened a window
  pub record LeftToDraw (pen : Pen) (marks : List ℕ) : Type 0 where
    pub as_long : length marks ≡ length before
    pub begun : start.slot ≤ pen.slot
    pub whole : Whole (λ w. w) pen marks

  pub draw-start : LeftToDraw start before
  draw-start = record { as_long = refl; begun = le_refl _; whole = λ w counts. refl }

  module _ (marks : List ℕ) (i mark c n : ℕ) (is : n ≡ min (length classes) (length before))
      (left : LeftToDraw (pen_at i mark c) marks) where
    -- the end, from where on nothing is drawn
    pub draw-end : n ≤ i → Whole (λ w. left_of w (eqb mark 1)) (pen_at n mark c) marks
    draw-end e w counts =
        let done : (k w : ℕ) → n ≤ k → drawn_on shape cs w (pen_at k mark c) marks ≡ marks =
        λ k w e.
        drawn_on-done shape cs w (pen_at k mark c) marks
        (omega (arith, e, is, left.as_long, length-map classes decode)) in
        done n (left_of w (eqb mark 1)) (le_refl n) ∙ sym (done i w e) ∙ left.whole w counts

    module _ (there : i < n) {lacks : List ℕ} (lacking : LacksFrom shape.settle cs lacks) {needed closed next c' : ℕ}
        (need : needed ≡ cond (eqb (get_or lacks i 0) 0) (get_or row i 0) sentinel)
        (closes : closed ≡ closed_mark mark c needed) (marks-it : next ≡ next_mark closed (decode (get_or classes i 0)))
        (short : c' ≡ left_of c (not (eqb next 0))) where
      inside : i < length cs
      inside = omega (arith, there, is, length-map classes decode)

      drawn-next : (w : ℕ) → Row shape cs w row → drawn_from sentinel shape (drop i cs) [] mark w c
          ≡ next ∷ drawn_from sentinel shape (drop (i + 1) cs) [] next (left_of w (eqb next 1)) c'
      unfolding drawn_from
      drawn-next w counts =
          let needs : needed ≡ best_after sentinel shape (drop i cs) w =
          need ∙ unless-lacking-after lacking counts i (omega (arith, inside)) in
          let slot = from-slot classes i (omega (arith, there, is)) in
          rw (slot, short, marks-it, closes, rw slot at needs) refl

      -- the mark of slot i is drawn, and opens a window or not
      pub draw-step : Whole (λ w. left_of w (eqb next 1)) (pen_at (i + 1) next c') (set marks i next)
      draw-step w counts = rw add-one (rw (drawn-next w counts, add-one) at (left.whole w counts))

      pub draw-again : (next ≡ 1 → ⊥) → LeftToDraw (pen_at (i + 1) next c') (set marks i next)
      draw-again shut =
          record {
            as_long = length-set marks i next ∙ left.as_long;
            begun = omega (arith, left.begun);
            whole = rw (ne_eqb next 1 shut) at draw-step;
          }
