-- A plan that is drawn on window by window, for the loop of `pen::draw_rest`.
use Prim.Native.Nat.{ℕ, ◌-◌, ◌≤◌, ◌<◌, min}
use native.Mathlib.Omega.{arith}
use mathlib.Core.List.{List}
use mathlib.Core.Logic.{◌⊎◌, ⊎_elim}
use mathlib.Core.Path.{◌≡◌, refl, sym, ◌∙◌}
use borrow.Author.Tests.{eq-eqb}
use lib.Dec.{eqb}
use lib.ListN.{length, length-map}
use Rattle.requests.specs.Drawing.{left_of}
use Rattle.rule.specs.ClassCodes.{decode, decode_all}
use Rattle.rule.specs.declared.Shape.{Shape}
use Rattle.fast.proofs.DrawLoop.{drawn_on-done}
use Rattle.fast.specs.Pen.{drawn_on}
use Rattle.fast.specs.Rows.{Row}
use Rattle.fast.specs.declared.pen.Pen.{Pen}

module _ (shape : Shape) (classes : List ℕ) where
  abbrev draws : (w : ℕ) → Pen → (marks : List ℕ) → List ℕ
  draws = drawn_on shape (decode_all classes)

  done : (w : ℕ) (pen : Pen) (marks : List ℕ) → min (length classes) (length marks) ≤ pen.slot →
      draws w pen marks ≡ marks
  done w pen marks e =
      drawn_on-done shape (decode_all classes) w pen marks (omega (arith, e, length-map classes decode))

  -- `draw_on` has drawn all, or has stopped where a window opened: one of w windows fewer is left
  pub drawn-left : (w : ℕ) (pen : Pen) (marks : List ℕ) {n : ℕ} → length marks ≡ n →
      (min (length classes) n ≤ pen.slot) ⊎ (pen.mark ≡ 1) →
      draws (w - 1) pen marks ≡ draws (left_of w (eqb pen.mark 1)) pen marks
  drawn-left w pen marks {n} as_long ended = ⊎_elim finished opened ended
    where
      finished : min (length classes) n ≤ pen.slot →
          draws (w - 1) pen marks ≡ draws (left_of w (eqb pen.mark 1)) pen marks
      finished e =
          let all : min (length classes) (length marks) ≤ pen.slot = omega (arith, e, as_long) in
          done _ pen marks all ∙ sym (done _ pen marks all)

      opened : pen.mark ≡ 1 → draws (w - 1) pen marks ≡ draws (left_of w (eqb pen.mark 1)) pen marks
      opened e = rw (eq-eqb pen.mark 1 e) refl

  module _ (w : ℕ) (begun : Pen) (before : List ℕ) where
    -- to draw on, where the first of `left` windows has just opened, is to draw on from the start
    pub record RestToDraw (marks : List ℕ) (pen : Pen) (left : ℕ) : Type 0 where
      pub as_long : length marks ≡ length before
      pub whole : draws (left - 1) pen marks ≡ draws (w - 1) begun before

    pub rest-start : RestToDraw before begun w
    rest-start = record { as_long = refl; whole = refl }

    module _ {marks : List ℕ} (pen : Pen) {left : ℕ} (rest : RestToDraw marks pen left) where
      pub rest_end : min (length classes) (length before) ≤ pen.slot → marks ≡ draws (w - 1) begun before
      rest_end e = sym (done (left - 1) pen marks (omega (arith, e, rest.as_long))) ∙ rest.whole

      pub rest-less : (pen' : Pen) {n : ℕ} → n ≡ min (length classes) (length before) → pen.slot < n →
          (pen.slot < min (length classes) (length marks) → pen.slot < pen'.slot) → n - pen'.slot < n - pen.slot
      rest-less pen' is some further =
          let more : pen.slot < pen'.slot = further (omega (arith, rest.as_long)) in
          omega arith

      -- what is left is drawn until a window opens, by the row for one window fewer
      pub rest-step : {marks' row : List ℕ} (pen' : Pen) {left' : ℕ} → length marks' ≡ length marks →
          left' ≡ left - 1 → Row shape (decode_all classes) left' row →
          (min (length classes) (length marks) ≤ pen'.slot) ⊎ (pen'.mark ≡ 1) →
          ((w : ℕ) → Row shape (decode_all classes) w row →
          draws (left_of w (eqb pen'.mark 1)) pen' marks' ≡ draws w pen marks) →
          RestToDraw marks' pen' left'
      rest-step pen' {left'} as_long one counts ended drawn =
          record {
            as_long = as_long ∙ rest.as_long;
            whole = drawn-left left' pen' _ as_long ended ∙ drawn left' counts ∙ rw (← one) at rest.whole;
          }
