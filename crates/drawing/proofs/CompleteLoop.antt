-- A plan drawn from the first slot on (the loop of `drawing::complete`).
use Prim.Native.Nat.{ℕ, ◌+◌, ◌-◌, ◌≤◌, ◌<◌, min}
use native.Mathlib.Nat.{add-zero}
use native.Mathlib.Numerals.{add-one}
use native.Mathlib.Omega.{arith}
use mathlib.Core.Bool.{Bool, true, false, not}
use mathlib.Core.List.{List, ◌∷◌}
use mathlib.Core.Path.{◌≡◌, refl, sym, ap, ◌∙◌}
use borrow.Author.Tests.{ne_eqb, eqb-true, eqb-false}
use lib.Dec.{eqb}
use lib.ListN.{length, take, drop, get_or, set, length-drop, length-map, length-set, length-take}
use lib.Seq.{get_or-take, get_or-drop, drop-drop, sets}
use Rattle.facts.proofs.Lists.{sets-full}
use Rattle.least.proofs.InsideLoop.{from-slot}
use Rattle.least.specs.Rows.{RowAfter}
use Rattle.requests.proofs.DrawnPlan.{closed-outside, drawn_from-length}
use Rattle.requests.specs.Best.{best_after}
use Rattle.requests.specs.Drawing.{closed_mark, next_mark, left_of, drawn_from}
use Rattle.requests.specs.Solution.{sentinel, completed}
use Rattle.rule.specs.ClassCodes.{decode, decode_all}
use Rattle.rule.specs.Ranges.{Class}
use Rattle.settings.specs.Refusals.{limit}
use Rattle.settings.specs.declared.Settings.{Settings}

module _ (s : Settings) (classes front before : List ℕ) where
  abbrev cs : List Class
  cs = decode_all (take limit classes)

  -- to draw the slots from i on is to draw all of them
  pub record LeftToDraw (marks : List ℕ) (mark w c : ℕ) (row : List ℕ) (i : ℕ) : Type 0 where
    pub as_long : length marks ≡ length before
    pub by_row : (mark ≡ 0 → ⊥) → RowAfter s cs (w + 1) row
    pub whole : sets marks i (drawn_from sentinel s.shape (drop i cs) (drop i front) mark w c)
        ≡ sets before 0 (completed s cs front)

  pub complete-start : (row : List ℕ) → LeftToDraw before 0 s.windows.most s.covered.most row 0
  complete-start row = record { as_long = refl; by_row = λ covered. absurd (covered refl); whole = refl }

  module _ (marks : List ℕ) (mark w c : ℕ) (row : List ℕ) (i n : ℕ)
      (is : n ≡ min (min (length classes) (length before)) limit) (left : LeftToDraw marks mark w c row i) where
    slots : length cs ≡ min limit (length classes)
    slots = length-map (take limit classes) decode ∙ length-take limit classes

    pub complete-end : n ≤ i → marks ≡ sets before 0 (completed s cs front)
    complete-end e =
        let rest = drawn_from sentinel s.shape (drop i cs) (drop i front) mark w c in
        let few : length rest ≡ length cs - i =
        drawn_from-length sentinel s.shape (drop i cs) (drop i front) mark w c ∙ length-drop i cs in
        sym (sets-full rest marks i (omega (arith, e, is, left.as_long, few, slots))) ∙ left.whole

    module _ (there : i < n) where
      abbrev class : Class
      class = decode (get_or classes i 0)

      next-slot : drop i cs ≡ class ∷ drop (i + 1) cs
      next-slot =
          from-slot (take limit classes) i (omega (arith, there, is, length-take limit classes))
          ∙ ap (λ m. decode m ∷ drop (i + 1) cs) (get_or-take limit classes i 0 (omega (arith, there, is)))

      -- what the slots from i on need to cover
      abbrev needed : ℕ
      needed = best_after sentinel s.shape (class ∷ drop (i + 1) cs) w

      -- what the row has of it, which is the same in a window; outside one, none closes
      closes : {closed : ℕ} → closed ≡ closed_mark mark c (get_or row i 0) → closed ≡ closed_mark mark c needed
      closes e = e ∙ by (eqb mark 0) refl
        where
          by : (outside : Bool) → eqb mark 0 ≡ outside → closed_mark mark c (get_or row i 0) ≡ closed_mark mark c needed
          by true o =
              let at-0 : mark ≡ 0 = eqb-true _ _ o in
              rw at-0 (closed-outside c (get_or row i 0) ∙ sym (closed-outside c needed))
          by false o =
              let row-says = rw add-one at (left.by_row (eqb-false _ _ o)) in
              rw (← next-slot) (ap (closed_mark mark c) (row-says.counts i (omega (arith, there, is))))

      module _ {closed drawn next : ℕ} (e : closed ≡ closed_mark mark c (get_or row i 0))
          (f : drawn ≡ next_mark closed class) (g : next ≡ get_or front i drawn) where
        -- the front from slot i on begins with the mark of slot i, if it has one
        next-mark : next ≡ get_or (drop i front) 0 (next_mark (closed_mark mark c needed) class)
        next-mark =
            let is = f ∙ ap (λ m. next_mark m class) (closes e) in
            g ∙ rw (is, get_or-drop i front 0 (next_mark (closed_mark mark c needed) class), add-zero i)

        drawn-next : drawn_from sentinel s.shape (drop i cs) (drop i front) mark w c
            ≡ next ∷ drawn_from sentinel s.shape (drop (i + 1) cs) (drop (i + 1) front) next (left_of w (eqb next 1))
            (left_of c (not (eqb next 0)))
        unfolding drawn_from
        drawn-next = rw (next-slot, next-mark, ← drop-drop 1 i front)

        pub complete-step : {w' c' : ℕ} {row' : List ℕ} → w' ≡ left_of w (eqb next 1) → c' ≡ left_of c (not (eqb next 0)) →
            ((next ≡ 0 → ⊥) → ((mark ≡ 0 → ⊥) → (next ≡ 1 → ⊥) → RowAfter s cs (w' + 1) row) →
            RowAfter s cs (w' + 1) row') →
            LeftToDraw (set marks i next) next w' c' row' (i + 1)
        complete-step few short by_row =
            record {
              as_long = length-set marks i next ∙ left.as_long;
              by_row = λ covered. by_row covered λ inside same.
                  rw (few, ne_eqb next 1 same) (left.by_row inside);
              whole = rw (few, short, add-one) (rw (drawn-next, add-one) at left.whole);
            }
