-- Both sides of slots, one window after another, for the loop of `fast::sweep::sweep`.
use Prim.Native.Nat.{ℕ, suc, ◌+◌, ◌-◌, ◌≤◌, ◌<◌}
use native.Mathlib.Nat.{le_refl}
use native.Mathlib.Omega.{arith}
use mathlib.Core.Bool.{Bool, true, false, false≢true}
use mathlib.Core.List.{List, reverse}
use mathlib.Core.Logic.{◌↔◌, ◌⊎◌, inl, ⊎_elim}
use mathlib.Core.Path.{◌≡◌, refl, sym, subst, ◌∙◌}
use borrow.Author.Tests.{le-leb}
use lib.ListN.{length, get_or, set, replicate, length-map, get_or-replicate}
use Rattle.rule.specs.ClassCodes.{decode, decode_all}
use Rattle.rule.specs.Ranges.{Class, under_only, either}
use Rattle.settings.specs.Refusals.{limit, places}
use Rattle.settings.specs.declared.Settings.{Settings}
use Rattle.requests.specs.Best.{best}
use Rattle.requests.specs.Solution.{sentinel, possible, loss}
use Rattle.fast.proofs.FillLoop.{Repeats}
use Rattle.fast.proofs.FromSlot.{class-at}
use Rattle.fast.proofs.Swept.{WindowsFound, GapsFound, windows-step, gaps-step, windows-steady, gaps-steady}
use Rattle.fast.proofs.Swept.{over-by-far, under-by-gaps, losses-are}
use Rattle.fast.specs.Rows.{Row, Ends, LacksFrom}
use Rattle.fast.specs.Sweep.{ReachesWith, Further, FreeSlots, GapAt, loss_by, under_stays, over_stays}

module _ (s : Settings) (classes : List ℕ) (whole : Bool) where
  abbrev cs : List Class
  cs = decode_all classes

  abbrev w : ℕ
  w = s.windows.most

  abbrev n : ℕ
  n = s.covered.most

  abbrev Windows : (small : n < sentinel) (g : ℕ) → List ℕ → ℕ → Type 0
  Windows small g = WindowsFound s.shape cs w n small g

  -- what is found with fewer than a windows before a window, and at most a before a gap. Where no slot loses its under
  -- part, all slots count as gaps
  pub record Found (small : n < sentinel) (far bridged : List ℕ) (gaps : List Bool) (a : ℕ) : Type 0 where
    pub over : Windows small 0 far a
    pub spare : whole ≡ false → Windows small 1 bridged a
    pub gap : whole ≡ false → GapsFound s.shape cs w n small gaps a
    pub known : whole ≡ true → (i : ℕ) → i < length cs → get_or gaps i false ≡ true

  -- with `left` windows left to the slots from a slot on: the row of the slots before it, and what is found
  pub record Sweeping (before far bridged : List ℕ) (gaps : List Bool) (left : ℕ) : Type 0 where
    pub within : left ≤ w
    pub side : Row s.shape (reverse cs) (w - left) before
    pub found : (small : n < sentinel) → Found small far bridged gaps (w - left)

  -- by these windows and gaps it is known what slots lose
  pub record Decides (far bridged : List ℕ) (gaps : List Bool) : Type 0 where
    pub loses : n < sentinel →
        (whole ≡ true → (i : ℕ) → best sentinel s.shape (set cs i under_only) w ≤ n) → (i : ℕ) → i < length classes →
        loss_by (decode (get_or classes i 0)) (under_stays gaps bridged i) (over_stays far i) ≡ loss s cs i

  none-at : (x : ℕ) → x < length cs → length cs ≤ limit → 0 < get_or (replicate {A = ℕ} places 0) x 0 → ⊥
  none-at x l few e = omega (arith, get_or-replicate {A = ℕ} places x 0 0 (omega arith))

  as_many : length classes ≡ length cs
  as_many = sym (length-map classes decode)

  abbrev pub Within : (reach : List ℕ) (slots : ℕ) → Type 0
  Within reach slots = (x : ℕ) → x ≤ slots → x + get_or reach x 0 ≤ slots

  -- the gaps that one pass finds, besides those that there were
  abbrev pub GapsAfter : (free : List Bool) (side row : List ℕ) (was is : List Bool) (slots : ℕ) → Type 0
  GapsAfter free side row was is slots = n < sentinel → (i : ℕ) → i < slots →
      (get_or is i false ≡ true) ↔ ((get_or was i false ≡ true) ⊎ GapAt free side row slots n i)

  -- the ends that one pass finds
  abbrev pub FurtherAfter : (reach starts ends row was is : List ℕ) (slots : ℕ) → Type 0
  FurtherAfter reach starts ends row was is slots = n < sentinel → (x : ℕ) → x < slots →
      Further reach starts ends row slots n x (get_or was x 0) (get_or is x 0)

  module _ (few : length cs ≤ limit) {lacks turned_lacks : List ℕ} {free : List Bool}
      (turned-lacking : LacksFrom s.shape.settle (reverse cs) turned_lacks)
      (lacking : LacksFrom s.shape.settle cs lacks)
      (frees : FreeSlots s.shape.settle cs turned_lacks lacks free) where
    pub sweep-start : {side row : List ℕ} {gaps : List Bool} → Row s.shape (reverse cs) 0 side →
        Row s.shape cs w row →
        GapsAfter free side row (replicate limit whole) gaps (length classes) →
        Sweeping side (replicate places 0) (replicate places 0) gaps w
    sweep-start {side} {row} {gaps} first counts by_bytes =
        let none : w - w ≡ 0 = omega arith in
        let gaps-are = subst (GapsAfter free side row (replicate limit whole) gaps) as_many by_bytes in
        record {
          within = le_refl w;
          side = rw none first;
          found = λ small. rw none record {
            over = nothing-found small;
            spare = λ _. nothing-found small;
            gap = λ e.
                gaps-step s.shape cs w n small 0 w (omega arith) first counts turned-lacking lacking frees
                (replicate limit whole) gaps (gaps-are small)
                (λ i l f. absurd (false≢true (sym e ∙ sym (at_first i l) ∙ f)))
                (λ c i l _. absurd (omega arith));
            known = λ e i l. (gaps-are small i l).1 (inl (at_first i l ∙ e));
          };
        }
      where
        at_first : (i : ℕ) → i < length cs → get_or (replicate limit whole) i false ≡ whole
        at_first i l = get_or-replicate limit i whole false (omega arith)

        nothing-found : (small : n < sentinel) {g : ℕ} → Windows small g (replicate places 0) 0
        nothing-found small =
            record { met = λ x l e. absurd (none-at x l few e); most = λ b x e l _. absurd (omega arith) }

    -- one window more before, and one fewer after
    module _ {side far bridged : List ℕ} {gaps : List Bool} {left : ℕ}
        (now : Sweeping side far bridged gaps left) (more : 0 < left)
        {reach spare starts ends row next : List ℕ}
        (within : Within reach (length classes)) (reached : ReachesWith s.shape 0 cs reach)
        (spare-within : Within spare (length classes))
        (spared : whole ≡ false → ReachesWith s.shape 1 cs spare)
        (begin : Ends s.shape (reverse cs) (w - left) starts) (end : Ends s.shape cs (left - 1) ends)
        (counts : Row s.shape cs left row) (counts-next : Row s.shape cs (left - 1) next) where
      pub sweep-turn : (far' bridged' : List ℕ) (gaps' : List Bool) {side' : List ℕ} →
          Row s.shape (reverse cs) (suc (w - left)) side' →
          FurtherAfter reach starts ends row far far' (length classes) →
          FurtherAfter spare starts ends row bridged bridged' (length classes) →
          GapsAfter free side' next gaps gaps' (length classes) →
          Sweeping side' far' bridged' gaps' (left - 1)
      sweep-turn far' bridged' gaps' {side'} made far-by-bytes bridged-by-bytes gaps-by-bytes =
          let further = subst (FurtherAfter reach starts ends row far far') as_many far-by-bytes in
          let spare-further = subst (FurtherAfter spare starts ends row bridged bridged') as_many bridged-by-bytes in
          let gaps-are = subst (GapsAfter free side' next gaps gaps') as_many gaps-by-bytes in
          let one_more : w - (left - 1) ≡ suc (w - left) = omega (arith, now.within) in
          let one_fewer : suc (left - 1) ≡ left = omega arith in
          record {
            within = omega (arith, now.within);
            side = rw one_more made;
            found = λ small.
                let was = now.found small in
                rw one_more record {
                  over =
                      windows-step s.shape cs w n small (w - left) (left - 1) (omega (arith, now.within)) begin end
                      (rw one_fewer counts) (subst (Within reach) as_many within) reached (further small) was.over;
                  spare = λ e.
                      windows-step s.shape cs w n small (w - left) (left - 1) (omega (arith, now.within)) begin end
                      (rw one_fewer counts) (subst (Within spare) as_many spare-within) (spared e) (spare-further small)
                      (was.spare e);
                  gap = λ e.
                      gaps-step s.shape cs w n small (suc (w - left)) (left - 1) (omega (arith, now.within)) made
                      counts-next turned-lacking lacking frees gaps gaps' (gaps-are small) (was.gap e).met
                      (λ c i l. (was.gap e).most c i (omega arith));
                  known = λ e i l. (gaps-are small i l).1 (inl (was.known e i l));
                };
          }

  -- at the end, where no window is left or the rows before slots repeat
  module _ {side far bridged : List ℕ} {gaps : List Bool} {left : ℕ} (now : Sweeping side far bridged gaps left)
      (ended : (left ≡ 0) ⊎ Repeats s.shape (reverse cs) (w - left)) where
    abbrev all : (small : n < sentinel) → Type 0
    all small = Found small far bridged gaps w

    found_all : (small : n < sentinel) → all small
    found_all small = ⊎_elim none_left no_more ended
      where
        none_left : left ≡ 0 → all small
        none_left e =
            let whole-way : w - left ≡ w = omega arith in
            rw whole-way at (now.found small)

        no_more : Repeats s.shape (reverse cs) (w - left) → all small
        no_more rep =
            let was = now.found small in
            record {
              over = windows-steady s.shape cs w n small rep was.over;
              spare = λ e. windows-steady s.shape cs w n small rep (was.spare e);
              gap = λ e. gaps-steady s.shape cs w n small rep (was.gap e);
              known = was.known;
            }

    pub sweep-end : Decides far bridged gaps
    unfolding possible
    sweep-end =
        record {
          loses = λ small kept i there.
              let l : i < length cs = omega (arith, there, as_many) in
              rw (← (class-at classes i))
              (losses-are s cs i (λ e. by small kept i l whole refl e)
              (λ e. over-by-far s.shape cs w n small i l e (found_all small).over));
        }
      where
        by : (small : n < sentinel) →
            (whole ≡ true → (i : ℕ) → best sentinel s.shape (set cs i under_only) w ≤ n) → (i : ℕ) →
            i < length cs → (b : Bool) → whole ≡ b → get_or cs i under_only ≡ either →
            possible s (set cs i under_only) ≡ under_stays gaps bridged i
        by small kept i l true e f = rw (le-leb _ _ (kept e i), (found_all small).known e i l) refl
        by small kept i l false e f =
            under-by-gaps s.shape cs w n small i l f ((found_all small).spare e) ((found_all small).gap e)
