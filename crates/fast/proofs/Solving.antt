-- What is found of the slots, for `solve` and `find_losses`: what the functions that they call gave, taken
-- together.
use Prim.Native.Nat.{ℕ, ◌-◌, ◌≤◌, ◌<◌, min}
use native.Mathlib.Omega.{arith}
use mathlib.Core.Bool.{Bool, true}
use mathlib.Core.List.{List, reverse}
use mathlib.Core.Logic.{◌⊎◌}
use mathlib.Core.Path.{◌≡◌, refl, ap, ◌∙◌}
use lib.Dec.{eqb}
use lib.ListN.{length, take, get_or, set, replicate, length-map, length-reverse, get_or-replicate, length-replicate}
use Rattle.facts.proofs.Lists.{map-reverse}
use Rattle.rule.specs.ClassCodes.{decode, decode_all}
use Rattle.rule.specs.Ranges.{Class, under_only}
use Rattle.settings.specs.Refusals.{limit}
use Rattle.settings.specs.declared.Settings.{Settings}
use Rattle.requests.specs.Best.{using_one, best}
use Rattle.requests.specs.Drawing.{left_of}
use Rattle.requests.specs.Solution.{sentinel, loss}
use Rattle.requests.specs.declared.Loss.{Loss}
use Rattle.requests.specs.declared.Loss.TheVariants.{Nothing}
use Rattle.fast.proofs.DrawLoop.{pen_at}
use Rattle.fast.proofs.DrawRestLoop.{drawn-left}
use Rattle.fast.proofs.FillLoop.{row_first}
use Rattle.fast.proofs.NothingLost.{nothing-lost, no-under-lost}
use Rattle.fast.specs.Found.{Counted}
use Rattle.fast.specs.Lost.{lost_at}
use Rattle.fast.specs.Pen.{drawn_on}
use Rattle.fast.specs.Rows.{Row}
use Rattle.fast.specs.Solved.{Solves}
use Rattle.fast.specs.declared.Solved.{Solved}
use Rattle.fast.specs.declared.pen.Pen.{Pen}
use Rattle.fast.specs.declared.ring.Filled.{Filled}

-- the slots from the last to the first, as `sweep` is lent them
pub turned-slots : (classes turned : List ℕ) → take (length classes) turned ≡ reverse classes →
    (length (take (length classes) turned) ≡ length classes)
    × (decode_all (take (length classes) turned) ≡ reverse (decode_all classes))
turned-slots classes turned e = (ap length e ∙ length-reverse classes, ap decode_all e ∙ map-reverse decode classes)

module _ (s : Settings) (classes : List ℕ) where
  abbrev cs : List Class
  cs = decode_all classes

  abbrev w : ℕ
  w = s.windows.most

  abbrev most : ℕ
  most = s.covered.most

  abbrev Loses : List Loss → Type 0
  Loses lost = most < sentinel → (i : ℕ) → i < length classes → lost_at lost i ≡ loss s cs i

  module _ {fewer : ℕ} (is : fewer ≡ using_one sentinel w (best sentinel s.shape cs)) where
    pub none-loses : length classes ≤ limit → (s.shape.settle ≡ 0) × (fewer < most) → Loses (replicate limit Nothing)
    none-loses few (none, less) small i l =
        rw (get_or-replicate limit i Nothing Nothing (omega arith)) (nothing-lost s cs small is less none i)

    pub swept-loses : (lost : List Loss) {whole : Bool} → (whole ≡ true → (s.shape.settle ≤ 1) × (fewer ≤ most)) →
        (most < sentinel → (whole ≡ true → (i : ℕ) → best sentinel s.shape (set cs i under_only) w ≤ most) →
        (i : ℕ) → i < length classes → lost_at lost i ≡ loss s cs i) →
        Loses lost
    swept-loses lost by swept small =
        swept small λ whole.
        let (one, less) = by whole in
        no-under-lost s cs small is less one

  -- the rows are filled, and the last one is the row for all windows
  module _ {row : List ℕ} {filled : Filled} (counts : Row s.shape cs w row) (counted : Counted s cs w filled) where
    abbrev found : (lost : List Loss) → Solved
    found lost =
        record { windows = filled.found.windows; thrift = filled.found.thrift; covered = get_or row 0 0; lost = lost }

    pub no-plan-solves : {marks : List ℕ} {r : Solved} → r ≡ found (replicate limit Nothing) → most < get_or row 0 0 →
        Solves s cs marks marks r
    no-plan-solves e over =
        rw e (record {
          wide = length-replicate {A = Loss} limit Nothing;
          covered = row_first s.shape cs counts;
          none = λ _. refl;
          windows = λ l. absurd (omega arith);
          thrift = λ l. absurd (omega arith);
          drawn = λ l. absurd (omega arith);
          lost = λ l. absurd (omega arith);
        })

    -- there is a plan, which was drawn up to its first window, and then the rest
    pub plan-solves : get_or row 0 0 ≤ most → (pen : Pen) (marks : List ℕ) {before : List ℕ} →
        length marks ≡ length before →
        (min (length classes) (length before) ≤ pen.slot) ⊎ (pen.mark ≡ 1) →
        (Row s.shape cs w row →
        drawn_on s.shape cs (left_of w (eqb pen.mark 1)) pen marks
        ≡ drawn_on s.shape cs w (pen_at 0 0 most) before) →
        {after : List ℕ} → after ≡ drawn_on s.shape cs (w - 1) pen marks →
        {lost : List Loss} {r : Solved} → r ≡ found lost → length lost ≡ limit → Loses lost →
        Solves s cs before after r
    plan-solves kept pen marks as_long ended drawn rest e wide loses =
        let covers = row_first s.shape cs counts in
        let windows = counted.windows (omega (arith, kept, covers)) in
        rw e (record {
          wide = wide;
          covered = covers;
          none = λ l. absurd (omega arith);
          windows = λ _. windows;
          thrift = λ _. counted.thrift ∙ ap (best sentinel s.shape cs) windows;
          drawn = λ _. rest ∙ drawn-left s.shape classes w pen marks as_long ended ∙ drawn counts;
          lost = λ _ small i l. loses small i (omega (arith, l, length-map classes decode));
        })
