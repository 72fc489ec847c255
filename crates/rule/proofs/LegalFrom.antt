-- The rule, slot by slot: what it asks of the marks from a scan state on, where the state holds the slots and bridges
-- so far of the window under way. `legal→from` and `from→legal` say that at the start of a plan this is the rule
-- itself, with as many uncovered slots first as are owed there, `legal_from-split` and `legal_from-join` what it asks of
-- one more slot, `from-nil→not-3` and `not-3→from-nil` what it asks at the end.
use Prim.Native.Nat.{ℕ, zero, suc, ◌+◌, ◌-◌, ◌≤◌}
use native.Mathlib.Numerals.{unary_clauses}
use native.Mathlib.Omega.{arith}
use mathlib.Core.Bool.{Bool, true, false, not, ◌&&◌, false≢true}
use mathlib.Core.List.{List, [], ◌∷◌}
use mathlib.Core.Path.{◌≡◌, refl, ap}
use borrow.Author.Tests.{le-leb, leb-true, lt-ltb, not-true}
use lib.Dec.{leb, eqb}
use lib.ListN.{length}
use Rattle.rule.proofs.MarkKinds.{Kind, kind, uncovered, opening, later, bridge, above, above-3-follows-none}
use Rattle.facts.proofs.Tests.{and-true→both}
use Rattle.rule.specs.ScanState.{slots_after, bridges_after, owed_after, too_soon, advanced}
use Rattle.rule.specs.Rule.{agrees, follows, ordered, rest, beyond, clear, count_if, bridges, keeps}
use Rattle.rule.specs.Rule.{each_window, legal_by}
use Rattle.rule.specs.declared.ScanState.{ScanState}
use Rattle.rule.specs.declared.Shape.{Shape}

-- what `keeps` asks, as facts
pub record Within (shape : Shape) (ms : List ℕ) : Type 0 where
  pub slots : suc (length (rest ms)) ≤ shape.len
  pub bridges_fit : bridges (rest ms) ≤ shape.h
  pub settled : clear shape.settle (beyond ms) ≡ true

pub keeps→within : {shape : Shape} {ms : List ℕ} → keeps shape ms ≡ true → Within shape ms
unfolding keeps
keeps→within {shape} {ms} e =
    let few = leb (suc (length (rest ms))) shape.len in
    let (window, settled) = and-true→both (few && leb (bridges (rest ms)) shape.h) _ e in
    let (slots, bridges_fit) = and-true→both few _ window in
    record { slots = leb-true _ _ slots; bridges_fit = leb-true _ _ bridges_fit; settled = settled }

pub within→keeps : {shape : Shape} {ms : List ℕ} → Within shape ms → keeps shape ms ≡ true
unfolding keeps
within→keeps w = rw (le-leb _ _ w.slots, le-leb _ _ w.bridges_fit) w.settled

-- after an uncovered slot no window is under way
no-rest : (ms : List ℕ) → ordered 0 ms ≡ true → (rest ms ≡ []) × (beyond ms ≡ ms)
unfolding ordered rest beyond follows
no-rest [] e = (refl, refl)
no-rest (m ∷ ms) e = by (kind m) e
  where
    by : {m : ℕ} → Kind m → ordered 0 (m ∷ ms) ≡ true → (rest (m ∷ ms) ≡ []) × (beyond (m ∷ ms) ≡ m ∷ ms)
    by uncovered e = (refl, refl)
    by opening e = (refl, refl)
    by later e = absurd (false≢true e)
    by bridge e = absurd (false≢true e)
    by (above a) e = above-3-follows-none 0 a (and-true→both _ _ e).0

-- one slot less is owed after an uncovered one, and none where a window opens
clear-uncovered : (q : ℕ) (ms : List ℕ) → clear q (0 ∷ ms) ≡ clear (q - 1) ms
unfolding clear
clear-uncovered zero ms = refl
clear-uncovered (suc q) ms = simp unary_clauses

clear-opening : (q : ℕ) (ms : List ℕ) → clear q (1 ∷ ms) ≡ not (too_soon q 1)
unfolding clear too_soon
clear-opening zero ms = refl
clear-opening (suc q) ms = rw (lt-ltb 0 (suc q) (omega arith))

clear-nil : (q : ℕ) → clear q [] ≡ true
unfolding clear
clear-nil zero = refl
clear-nil (suc q) = refl

-- the scan state before slot 0, where q uncovered slots are owed: none, unless the marks come after a window
abbrev pub start : (q : ℕ) → ScanState
start q = record { mark = 0; slots = 0; bridges = 0; owed = q }

module _ (shape : Shape) where
  -- the window under way keeps the shape so far
  pub record WithinSoFar (at : ScanState) : Type 0 where
    pub slots : at.slots ≤ shape.len
    pub bridges_fit : at.bridges ≤ shape.h

  -- a slot's mark m passes all tests of a slot, where g says whether it goes with its slot
  pub record Passes (at : ScanState) (g : Bool) (m : ℕ) : Type 0 where
    pub goes : g ≡ true
    pub follow : follows at.mark m ≡ true
    pub in_time : too_soon at.owed m ≡ false
    pub fits : WithinSoFar (advanced shape.settle at m)

module _ {A : Type 0} (goes : A → ℕ → Bool) (shape : Shape) where
  -- the windows that the marks ms open keep the shape, and so does the window under way together with its rest in ms;
  -- the slots owed come after it
  pub record KeepsFrom (at : ScanState) (ms : List ℕ) : Type 0 where
    pub slots : at.slots + length (rest ms) ≤ shape.len
    pub bridges_fit : at.bridges + bridges (rest ms) ≤ shape.h
    pub settled : clear at.owed (beyond ms) ≡ true
    pub kept : each_window (keeps shape) ms ≡ true

  pub record LegalFrom (at : ScanState) (xs : List A) (ms : List ℕ) : Type 0 where
    pub agree : agrees goes xs ms ≡ true
    pub order : ordered at.mark ms ≡ true
    pub shape_kept : KeepsFrom at ms

  pub keeps_from-of-ordered : {at : ScanState} (ms : List ℕ) → WithinSoFar shape at → ordered 0 ms ≡ true →
      clear at.owed ms ≡ true → each_window (keeps shape) ms ≡ true → KeepsFrom at ms
  unfolding count_if
  keeps_from-of-ordered ms f order owed kept =
      let (none, all) = no-rest ms order in
      record {
        slots = rw none (omega arith);
        bridges_fit = rw none (omega arith);
        settled = rw all owed;
        kept = kept;
      }

  module _ (at : ScanState) (ms : List ℕ) where
    abbrev next : (m : ℕ) → ScanState
    next m = advanced shape.settle at m

    -- what is asked of a slot with mark m, but for `goes` and `follow`, and of the marks after it
    abbrev KeepsNext : (m : ℕ) → Type 0
    KeepsNext m = (too_soon at.owed m ≡ false) × WithinSoFar shape (next m) × KeepsFrom (next m) ms

    keeps_from-split : {m : ℕ} → Kind m → follows at.mark m ≡ true → ordered m ms ≡ true → KeepsFrom at (m ∷ ms) →
        KeepsNext m
    unfolding rest beyond each_window count_if slots_after bridges_after owed_after too_soon
    keeps_from-split uncovered f order r =
        let fits : WithinSoFar shape (next 0) = omega arith in
        (refl, fits, keeps_from-of-ordered ms fits order (rw clear-uncovered at r.settled) r.kept)
    keeps_from-split opening f order r =
        let (one, kept) = and-true→both (keeps shape ms) _ r.kept in
        let w : Within shape ms = keeps→within one in (
          not-true _ (rw (clear-opening at.owed ms) at r.settled),
          omega arith,
          record { slots = omega arith; bridges_fit = omega arith; settled = w.settled; kept = kept },
        )
    keeps_from-split later f order r = (
      refl,
      omega arith,
      record { slots = omega arith; bridges_fit = omega arith; settled = r.settled; kept = r.kept },
    )
    keeps_from-split bridge f order r = (
      refl,
      omega arith,
      record { slots = omega arith; bridges_fit = omega arith; settled = r.settled; kept = r.kept },
    )
    keeps_from-split (above a) f order r = above-3-follows-none _ a f

    keeps_from-join : {m : ℕ} → Kind m → follows at.mark m ≡ true → ordered m ms ≡ true → WithinSoFar shape at →
        KeepsNext m → KeepsFrom at (m ∷ ms)
    unfolding rest beyond each_window count_if slots_after bridges_after owed_after
    keeps_from-join uncovered f order fits (e, g, r) =
        let owed = rw (no-rest ms order).1 at r.settled in
        record {
          slots = omega arith;
          bridges_fit = omega arith;
          settled = rw (clear-uncovered at.owed ms) owed;
          kept = r.kept;
        }
    keeps_from-join opening f order fits (e, g, r) =
        let w : Within shape ms = record { slots = omega arith; bridges_fit = omega arith; settled = r.settled } in
        record {
          slots = omega arith;
          bridges_fit = omega arith;
          settled = rw (clear-opening at.owed ms, e);
          kept = rw (within→keeps w) r.kept;
        }
    keeps_from-join later f order fits (e, g, r) =
        record { slots = omega arith; bridges_fit = omega arith; settled = r.settled; kept = r.kept }
    keeps_from-join bridge f order fits (e, g, r) =
        record { slots = omega arith; bridges_fit = omega arith; settled = r.settled; kept = r.kept }
    keeps_from-join (above a) f order fits r = above-3-follows-none _ a f

    module _ (x : A) (xs : List A) (m : ℕ) where
      pub legal_from-split : LegalFrom at (x ∷ xs) (m ∷ ms) →
          Passes shape at (goes x m) m × LegalFrom (next m) xs ms
      unfolding agrees ordered
      legal_from-split o =
          let (goes, agree) = and-true→both _ _ o.agree in
          let (follow, order) = and-true→both _ _ o.order in
          let (in_time, fits, shape_kept) = keeps_from-split (kind m) follow order o.shape_kept in (
            record { goes = goes; follow = follow; in_time = in_time; fits = fits },
            record { agree = agree; order = order; shape_kept = shape_kept },
          )

      pub legal_from-join : WithinSoFar shape at → Passes shape at (goes x m) m → LegalFrom (next m) xs ms →
          LegalFrom at (x ∷ xs) (m ∷ ms)
      unfolding agrees ordered
      legal_from-join f p o =
          record {
            agree = rw p.goes o.agree;
            order = rw p.follow o.order;
            shape_kept = keeps_from-join (kind m) p.follow o.order f (p.in_time, p.fits, o.shape_kept);
          }

  pub from-nil→not-3 : (at : ScanState) → LegalFrom at [] [] → not (eqb at.mark 3) ≡ true
  unfolding ordered
  from-nil→not-3 at o = o.order

  pub not-3→from-nil : (at : ScanState) → WithinSoFar shape at → not (eqb at.mark 3) ≡ true → LegalFrom at [] []
  unfolding agrees ordered rest beyond count_if each_window
  not-3→from-nil at f e =
      let kept : KeepsFrom at [] =
      record { slots = omega arith; bridges_fit = omega arith; settled = clear-nil at.owed; kept = refl } in
      record { agree = refl; order = e; shape_kept = kept }

  module _ (xs : List A) (ms : List ℕ) where
    pub legal→parts : legal_by goes shape xs ms ≡ true →
        (agrees goes xs ms ≡ true) × (ordered 0 ms ≡ true) × (each_window (keeps shape) ms ≡ true)
    unfolding legal_by
    legal→parts e =
        let (front, kept) = and-true→both (agrees goes xs ms && ordered 0 ms) _ e in
        let (agree, order) = and-true→both (agrees goes xs ms) _ front in
        (agree, order, kept)

    pub parts→legal : agrees goes xs ms ≡ true → ordered 0 ms ≡ true → each_window (keeps shape) ms ≡ true →
        legal_by goes shape xs ms ≡ true
    unfolding legal_by
    parts→legal agree order kept = rw (agree, order) kept

    pub legal→from : (q : ℕ) → legal_by goes shape xs ms ≡ true → clear q ms ≡ true → LegalFrom (start q) xs ms
    legal→from q e owed =
        let (agree, order, kept) = legal→parts e in
        record { agree = agree; order = order; shape_kept = keeps_from-of-ordered ms (omega arith) order owed kept }

    pub from→legal : (q : ℕ) → LegalFrom (start q) xs ms → (legal_by goes shape xs ms ≡ true) × (clear q ms ≡ true)
    from→legal q o = (
      parts→legal o.agree o.order o.shape_kept.kept,
      rw (no-rest ms o.order).1 at o.shape_kept.settled,
    )

  -- there are as many marks as slots
  agrees-length : (xs : List A) (ms : List ℕ) → agrees goes xs ms ≡ true → length ms ≡ length xs
  unfolding agrees
  agrees-length [] [] e = refl
  agrees-length [] (m ∷ ms) e = absurd (false≢true e)
  agrees-length (x ∷ xs) [] e = absurd (false≢true e)
  agrees-length (x ∷ xs) (m ∷ ms) e = ap suc (agrees-length xs ms (and-true→both (goes x m) _ e).1)

  pub legal-length : (xs : List A) (ms : List ℕ) → legal_by goes shape xs ms ≡ true → length ms ≡ length xs
  legal-length xs ms e = agrees-length xs ms (legal→parts xs ms e).0
