-- The four published definitions are corners of the rule.
use Prim.Native.Nat.{ℕ, ◌-◌, ◌≤◌}
use native.Mathlib.Nat.{le_refl}
use native.Mathlib.Omega.{arith}
use mathlib.Core.List.{List}
use mathlib.Core.Logic.{◌↔◌}
use lib.IntN.{ℤ}
use lib.ListN.{length, drop}
use lib.Signed.{◌<ℤ◌}
use Rattle.rule.proofs.LegalFrom.{legal-length}
use Rattle.rule.proofs.Counts.{covered_le}
use Rattle.rule.specs.Rule.{carries, shaped}
use Rattle.rule.specs.declared.Shape.{Shape}
use Rattle.published.proofs.Sets.{Within, ◌∈◌, each, each_to, all, some, which}
use Rattle.published.proofs.LoadsFrom.{From, from, all-over, each_over}
use Rattle.published.proofs.Drawn.{drawn}
use Rattle.published.specs.Published.{Sequence, Holds, size, Each, Some, sum, load, bridges, Window, Apart}
use Rattle.published.specs.Published.{Obeys, Focus, SpringyFocus, WeightedFocus, WeightedSpringyFocus}

module _ (X : List ℤ) (yc : ℕ) (shape : Shape) (k : ℤ) (zc : ℕ) (S : List Sequence) (o : Obeys k shape yc zc X S) where
  -- windows that obey the rule obey it with any other maximums that they are within
  pub recount : {yc' zc' : ℕ} → length S ≤ yc' → sum size S ≤ zc' → Obeys k shape yc' zc' X S
  recount number summed =
      record {
        set = o.set;
        cover = o.cover;
        kept = o.kept;
        settled = o.settled;
        number = number;
        summed = summed;
      }

  -- windows that obey the rule have at most n slots in all, as n marks draw them
  no_more : sum size S ≤ length X
  no_more =
      let (ms, e, to, fro, ws, cs) = drawn k shape yc zc X S o in
      omega (arith, cs, covered_le ms, legal-length (carries k) shape X ms e)

  -- so a covered maximum of n rules nothing out
  pub covered-at-length : Obeys k shape yc (length X) X S
  covered-at-length = recount o.number no_more

-- windows may touch where no slots are owed
may-touch : (S : List Sequence) → Each (λ s. Each (Apart 0 s) S) S
may-touch S = all _ S (λ s _. all _ S (λ t _ e. omega arith))

-- a window has no bridges exactly when each of its slots is over
module _ (X : List ℤ) (k : ℤ) (s : Sequence) (w : Within (length X) s) where
  slots-from : From X s.first (drop s.first X)
  slots-from = from X s.first (length X - s.first) (omega (arith, w))

  no-bridges : ((j : ℕ) → Holds j s → k <ℤ load X j) → bridges k X s ≤ 0
  no-bridges o = all-over k X (size s) slots-from (λ j lj jn. o j (omega arith, omega (arith, w)))

  over-within : bridges k X s ≤ 0 → (j : ℕ) → Holds j s → k <ℤ load X j
  over-within u j hs = each_over k X (size s) slots-from u j hs.0 (omega (arith, w, hs)) (omega (arith, w, hs))

module _ (X : List ℤ) (yc len : ℕ) (k : ℤ) (zc : ℕ) (S : List Sequence) where
  pub weighted : WeightedFocus X yc len k zc S ↔ Obeys k (shaped len 0) yc zc X S
  weighted = (to, from)
    where
      to : WeightedFocus X yc len k zc S → Obeys k (shaped len 0) yc zc X S
      to d =
          record {
            set = d.set;
            cover = λ l ln. (d.c2 l ln).0;
            kept = all (Window k (shaped len 0) X) S kept;
            settled = may-touch S;
            number = d.c1;
            summed = d.c4;
          }
        where
          kept : (s : Sequence) → s ∈ S → Window k (shaped len 0) X s
          kept s m =
              let w = each (Within (length X)) d.set.0 m in
              let over : (j : ℕ) → Holds j s → k <ℤ load X j =
              λ j hs. (d.c2 j (omega (arith, w, hs))).1 (some (Holds j) m hs) in
              record {
                begins = over s.first (omega (arith, w));
                ends = over s.last (omega (arith, w));
                slots = each (λ s. size s ≤ len) d.c3 m;
                bridges_fit = no-bridges X k s w over;
              }

      from : Obeys k (shaped len 0) yc zc X S → WeightedFocus X yc len k zc S
      from o =
          record {
            set = o.set;
            c1 = o.number;
            c2 = λ l ln. (o.cover l ln, over l);
            c3 = each_to (Window k (shaped len 0) X) _ (λ s w. w.slots) S o.kept;
            c4 = o.summed;
          }
        where
          over : (l : ℕ) → Some (Holds l) S → k <ℤ load X l
          over l e =
              let (s, m, hs) = which (Holds l) S e in
              over-within X k s (each (Within (length X)) o.set.0 m)
              (each (Window k (shaped len 0) X) o.kept m).bridges_fit l hs

module _ (X : List ℤ) (yc len h : ℕ) (k : ℤ) (zc : ℕ) (S : List Sequence) where
  abbrev Slots : Sequence → Type 0
  Slots s = (size s ≤ len) × (k <ℤ load X s.first) × (k <ℤ load X s.last)

  pub weighted_springy : WeightedSpringyFocus X yc len h k zc S ↔ Obeys k (shaped len h) yc zc X S
  weighted_springy = (to, from)
    where
      to : WeightedSpringyFocus X yc len h k zc S → Obeys k (shaped len h) yc zc X S
      to d =
          record {
            set = d.set;
            cover = d.c2;
            kept = all (Window k (shaped len h) X) S kept;
            settled = may-touch S;
            number = d.c1;
            summed = d.c5;
          }
        where
          kept : (s : Sequence) → s ∈ S → Window k (shaped len h) X s
          kept s m =
              let (slots, begins, ends) = each Slots d.c4 m in
              record {
                begins = begins;
                ends = ends;
                slots = slots;
                bridges_fit = each (λ s. bridges k X s ≤ h) d.c3 m;
              }

      from : Obeys k (shaped len h) yc zc X S → WeightedSpringyFocus X yc len h k zc S
      from o =
          record {
            set = o.set;
            c1 = o.number;
            c2 = o.cover;
            c3 = each_to (Window k (shaped len h) X) _ (λ s w. w.bridges_fit) S o.kept;
            c4 = each_to (Window k (shaped len h) X) Slots (λ s w. (w.slots, w.begins, w.ends)) S o.kept;
            c5 = o.summed;
          }

-- The other two definitions have no covered maximum. Their sets obey the rule with the summed length as the covered
-- maximum, and so with n.
pub focus : (X : List ℤ) (yc len : ℕ) (k : ℤ) (S : List Sequence) →
    Focus X yc len k S ↔ Obeys k (shaped len 0) yc (length X) X S
focus X yc len k S = (to, from)
  where
    to : Focus X yc len k S → Obeys k (shaped len 0) yc (length X) X S
    to d =
        let weights : WeightedFocus X yc len k (sum size S) S = record {
          set = d.set;
          c1 = d.c1;
          c2 = d.c2;
          c3 = d.c3;
          c4 = le_refl _;
        } in
        covered-at-length X yc (shaped len 0) k _ S ((weighted X yc len k _ S).0 weights)

    from : Obeys k (shaped len 0) yc (length X) X S → Focus X yc len k S
    from o = let d = (weighted X yc len k _ S).1 o in record { set = d.set; c1 = d.c1; c2 = d.c2; c3 = d.c3 }

pub springy : (X : List ℤ) (yc len h : ℕ) (k : ℤ) (S : List Sequence) →
    SpringyFocus X yc len h k S ↔ Obeys k (shaped len h) yc (length X) X S
springy X yc len h k S = (to, from)
  where
    to : SpringyFocus X yc len h k S → Obeys k (shaped len h) yc (length X) X S
    to d =
        let weights : WeightedSpringyFocus X yc len h k (sum size S) S = record {
          set = d.set;
          c1 = d.c1;
          c2 = d.c2;
          c3 = d.c4;
          c4 = d.c3;
          c5 = le_refl _;
        } in
        covered-at-length X yc (shaped len h) k _ S ((weighted_springy X yc len h k _ S).0 weights)

    from : Obeys k (shaped len h) yc (length X) X S → SpringyFocus X yc len h k S
    from o =
        let d = (weighted_springy X yc len h k _ S).1 o in
        record { set = d.set; c1 = d.c1; c2 = d.c2; c3 = d.c4; c4 = d.c3 }
