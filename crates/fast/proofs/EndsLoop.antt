-- The slots lacking, from the last slot back to the first, and the ends, from the first on: the loops of
-- `fast::ends::lacks_of` and `ends_of`.
use Prim.Native.Nat.{ℕ, ◌+◌, ◌≤◌, ◌<◌}
use native.Mathlib.Nat.{le_refl, eq-or-lt_of_le}
use native.Mathlib.Numerals.{add-one}
use native.Mathlib.Omega.{arith}
use mathlib.Core.Bool.{cond}
use mathlib.Core.List.{List}
use mathlib.Core.Logic.{⊎_elim}
use mathlib.Core.Path.{◌≡◌, refl, subst, ◌∙◌}
use lib.Dec.{eqb}
use lib.ListN.{length, drop, get_or, set, replicate, length-map, length-set, length-replicate, get_or-replicate}
use lib.Seq.{get_or-set_same, get_or-set_other}
use Rattle.facts.proofs.Lists.{written-before}
use Rattle.rule.specs.ClassCodes.{decode, decode_all}
use Rattle.rule.specs.Ranges.{Class, allows}
use Rattle.rule.specs.declared.Shape.{Shape}
use Rattle.settings.specs.Refusals.{limit, places}
use Rattle.requests.specs.Solution.{sentinel}
use Rattle.sides.proofs.Lacks.{lacks-nil, lacks-cons, none-lacking}
use Rattle.sides.specs.Lacks.{Lacks, lacking_before}
use Rattle.fast.specs.Rows.{Row, Ends, LacksFrom, end_at}
use Rattle.fast.proofs.FromSlot.{class-at, from-slot, from_end}

module _ (settle : ℕ) (classes : List ℕ) where
  -- what is lacking, from slot i on
  pub record LackingFrom (lacks : List ℕ) (i : ℕ) : Type 0 where
    pub inside : i ≤ length classes
    pub wide : length lacks ≡ places
    pub counts : (j : ℕ) → i ≤ j → j ≤ length classes → Lacks settle (drop j (decode_all classes)) (get_or lacks j 0)

  pub lacking-start : length classes ≤ limit → LackingFrom (replicate places 0) (length classes)
  lacking-start e =
      record {
        inside = le_refl _;
        wide = length-replicate {A = ℕ} places 0;
        counts = λ j p q.
            let last : j ≡ length classes = omega arith in
            rw (get_or-replicate {A = ℕ} places j 0 0 (omega arith), last, from_end classes) (lacks-nil settle);
      }

  pub lacking-step : (lacks : List ℕ) (i v : ℕ) {j : ℕ} → length classes ≤ limit → j ≡ i + 1 → LackingFrom lacks j →
      v ≡ lacking_before settle (decode (get_or classes i 0)) (get_or lacks (i + 1) 0) → LackingFrom (set lacks i v) i
  lacking-step lacks i v e at g is =
      let f = subst (LackingFrom lacks) at g in
      let here : Lacks settle (drop i (decode_all classes)) v =
      rw (from-slot classes i (omega (arith, f.inside)), is)
      (lacks-cons settle _ _ _ (f.counts (i + 1) (le_refl _) f.inside)) in
      record {
        inside = omega (arith, f.inside);
        wide = length-set lacks i v ∙ f.wide;
        counts = λ j p q.
            ⊎_elim
            (λ s. rw (← s, get_or-set_same lacks i v 0 (omega (arith, e, f.inside, f.wide))) here)
            (λ l. rw (get_or-set_other lacks i j v 0 (omega (arith, l))) (f.counts j (omega (arith, l)) q))
            (eq-or-lt_of_le p);
      }

  pub lacking-end : {lacks : List ℕ} {i : ℕ} → i ≤ 0 → LackingFrom lacks i → LacksFrom settle (decode_all classes) lacks
  lacking-end e f =
      record { counts = λ j l. f.counts j (omega arith) (omega (arith, l, length-map classes decode)) }

module _ (shape : Shape) (classes row : List ℕ) where
  abbrev cs : List Class
  cs = decode_all classes

  -- what comes after a window that ends with each of the slots before slot i
  pub record EndsBefore (ends : List ℕ) (i : ℕ) : Type 0 where
    pub wide : length ends ≡ places
    pub counts : (w : ℕ) → Row shape cs w row → (j : ℕ) → j < i → get_or ends j 0 ≡ end_at shape cs j w

  pub ends-start : {ends : List ℕ} → length ends ≡ places → EndsBefore ends 0
  ends-start e = record { wide = e; counts = λ w r j p. absurd (omega arith) }

  pub ends-step : {lacks : List ℕ} (ends : List ℕ) (i v : ℕ) → length classes ≤ limit →
      LacksFrom shape.settle cs lacks → i < length classes → EndsBefore ends i →
      v ≡ cond (allows (decode (get_or classes i 0)) 2)
      (cond (eqb (get_or lacks (i + 1) 0) 0) (get_or row (i + 1) 0) sentinel) sentinel →
      EndsBefore (set ends i v) (i + 1)
  ends-step ends i v e lacking there f is =
      record {
        wide = length-set ends i v ∙ f.wide;
        counts = λ w r.
            written-before (λ j y. y ≡ end_at shape cs j w) ends i v 0 (omega (arith, e, there, f.wide))
            (f.counts w r) (here w r);
      }
    where
      slots : length cs ≡ length classes
      slots = length-map classes decode

      here : (w : ℕ) → Row shape cs w row → v ≡ end_at shape cs i w
      here w r =
          rw (
            is,
            class-at classes i,
            ← (add-one i),
            none-lacking (lacking.counts (i + 1) (omega (arith, slots))),
            r.counts (i + 1) (omega (arith, slots)),
          )
          refl

  pub ends-end : {ends : List ℕ} {i : ℕ} → length classes ≤ i → EndsBefore ends i → (w : ℕ) →
      Row shape cs w row → Ends shape cs w ends
  ends-end e f w r = record { counts = λ j p. f.counts w r j (omega (arith, e, p, length-map classes decode)) }
