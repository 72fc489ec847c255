-- Each plan of a request draws windows that obey the rule for a choice of its loads, and each such set is drawn by a
-- plan. From this follows what is handed back, by every definition that is the rule at the request's settings.
use Prim.Native.Nat.{ℕ, ◌≤◌}
use native.Mathlib.Nat.{le_refl}
use native.Mathlib.Omega.{arith}
use mathlib.Core.Bool.{true}
use mathlib.Core.List.{List}
use mathlib.Core.Logic.{◌↔◌}
use mathlib.Core.Path.{◌≡◌, sym, ◌∙◌, subst}
use lib.IntN.{ℤ}
use lib.ListN.{length}
use Rattle.judge.proofs.Allowed.{Allowed, allowed-iff, yes→allowed}
use Rattle.rule.proofs.Ranges.{chosen-length}
use Rattle.rule.specs.Ranges.{ChosenIn}
use Rattle.rule.specs.Rule.{legal, windows, covered, LeastOver, Fewest, ThriftOver}
use Rattle.rule.specs.declared.Shape.{Shape}
use Rattle.settings.specs.declared.CountRange.{CountRange}
use Rattle.settings.specs.declared.Settings.{Settings}
use Rattle.published.proofs.Corners.{recount}
use Rattle.published.proofs.Theorems.{theorems}
use Rattle.published.specs.Published.{Sequence, Obeys, sequences_of}
use Rattle.requests.proofs.ChosenIn.{paired-length}
use Rattle.requests.proofs.Outcomes.{keeps→planned, keeps→no_plan, no_plan→says, plan→says-planned}
use Rattle.requests.proofs.Formed.{formed-iff, chosen-slots}
use Rattle.requests.specs.Promise.{Outcome, Says, Raised, YesFor, Keeps}
use Rattle.requests.specs.Request.{Request, slots, paired, ranges, WellFormed, PlanOf, LeftAt}
use Rattle.requests.specs.declared.PlanCounts.{PlanCounts}
use Rattle.demands.specs.Demands.{Definition, Satisfied, Occurs, LeastNumber, TrueLeast, Delivers}
use Rattle.demands.specs.Demands.{DeliversCovered, TrueThrift}

-- the least count over the marks that P holds of is the least number that Q holds of
least-number : (P : List ℕ → Type 0) (Q : ℕ → Type 0) {count : List ℕ → ℕ} {v : ℕ} →
    ((ms : List ℕ) → P ms → Q (count ms)) → ((u : ℕ) → Q u → (ms : List ℕ) × P ms × (count ms ≤ u)) →
    LeastOver P count v → LeastNumber Q v
least-number P Q into back l =
    let (ms, p, e) = l.met in
    record {
      met = subst Q e (into ms p);
      least = λ u q. let (ms, p, few) = back u q in omega (arith, l.least ms p, few);
    }

-- u suffices as a maximum: D is satisfied under it
abbrev Suffices : (r : Request) → Definition → (most u : ℕ) → Type 0
Suffices r D most u = (u ≤ most) × Satisfied r D u

-- the minimum handed back is the true least where the least count over all plans is the least maximum that suffices
true-least : {r : Request} {D : Definition} {count : List ℕ → ℕ} {given returned : CountRange} →
    (raised : Raised r count given returned) → LeastNumber (Suffices r D given.most) raised.value →
    TrueLeast r D given returned
true-least raised least =
    record {
      value = raised.value;
      least = least;
      minimum = raised.minimum;
      maximum = raised.maximum;
    }

-- the windows that legal marks draw are within every maximum that the counts of the marks are within
pub drawn-by : (k : ℤ) (shape : Shape) (X : List ℤ) (ms : List ℕ) (yc zc : ℕ) → legal k shape X ms ≡ true →
    windows ms ≤ yc → covered ms ≤ zc → Obeys k shape yc zc X (sequences_of 0 ms)
drawn-by k shape X ms yc zc e few short =
    let (o, number, summed) = theorems.draws k shape X ms e in
    recount X _ _ _ _ _ o (omega (arith, number, few)) (omega (arith, summed, short))

module _ (r : Request) (w : WellFormed r) where
  abbrev s : Settings
  s = r.settings

  wide : (X : List ℤ) → ChosenIn (ranges r) X → length X ≡ slots r
  wide = chosen-slots r (formed-iff.0 w)

  -- windows for loads of the request: at most yc of them, of summed length at most zc
  abbrev Rule : List ℤ → (yc zc : ℕ) → List Sequence → Type 0
  Rule X yc zc S = Obeys s.k s.shape yc zc X S

  -- such windows are drawn by a plan
  plan-of : (X : List ℤ) (yc zc : ℕ) (S : List Sequence) →
      ChosenIn (ranges r) X → yc ≤ s.windows.most → zc ≤ s.covered.most → Rule X yc zc S →
      (ms : List ℕ) × PlanOf r ms × (legal s.k s.shape X ms ≡ true) × (windows ms ≤ yc) × (covered ms ≤ zc)
  plan-of X yc zc S c most-w most-c o =
      let (ms, e, into, onto, number, summed) = theorems.drawn s.k s.shape yc zc X S o in
      let few : windows ms ≤ yc = omega (arith, number, o.number) in
      let short : covered ms ≤ zc = omega (arith, summed, o.summed) in
      (ms, record { in_rule = (X, c, e); windows_fit = omega arith; covered_fit = omega arith }, e, few, short)

  -- D is the rule with D's maximum as the window maximum
  abbrev ByWindows : Definition → Type 0
  ByWindows D =
      (X : List ℤ) → length X ≡ slots r → (yc : ℕ) (S : List Sequence) → D X yc S ↔ Rule X yc s.covered.most S

  module _ (D : Definition) (is : ByWindows D) where
    satisfied : (ms : List ℕ) → PlanOf r ms → (yc : ℕ) → windows ms ≤ yc → Satisfied r D yc
    satisfied ms p yc few =
        let (X, c, e) = p.in_rule in
        (X, c, sequences_of 0 ms, (is X (wide X c) yc _).1 (drawn-by _ _ X ms yc _ e few p.covered_fit))

    planned : (yc : ℕ) → yc ≤ s.windows.most → Satisfied r D yc → (ms : List ℕ) × PlanOf r ms × (windows ms ≤ yc)
    planned yc most (X, c, S, d) =
        let (ms, p, e, few, short) = plan-of X yc _ S c most (le_refl _) ((is X (wide X c) yc S).0 d) in
        (ms, p, few)

    windows-number : {v : ℕ} → LeastOver (PlanOf r) windows v → LeastNumber (Suffices r D s.windows.most) v
    windows-number =
        least-number (PlanOf r) _ (λ ms p. (p.windows_fit, satisfied ms p _ (le_refl _)))
        (λ u (most, q). planned u most q)

    occurs : (i : ℕ) (x : ℤ) → LeftAt r i x ↔ Occurs r D s.windows.most i x
    occurs i x = (
      (λ l. (
        l.loads,
        l.chosen,
        l.there,
        l.occurs,
        sequences_of 0 l.marks,
        (is l.loads (wide _ l.chosen) _ _).1
            (drawn-by _ _ l.loads l.marks _ _ l.in_rule l.plan.windows_fit l.plan.covered_fit),
      )),
      (λ (X, c, there, occurs, S, d).
          let (ms, p, e, few, short) = plan-of X _ _ S c (le_refl _) (le_refl _) ((is X (wide X c) _ S).0 d) in
          record { loads = X; marks = ms; chosen = c; plan = p; in_rule = e; there = there; occurs = occurs }),
    )

    drawn : (o : Outcome) → length o.lowest ≡ slots r → length o.highest ≡ slots r →
        YesFor s (paired o.lowest o.highest) o.marks →
        (X : List ℤ) × ChosenIn (paired o.lowest o.highest) X × D X s.windows.most (sequences_of 0 o.marks)
    drawn o low high d =
        let (e, a, _, _) = yes→allowed s d.loads o.marks _ _ d.yes in
        let allow : Allowed s d.loads o.marks = allowed-iff.0 a in
        let chosen = chosen-length (paired o.lowest o.highest) d.loads d.chosen in
        let as_many = chosen ∙ paired-length o.lowest o.highest (low ∙ sym high) ∙ low in (
          d.loads,
          d.chosen,
          (is d.loads as_many _ _).1
              (drawn-by _ _ d.loads o.marks _ _ allow.in_rule allow.windows_fit allow.covered_fit),
        )

    pub delivers : (o : Outcome) → Keeps r o → Delivers r D o
    delivers o kept =
        record {
          none = (
            (λ e q. let (ms, p, few) = planned _ (le_refl _) q in keeps→no_plan r o kept e ms p),
            (λ none. no_plan→says r o kept w (λ ms p. none (satisfied ms p _ p.windows_fit))),
          );
          some = λ q. let (ms, p, few) = planned _ (le_refl _) q in plan→says-planned r o kept w ms p;
          windows = λ n e.
              let few = (keeps→planned r o kept n e).windows in
              true-least few (windows-number few.least);
          loads = λ n e i there x.
              let exact = ((keeps→planned r o kept n e).narrowed i there).exact x in
              ((λ held. (occurs i x).0 (exact.0 held)), (λ q. exact.1 ((occurs i x).1 q)));
          plan = λ n e. let p = keeps→planned r o kept n e in drawn o p.lowest_length p.highest_length p.drawn;
        }

  -- D is the rule with D's maximum as the covered maximum
  abbrev ByCovered : Definition → Type 0
  ByCovered D =
      (X : List ℤ) → length X ≡ slots r → (zc : ℕ) (S : List Sequence) → D X zc S ↔ Rule X s.windows.most zc S

  module _ (D : Definition) (is : ByCovered D) where
    planned-within : (zc : ℕ) → zc ≤ s.covered.most → Satisfied r D zc →
        (ms : List ℕ) × PlanOf r ms × (covered ms ≤ zc)
    planned-within zc most (X, c, S, d) =
        let (ms, p, e, few, short) = plan-of X _ zc S c (le_refl _) most ((is X (wide X c) zc S).0 d) in
        (ms, p, short)

    covered-number : {v : ℕ} → LeastOver (PlanOf r) covered v → LeastNumber (Suffices r D s.covered.most) v
    covered-number =
        least-number (PlanOf r) _
        (λ ms p.
        let (X, c, e) = p.in_rule in (
          p.covered_fit,
          (X, c, sequences_of 0 ms, (is X (wide X c) _ _).1 (drawn-by _ _ X ms _ _ e p.windows_fit (le_refl _))),
        ))
        (λ u (most, q). planned-within u most q)

    pub delivers-covered : (o : Outcome) → Keeps r o → DeliversCovered r D o
    delivers-covered o kept =
        record {
          some = λ q. let (ms, p, short) = planned-within _ (le_refl _) q in plan→says-planned r o kept w ms p;
          covered = λ n e.
              let short = (keeps→planned r o kept n e).covered in
              true-least short (covered-number short.least);
        }

  -- D is the rule with D's maximums as both maximums
  module _ (D : (X : List ℤ) (yc zc : ℕ) (S : List Sequence) → Type 0)
      (is : (X : List ℤ) (yc zc : ℕ) (S : List Sequence) → D X yc zc S ↔ Rule X yc zc S) where
    -- with v windows, the fewest: the thrift is the least summed length
    thrift-number : {v u : ℕ} → LeastOver (PlanOf r) windows v → ThriftOver (PlanOf r) u →
        LeastNumber (Suffices r (λ X zc S. D X v zc S) s.covered.most) u
    thrift-number {v} few =
        let (ks, k, fewest) = few.met in
        least-number (Fewest (PlanOf r)) _
        (λ ms m.
        let (X, c, legal) = m.holds.in_rule in
        let few-ms : windows ms ≤ v = omega (arith, fewest, m.fewest ks k) in (
          m.holds.covered_fit,
          (X, c, sequences_of 0 ms, (is X v _ _).1 (drawn-by _ _ X ms v _ legal few-ms (le_refl _))),
        ))
        (λ u (most, (X, c, S, d)).
        let most-v : v ≤ s.windows.most = omega (arith, fewest, k.windows_fit) in
        let (ms, p, _, few-ms, short) = plan-of X v u S c most-v most ((is X v u S).0 d) in
        (ms, record { holds = p; fewest = λ ks k. omega (arith, few-ms, few.least ks k) }, short))

    pub delivers-thrift : (o : Outcome) → Keeps r o → (n : PlanCounts) → Says o n → TrueThrift r D n.thrift
    delivers-thrift o kept n e =
        let p = keeps→planned r o kept n e in
        record {
          windows = p.windows.value;
          fewest = windows-number _ (λ X _ yc S. is X yc _ S) p.windows.least;
          least = thrift-number p.windows.least p.thrift;
        }
