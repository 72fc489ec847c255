-- Loosening a request never takes away a plan, a load or a lower count.
use Prim.Native.Nat.{ℕ, ◌≤◌, ◌<◌}
use native.Mathlib.Omega.{arith}
use mathlib.Core.List.{List}
use mathlib.Core.Path.{◌≡◌, sym, ◌∙◌, subst}
use mathlib.Core.Bool.{true}
use lib.IntN.{ℤ}
use Rattle.facts.proofs.Integers.{≤ℤ-trans}
use Rattle.rule.proofs.LeastOver.{least-mono}
use Rattle.rule.proofs.LooserShape.{legal_by-mono}
use Rattle.rule.specs.Ranges.{ChosenIn}
use Rattle.rule.specs.Rule.{carries, legal, windows, covered, LeastOver}
use Rattle.settings.specs.declared.CountRange.{CountRange}
use Rattle.requests.proofs.ChosenIn.{in-slots, from-slots}
use Rattle.requests.proofs.Outcomes.{keeps→planned, plan→planned, least_windows, least_covered}
use Rattle.requests.proofs.Formed.{formed-iff, chosen-slots}
use Rattle.requests.specs.Demand3.{Wider, Looser, Loosens, LoosensAnswer}
use Rattle.requests.specs.Promise.{Raised, Outcome, Says, Keeps}
use Rattle.requests.specs.Request.{Request, slots, ranges, WellFormed, LegalWith, PlanOf, LeftAt}
use Rattle.requests.specs.declared.PlanCounts.{PlanCounts}

module _ (t l : Request) (t-formed : WellFormed t) (l-formed : WellFormed l) (looser : Looser l t) where
  chosen : (xs : List ℤ) → ChosenIn (ranges t) xs → ChosenIn (ranges l) xs
  chosen xs c =
      let n = chosen-slots t (formed-iff.0 t-formed) xs c in
      from-slots xs l.lowest l.highest (looser.as_many ∙ sym n)
      ((formed-iff.0 l-formed).width ∙ looser.as_many ∙ sym n)
      (λ i bound.
      let there : i < slots t = omega (arith, bound, n) in
      let (lo, hi) =
      in-slots t.lowest t.highest xs i there (omega (arith, there, (formed-iff.0 t-formed).width)) c in
      let (lo', hi') = looser.contains i there in
      (≤ℤ-trans lo' lo, ≤ℤ-trans hi hi'))

  in_rule : (xs : List ℤ) (ms : List ℕ) → LegalWith t xs ms → LegalWith l xs ms
  in_rule xs ms e =
      subst (λ k. legal k l.settings.shape xs ms ≡ true) (sym (looser.threshold 0))
      (legal_by-mono looser.shape (carries t.settings.k) xs ms e)

  plans : (ms : List ℕ) → PlanOf t ms → PlanOf l ms
  plans ms p =
      let (xs, c, e) = p.in_rule in
      record {
        in_rule = (xs, chosen xs c, in_rule xs ms e);
        windows_fit = omega (arith, p.windows_fit, looser.windows.most);
        covered_fit = omega (arith, p.covered_fit, looser.covered.most);
      }

  loads : (i : ℕ) (x : ℤ) → LeftAt t i x → LeftAt l i x
  loads i x m =
      record {
        loads = m.loads;
        marks = m.marks;
        chosen = chosen m.loads m.chosen;
        plan = plans m.marks m.plan;
        in_rule = in_rule m.loads m.marks m.in_rule;
        there = m.there;
        occurs = m.occurs;
      }

  -- where t has a least count, l has one that is no higher
  counts : {count : List ℕ → ℕ} → ((ms : List ℕ) → PlanOf l ms → (w : ℕ) × LeastOver (PlanOf l) count w) →
      (v : ℕ) → LeastOver (PlanOf t) count v → (w : ℕ) × LeastOver (PlanOf l) count w × (w ≤ v)
  counts some v a =
      let (ms, p, _) = a.met in
      let (w, b) = some ms (plans ms p) in
      (w, b, least-mono plans a b)

  pub loosening : Loosens t l
  loosening =
      record {
        plans = plans;
        loads = loads;
        windows = counts (least_windows l l-formed);
        covered = counts (least_covered l l-formed);
      }

  minimum : (count : List ℕ → ℕ) (given given' w w' : CountRange) → Wider given' given →
      Raised t count given w → Raised l count given' w' → w'.least ≤ w.least
  minimum count given given' w w' g a b =
      omega (arith, least-mono plans a.least b.least, g.least, a.minimum, b.minimum)

  pub loosening_answers : (first second : Outcome) → Keeps t first → Keeps l second →
      (n : PlanCounts) → Says first n → LoosensAnswer t first second n
  loosening_answers first second kept kept' n e =
      let p = keeps→planned t first kept n e in
      let (ms, plan, _) = p.windows.least.met in
      let q = plan→planned l second kept' l-formed ms (plans ms plan) in
      record {
        counts = q.counts;
        answer = q.answer;
        loads = λ i bound x m.
            let bound' : i < slots l = omega (arith, bound, looser.as_many) in
            ((q.promise.narrowed i bound').exact x).1 (loads i x (((p.narrowed i bound).exact x).0 m));
        windows =
            minimum windows _ _ n.windows q.counts.windows looser.windows p.windows q.promise.windows;
        covered =
            minimum covered _ _ n.covered q.counts.covered looser.covered p.covered q.promise.covered;
      }
