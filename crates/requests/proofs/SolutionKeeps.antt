-- The computed outcome, `solution`, keeps the promise.
use Prim.Native.Nat.{ℕ, ◌≤◌, ◌<◌}
use native.Mathlib.Omega.{arith}
use mathlib.Core.Bool.{Bool, true, false, true≢false}
use mathlib.Core.List.{List}
use mathlib.Core.Option.{Option, none, some}
use mathlib.Core.Path.{◌≡◌, refl, sym, ◌∙◌}
use borrow.Author.Tests.{leb-true}
use lib.ListN.{length}
use Rattle.refusals.specs.Answer.{refuses}
use Rattle.refusals.specs.declared.Refusal.{Refusal}
use Rattle.rule.proofs.LeastOver.{least-congr, thrift-congr}
use Rattle.rule.proofs.Order.{first-congr}
use Rattle.rule.specs.Order.{First}
use Rattle.rule.specs.Ranges.{Class}
use Rattle.rule.specs.Rule.{LeastOver}
use Rattle.settings.specs.declared.Settings.{Settings}
use Rattle.requests.proofs.ChosenIn.{from-slots}
use Rattle.requests.proofs.DrawnPlan.{drawn_plan-first}
use Rattle.requests.proofs.PlansAreJudged.{yes-to}
use Rattle.requests.proofs.LeastCounts.{least_windows, least_covered, thrift}
use Rattle.requests.proofs.LossIsExact.{map_indexed-length, map_indexed-at, stays, loss-exact}
use Rattle.requests.proofs.Formed.{Formed, formed-iff, covered-below-sentinel, chosen-slots, possible→fits}
use Rattle.requests.proofs.Formed.{fits→possible, plan→fits, fits→plan}
use Rattle.requests.specs.Promise.{lowest_after, highest_after, Narrowed, YesFor, Keeps}
use Rattle.requests.specs.Request.{Request, slots, at, paired, filter_refusal, WellFormed, PlanOf}
use Rattle.requests.specs.Solution.{sentinel, classes, least_covered_count, least_window_count, drawn_plan, FitsAt}
use Rattle.requests.specs.Solution.{possible, loss, planned_outcome, unaltered_outcome, solution_by, solution}

module _ (r : Request) (good : Formed r) where
  abbrev s : Settings
  s = r.settings

  abbrev cs : List Class
  cs = classes r

  module _ (e : possible s cs ≡ true) where
    narrow-low : (i : ℕ) → i < slots r → at (planned_outcome r).lowest i
        ≡ lowest_after s.k (loss s cs i) (at r.lowest i)
    narrow-low i bound = map_indexed-at (λ i lo. lowest_after s.k (loss s cs i) lo) r.lowest i bound

    narrow_high : (i : ℕ) → i < slots r → at (planned_outcome r).highest i
        ≡ highest_after s.k (loss s cs i) (at r.highest i)
    narrow_high i bound =
        map_indexed-at (λ i hi. highest_after s.k (loss s cs i) hi) r.highest i (omega (arith, bound, good.width))

    narrowed : (i : ℕ) → i < slots r → Narrowed r (planned_outcome r) i
    narrowed i bound =
        record {
          loss = loss s cs i;
          low = narrow-low i bound;
          high = narrow_high i bound;
          exact = λ x. rw (narrow-low i bound, narrow_high i bound) (loss-exact r good i bound e x);
        }

    wide : length (planned_outcome r).highest ≡ slots r
    wide = map_indexed-length (λ i hi. highest_after s.k (loss s cs i) hi) r.highest ∙ good.width

    to-plan : (ms : List ℕ) → FitsAt s cs ms → PlanOf r ms
    to-plan ms f = fits→plan r good f

    to-fits : (ms : List ℕ) → PlanOf r ms → FitsAt s cs ms
    to-fits ms p = plan→fits r good p

    first : First (PlanOf r) (drawn_plan s cs)
    first =
        let (ms, f) = possible→fits r good cs e in
        first-congr to-plan to-fits (drawn_plan-first s cs (covered-below-sentinel r good) ms f)

    drawn : YesFor s (paired (planned_outcome r).lowest (planned_outcome r).highest) (drawn_plan s cs)
    drawn =
        let plan = first.holds in
        let (xs, c, _) = plan.in_rule in
        let n = chosen-slots r good xs c in
        record {
          loads = xs;
          chosen =
              from-slots xs (planned_outcome r).lowest (planned_outcome r).highest
              (map_indexed-length _ r.lowest ∙ sym n) (wide ∙ sym n)
              (λ i bound.
              let there : i < slots r = omega (arith, bound, n) in
              ((narrowed i there).exact (at xs i)).1 (stays r good plan i there));
          yes = yes-to r good (drawn_plan s cs) plan;
        }

    enough : least_covered_count s cs ≤ s.covered.most
    unfolding possible
    enough = leb-true _ _ e

    -- a least count over the marks that fit the classes is one over the plans
    by-plans : {count : List ℕ → ℕ} {v : ℕ} → LeastOver (FitsAt s cs) count v → LeastOver (PlanOf r) count v
    by-plans = least-congr to-plan to-fits

    kept : WellFormed r → Keeps r (planned_outcome r)
    kept w = (
      w,
      record {
        windows = record {
          value = least_window_count s cs;
          least = by-plans (least_windows sentinel s.shape cs _ _ (covered-below-sentinel r good) enough);
          minimum = refl;
          maximum = refl;
        };
        covered = record {
          value = least_covered_count s cs;
          least = by-plans (least_covered sentinel s.shape cs _ _ (covered-below-sentinel r good) enough);
          minimum = refl;
          maximum = refl;
        };
        thrift =
            thrift-congr to-plan to-fits (thrift sentinel s.shape cs _ _ (covered-below-sentinel r good) enough);
        lowest_length = map_indexed-length _ r.lowest;
        highest_length = wide;
        narrowed = narrowed;
        drawn = drawn;
        first = first;
      },
    )

pub refusal-keeps : (r : Request) {f : Refusal} → filter_refusal r ≡ some f → Keeps r (unaltered_outcome r (refuses f))
refusal-keeps r e = (e, record { lowest = refl; highest = refl; marks = refl })

-- the computed outcome keeps the promise
pub solution-keeps : (r : Request) → Keeps r (solution r)
unfolding solution
solution-keeps r = by (filter_refusal r) (possible r.settings (classes r)) refl refl
  where
    by : (f : Option Refusal) (b : Bool) → filter_refusal r ≡ f → possible r.settings (classes r) ≡ b →
        Keeps r (solution_by f b r)
    by (some f) b p q = refusal-keeps r p
    by none false p q = (
      p,
      (λ ms m. true≢false (sym (fits→possible r (formed-iff.0 p) (plan→fits r (formed-iff.0 p) m)) ∙ q)),
      record { lowest = refl; highest = refl; marks = refl },
    )
    by none true p q = kept r (formed-iff.0 p) q p
