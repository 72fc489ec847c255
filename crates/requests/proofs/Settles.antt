-- A request with one open slot settled, and a request with the window maximum ignored.
use Prim.Native.Nat.{ℕ, suc, ◌≤◌}
use native.Mathlib.Nat.{le_refl}
use native.Mathlib.Omega.{arith}
use mathlib.Core.List.{List}
use mathlib.Core.Path.{◌≡◌, sym, ap, ◌∙◌, subst}
use lib.IntN.{ℤ, pos, suc_ℤ}
use lib.ListN.{set, length-set}
use lib.Seq.{set-get_or}
use lib.Signed.{≤ℤ_refl}
use Rattle.facts.proofs.Integers.{lt→suc-le, le→lt-suc}
use Rattle.rule.proofs.Classes.{class-over, class-under}
use Rattle.rule.proofs.LeastOver.{least-congr}
use Rattle.rule.proofs.Sides.{lt→over, le→under}
use Rattle.rule.proofs.LegalFrom.{legal-length}
use Rattle.settings.proofs.Accepted.{Accepted}
use Rattle.rule.proofs.Counts.{windows-le}
use Rattle.rule.specs.Ranges.{range, under_only, over_only, class_of}
use Rattle.rule.specs.Rule.{carries, windows, LeastOver}
use Rattle.requests.proofs.ChosenIn.{paired-set, replaced-proper, replaced-class}
use Rattle.requests.proofs.Outcomes.{keeps→planned, keeps→no_plan, no_plan→says, plan→says-planned}
use Rattle.requests.proofs.Outcomes.{plan→planned, least_windows}
use Rattle.requests.proofs.Formed.{Formed, formed-iff, class-slots, chosen-slots, unlimited→fits, fits→unlimited}
use Rattle.requests.proofs.SettledPlans.{settled-under, settled-over}
use Rattle.requests.specs.Demand3.{LeastUnlimited, Settling, under, over, Settles, unlimited, CountsUnlimited}
use Rattle.requests.specs.Demand3.{SettlesAnswer}
use Rattle.requests.specs.Promise.{Outcome, Keeps}
use Rattle.requests.specs.Request.{Request, ranges, at, paired, threshold_at, PlanOf, UnlimitedPlanOf}
use Rattle.requests.specs.Request.{Open, settled_under, settled_over}

-- the plans with the window maximum ignored are those with the window range 0 to n
module _ (r : Request) (good : Formed r) where
  unlimited-formed : Formed (unlimited r)
  unlimited-formed =
      record {
        pass = record {
          slots = good.pass.slots;
          length = good.pass.length;
          bridges = good.pass.bridges;
          windows = (omega arith, le_refl _);
          covered = good.pass.covered;
          settle = good.pass.settle;
        };
        width = good.width;
        marked = good.marked;
        proper = good.proper;
      }

  from-unlimited : (ms : List ℕ) → UnlimitedPlanOf r ms → PlanOf (unlimited r) ms
  from-unlimited ms p =
      let (xs, c, e) = p.in_rule in
      record {
        in_rule = p.in_rule;
        windows_fit =
            omega (arith, windows-le ms, legal-length (carries r.settings.k) _ xs ms e, chosen-slots r good xs c);
        covered_fit = p.covered_fit;
      }

  to-unlimited : (ms : List ℕ) → PlanOf (unlimited r) ms → UnlimitedPlanOf r ms
  to-unlimited ms p = record { in_rule = p.in_rule; covered_fit = p.covered_fit }

  least_unlimited : {v : ℕ} → LeastOver (PlanOf (unlimited r)) windows v → LeastUnlimited r v
  least_unlimited = least-congr to-unlimited from-unlimited

  pub some-least : (ms : List ℕ) → UnlimitedPlanOf r ms → (v : ℕ) × LeastUnlimited r v
  some-least ms p =
      let (v, l) = least_windows (unlimited r) (formed-iff.1 unlimited-formed) ms (from-unlimited ms p) in
      (v, least_unlimited l)

module _ (r : Request) (good : Formed r) (i : ℕ) (slot : Open r i) where
  abbrev k : ℤ
  k = threshold_at r i

  abbrev lo : ℤ
  lo = at r.lowest i

  abbrev hi : ℤ
  hi = at r.highest i

  under-ranges : ranges (settled_under r i) ≡ set (ranges r) i (range lo k)
  under-ranges =
      ap (λ los. paired los (set r.highest i k)) (sym (set-get_or r.lowest i (pos 0)))
      ∙ paired-set r.lowest r.highest i lo k

  over-ranges : ranges (settled_over r i) ≡ set (ranges r) i (range (suc_ℤ k) hi)
  over-ranges =
      ap (λ his. paired (set r.lowest i (suc_ℤ k)) his) (sym (set-get_or r.highest i (pos 0)))
      ∙ paired-set r.lowest r.highest i (suc_ℤ k) hi

  under-class : class_of k (range lo k) ≡ under_only
  under-class = class-under k _ (le→under slot.low) (le→under (≤ℤ_refl k))

  over-class : class_of k (range (suc_ℤ k) hi) ≡ over_only
  over-class = class-over k _ (lt→over (le→lt-suc (≤ℤ_refl k)))

  under-formed : Formed (settled_under r i)
  under-formed =
      record {
        pass = good.pass;
        width = length-set r.highest i k ∙ good.width;
        marked = good.marked;
        proper = replaced-proper (ranges r) i lo k under-ranges slot.low good.proper;
      }

  over-formed : Formed (settled_over r i)
  over-formed =
      let n = sym (length-set r.lowest i (suc_ℤ k)) in
      record {
        pass = subst (λ n. Accepted n (settled_over r i).settings) n (record {
          slots = good.pass.slots;
          length = good.pass.length;
          bridges = good.pass.bridges;
          windows = good.pass.windows;
          covered = omega (arith, good.pass.covered);
          settle = good.pass.settle;
        });
        width = good.width ∙ n;
        marked = good.marked ∙ n;
        proper = replaced-proper (ranges r) i (suc_ℤ k) hi over-ranges (lt→suc-le slot.high) good.proper;
      }

  -- settling costs at most one more window: each plan of r gives a plan of q
  abbrev Step : Request → Type 0
  Step q =
      (ms : List ℕ) → UnlimitedPlanOf r ms → (ms' : List ℕ) × UnlimitedPlanOf q ms' × (windows ms' ≤ suc (windows ms))

  under-step : r.settings.shape.settle ≤ 1 → Step (settled_under r i)
  under-step one ms p =
      let (ms', f) = settled-under r.settings.shape i (unlimited→fits r good p) one in (
        ms',
        fits→unlimited (settled_under r i) under-formed (suc (windows ms))
            (rw (replaced-class (ranges r) i lo k under-ranges k under-class) f),
        f.few,
      )

  over-step : r.settings.shape.settle ≡ 0 → Step (settled_over r i)
  over-step none ms p =
      let (ms', f) = settled-over r.settings.shape i (unlimited→fits r good p) none in (
        ms',
        fits→unlimited (settled_over r i) over-formed (suc (windows ms)) (record {
          in_rule = rw (replaced-class (ranges r) i (suc_ℤ k) hi over-ranges k over-class) f.in_rule;
          few = f.few;
          short = omega (arith, f.short, class-slots r good);
        }),
        f.few,
      )

  module _ (q : Request) (q-formed : Formed q) (step : Step q) where
    settles : Settles r q
    settles =
        record {
          well = formed-iff.1 q-formed;
          plan = λ ms p. let (ms', p', few) = step ms p in (ms', p');
          count = λ v a.
              let (ms, p, e) = a.met in
              let (ms', p', few) = step ms p in
              let (w, b) = some-least q q-formed ms' p' in
              (w, b, omega (arith, e, few, b.least ms' p'));
        }

    settles-answer : (before after : Outcome) → Keeps (unlimited r) before → Keeps (unlimited q) after →
        SettlesAnswer before after
    settles-answer before after kb ka =
        record {
          answer = λ n e.
              let a = (keeps→planned (unlimited r) before kb n e).windows in
              let (ms, p, count) = a.least.met in
              let (ms', p', few) = step ms (to-unlimited r good ms p) in
              let q-plan = from-unlimited q q-formed ms' p' in
              let b = plan→planned (unlimited q) after ka (formed-iff.1 (unlimited-formed q q-formed)) ms' q-plan in
              let raised = b.promise.windows in (
                b.counts,
                b.answer,
                omega (arith, a.minimum, count, few, raised.minimum, raised.least.least ms' q-plan),
              );
        }

  pub settling : {q : Request} → Settling r i q → Settles r q
  settling (under one) = settles (settled_under r i) under-formed (under-step one)
  settling (over none) = settles (settled_over r i) over-formed (over-step none)

  pub settling_answers : {q : Request} → Settling r i q → (before after : Outcome) → Keeps (unlimited r) before →
      Keeps (unlimited q) after → SettlesAnswer before after
  settling_answers (under one) = settles-answer (settled_under r i) under-formed (under-step one)
  settling_answers (over none) = settles-answer (settled_over r i) over-formed (over-step none)

pub counting : (r : Request) → Formed r → (o : Outcome) → Keeps (unlimited r) o → CountsUnlimited r o
counting r good o keeps =
    let well = formed-iff.1 (unlimited-formed r good) in
    record {
      well = well;
      some = λ ms p. plan→says-planned (unlimited r) o keeps well ms (from-unlimited r good ms p);
      number = λ n e.
          let a = (keeps→planned (unlimited r) o keeps n e).windows in
          subst (LeastUnlimited r) (omega (arith, a.minimum)) (least_unlimited r good a.least);
      none = (
        (λ e ms p. keeps→no_plan (unlimited r) o keeps e ms (from-unlimited r good ms p)),
        λ n. no_plan→says (unlimited r) o keeps well (λ ms p. n ms (to-unlimited r good ms p)),
      );
    }
