-- A request's plans are the marks to which the judge says yes, for some loads in its ranges.
use Prim.Native.Nat.{ℕ}
use mathlib.Core.Bool.{true}
use mathlib.Core.List.{List}
use mathlib.Core.Logic.{◌↔◌}
use mathlib.Core.Path.{◌≡◌, sym, subst}
use Rattle.judge.proofs.Allowed.{Allowed, allowed-iff, allowed→yes, yes→allowed}
use Rattle.refusals.specs.Answer.{gives}
use Rattle.judge.specs.Judgment.{says, allowed, judgment}
use Rattle.rule.proofs.LegalFrom.{legal-length}
use Rattle.rule.proofs.Ranges.{legal_for-iff-ends}
use Rattle.rule.specs.Ranges.{ends_for}
use Rattle.rule.specs.Rule.{carries, legal, windows, covered}
use Rattle.settings.proofs.Accepted.{Accepted, accepted-iff, differs_false}
use Rattle.settings.specs.declared.Settings.{Settings}
use Rattle.requests.proofs.Formed.{Formed, formed-iff, chosen-slots}
use Rattle.requests.specs.Promise.{YesFor}
use Rattle.requests.specs.Request.{Request, ranges, WellFormed, LegalIn, PlanOf}

module _ (r : Request) (good : Formed r) (ms : List ℕ) where
  abbrev s : Settings
  s = r.settings

  -- the judge says yes to a plan with the loads that it is legal for
  pub yes-to : (plan : PlanOf r ms) → judgment s plan.in_rule.0 ms ≡ gives (says true (windows ms) (covered ms))
  yes-to plan =
      let (xs, c, e) = plan.in_rule in
      let n = chosen-slots r good xs c in
      let m = legal-length (carries s.k) s.shape xs ms e in
      allowed→yes s xs ms
      (accepted-iff.1 ((differs_false _ _).1 m, subst (λ n. Accepted n s) (sym n) good.pass))
      (allowed-iff.1 (record { in_rule = e; windows_fit = plan.windows_fit; covered_fit = plan.covered_fit }))

  to : PlanOf r ms → YesFor s (ranges r) ms
  to plan = record { loads = plan.in_rule.0; chosen = plan.in_rule.1; yes = yes-to plan }

  from : YesFor s (ranges r) ms → PlanOf r ms
  from y =
      let a : Allowed s y.loads ms = allowed-iff.0 (yes→allowed s y.loads ms _ _ y.yes).1 in
      record {
        in_rule = (y.loads, y.chosen, a.in_rule);
        windows_fit = a.windows_fit;
        covered_fit = a.covered_fit;
      }

-- for the ends of the ranges on the marks' sides, if for any
pub plan-iff-ends : (r : Request) → Formed r → (ms : List ℕ) →
    PlanOf r ms ↔ (allowed r.settings (ends_for (ranges r) ms) ms ≡ true)
plan-iff-ends r good ms = (to-ends, from-ends)
  where
    legal-at : LegalIn r ms ↔ (legal r.settings.k r.settings.shape (ends_for (ranges r) ms) ms ≡ true)
    legal-at = legal_for-iff-ends r.settings.k r.settings.shape (ranges r) ms good.proper

    to-ends : PlanOf r ms → allowed r.settings (ends_for (ranges r) ms) ms ≡ true
    to-ends p =
        allowed-iff.1 (record {
          in_rule = legal-at.0 p.in_rule;
          windows_fit = p.windows_fit;
          covered_fit = p.covered_fit;
        })

    from-ends : allowed r.settings (ends_for (ranges r) ms) ms ≡ true → PlanOf r ms
    from-ends e =
        let a : Allowed r.settings (ends_for (ranges r) ms) ms = allowed-iff.0 e in
        record {
          in_rule = legal-at.1 a.in_rule;
          windows_fit = a.windows_fit;
          covered_fit = a.covered_fit;
        }

pub plan-iff-yes : (r : Request) → WellFormed r → (ms : List ℕ) → PlanOf r ms ↔ YesFor r.settings (ranges r) ms
plan-iff-yes r w ms = (to r (formed-iff.0 w) ms, from r (formed-iff.0 w) ms)
