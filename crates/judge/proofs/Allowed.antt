-- What it means that a plan is allowed, as three facts; what the judge says yes to, and what it refuses.
use Prim.Native.Nat.{ℕ, ◌≤◌}
use mathlib.Core.Bool.{Bool, true, false, cond, ◌&&◌}
use mathlib.Core.List.{List}
use mathlib.Core.Logic.{◌↔◌}
use mathlib.Core.Option.{none, some}
use mathlib.Core.Path.{◌≡◌, refl, sym, ap}
use borrow.Author.Tests.{le-leb, leb-true}
use lib.Dec.{leb}
use lib.IntN.{ℤ}
use Rattle.facts.proofs.Tests.{and-true→both}
use Rattle.refusals.proofs.Answer.{answer-refuses, answer-gives}
use Rattle.refusals.specs.Answer.{refuses, gives}
use Rattle.refusals.specs.declared.Refusal.{Refusal}
use Rattle.settings.specs.declared.Settings.{Settings}
use Rattle.judge.specs.Judgment.{YesOrNo, yes, no, says, allowed, judge_refusal, judgment}
use Rattle.judge.specs.declared.Counts.{Counts}
use Rattle.rule.specs.Rule.{legal, windows, covered}

pub record Allowed (s : Settings) (loads : List ℤ) (marks : List ℕ) : Type 0 where
  pub in_rule : legal s.k s.shape loads marks ≡ true
  pub windows_fit : windows marks ≤ s.windows.most
  pub covered_fit : covered marks ≤ s.covered.most

pub allowed-iff : {s : Settings} {loads : List ℤ} {marks : List ℕ} →
    (allowed s loads marks ≡ true) ↔ Allowed s loads marks
unfolding allowed
allowed-iff {s} {loads} {marks} = (to, from)
  where
    to : allowed s loads marks ≡ true → Allowed s loads marks
    to e =
        let yes = legal s.k s.shape loads marks in
        let (front, covered_fit) = and-true→both (yes && leb (windows marks) s.windows.most) _ e in
        let (in_rule, windows_fit) = and-true→both yes _ front in
        record { in_rule = in_rule; windows_fit = leb-true _ _ windows_fit; covered_fit = leb-true _ _ covered_fit }

    from : Allowed s loads marks → allowed s loads marks ≡ true
    from a = rw (a.in_rule, le-leb _ _ a.windows_fit, le-leb _ _ a.covered_fit)

-- the counts that go with yes
abbrev counts? : YesOrNo → Counts
counts? (yes n) = n
counts? no = record { windows = 0; covered = 0 }

module _ (s : Settings) (loads : List ℤ) (marks : List ℕ) where
  -- the judge says yes to what is allowed, where it refuses nothing
  pub allowed→yes : judge_refusal s loads marks ≡ none → allowed s loads marks ≡ true →
      judgment s loads marks ≡ gives (says true (windows marks) (covered marks))
  unfolding judgment
  allowed→yes e a = rw (e, a)

  -- it says yes to nothing else
  pub yes→allowed : (w c : ℕ) → judgment s loads marks ≡ gives (says true w c) →
      (judge_refusal s loads marks ≡ none) × (allowed s loads marks ≡ true) × (windows marks ≡ w) × (covered marks ≡ c)
  unfolding judgment
  yes→allowed w c j =
      let (o, e) = answer-gives _ _ j in
      let (a, windows, covered) = by (allowed s loads marks) e in
      (o, a, windows, covered)
    where
      by : (b : Bool) → says true w c ≡ cond b (says true (windows marks) (covered marks)) (says false 0 0) →
          (b ≡ true) × (windows marks ≡ w) × (covered marks ≡ c)
      by true e = (refl, ap (λ j. (counts? j).windows) (sym e), ap (λ j. (counts? j).covered) (sym e))
      by false e = cc

  -- it refuses with the refusal that is given, and in no other situation
  pub judgment-refuses : (r : Refusal) → (judgment s loads marks ≡ refuses r) ↔ (judge_refusal s loads marks ≡ some r)
  unfolding judgment
  judgment-refuses r = answer-refuses _ _ r
