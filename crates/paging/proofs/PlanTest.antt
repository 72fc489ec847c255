-- Whether marks are a plan, from what the judge answers for the ends on their sides.
use Prim.Native.Nat.{ℕ}
use mathlib.Core.Bool.{Bool, true, false, cond}
use mathlib.Core.List.{List}
use mathlib.Core.Option.{none}
use mathlib.Core.Path.{◌≡◌, refl, sym, ap, ◌∙◌}
use lib.IntN.{ℤ}
use lib.ListN.{length}
use Rattle.judge.specs.Judgment.{YesOrNo, yes, no, says, allowed, judge_refusal, judgment}
use Rattle.refusals.specs.Answer.{Answer, refuses, gives}
use Rattle.refusals.specs.declared.Refusal.{Refusal}
use Rattle.requests.specs.Request.{paired}
use Rattle.rule.specs.Ranges.{ends_for}
use Rattle.settings.proofs.Accepted.{differs_false}
use Rattle.settings.specs.Refusals.{refusal}
use Rattle.settings.specs.declared.Settings.{Settings}
use Rattle.paging.proofs.Ends.{paired-ends}
use Rattle.paging.specs.Parting.{is_plan}

-- an answer that is a yes
abbrev pub yes? : Answer YesOrNo → Bool
yes? (refuses r) = false
yes? (gives (yes n)) = true
yes? (gives no) = false

pub plan-is-yes : (s : Settings) (los his : List ℤ) (ms : List ℕ) (loads : List ℤ) →
    refusal (length los) false s ≡ none → length his ≡ length los → length ms ≡ length los →
    loads ≡ ends_for (paired los his) ms → yes? (judgment s loads ms) ≡ is_plan s los his ms
unfolding is_plan judgment
plan-is-yes s los his ms loads pass width marked chosen =
    let slots : length loads ≡ length los =
    ap length chosen ∙ paired-ends los his ms width in
    let accepted : judge_refusal s loads ms ≡ none = rw (slots, (differs_false (length los) (length ms)).1 marked) pass in
    rw (accepted, ← chosen) (by _ _ (allowed s loads ms))
  where
    by : (w c : ℕ) (b : Bool) → yes? (gives (cond b (says true w c) (says false 0 0))) ≡ b
    by w c true = refl
    by w c false = refl

module _ (s : Settings) (los his : List ℤ) (ms : List ℕ) (loads : List ℤ) (v : Answer YesOrNo)
    (pass : refusal (length los) false s ≡ none) (width : length his ≡ length los) (marked : length ms ≡ length los)
    (chosen : loads ≡ ends_for (paired los his) ms) (answers : v ≡ judgment s loads ms) where
  by-answer : yes? v ≡ is_plan s los his ms
  by-answer = ap yes? answers ∙ plan-is-yes s los his ms loads pass width marked chosen

  pub yes-plan : (w c : ℕ) → v ≡ gives (says true w c) → true ≡ is_plan s los his ms
  yes-plan w c e = sym (ap yes? e) ∙ by-answer

  not_yes : yes? v ≡ false → false ≡ is_plan s los his ms
  not_yes e = sym e ∙ by-answer

  pub no_plan : v ≡ gives no → false ≡ is_plan s los his ms
  no_plan e = not_yes (ap yes? e)

  pub refused-plan : (r : Refusal) → v ≡ refuses r → false ≡ is_plan s los his ms
  refused-plan r e = not_yes (ap yes? e)
