-- What the judge says (document 01, "Judge").
use Rattle.std.specs.Prelude.{ℕ, Bool, true, false, cond, ◌&&◌, List, leb, ℤ, length}
use Rattle.std.proofs.Math.Option.{Option}
use Rattle.std.specs.declared.option.Option.{Option as RustOption}
pub use Rattle.std.specs.declared.option.Option.TheVariants.{Some as yes, None as no}
use Rattle.refusals.specs.declared.Refusal.{Refusal}
use Rattle.settings.specs.declared.Settings.{Settings}
use Rattle.judge.specs.declared.Counts.{Counts}
use Rattle.rule.specs.Rule.{legal, windows, covered}
use Rattle.refusals.specs.Answer.{Answer, answer}
use Rattle.settings.specs.Refusals.{differs, refusal}

-- yes, with the window and covered counts, or no
abbrev pub YesOrNo : Type 0
YesOrNo = RustOption Counts

-- the counts go with yes alone
abbrev pub says : (yes : Bool) (windows covered : ℕ) → YesOrNo
says true w c = yes (record { windows = w; covered = c })
says false w c = no

abbrev pub Judgment : Type 0
Judgment = Answer YesOrNo

-- the marks are legal for these loads and both counts are at most their maximums; the minimums take no part
unfoldable pub allowed : Settings → List ℤ → List ℕ → Bool
allowed s loads marks =
    legal s.k s.shape loads marks && leb (windows marks) s.windows.most
    && leb (covered marks) s.covered.most

-- which refusal the judge gives, if any
abbrev pub judge_refusal : Settings → List ℤ → List ℕ → Option Refusal
judge_refusal s loads marks = refusal (length loads) (differs (length loads) (length marks)) s

unfoldable pub judgment : Settings → List ℤ → List ℕ → Judgment
judgment s loads marks =
    answer (judge_refusal s loads marks)
    (cond (allowed s loads marks) (says true (windows marks) (covered marks)) (says false 0 0))
