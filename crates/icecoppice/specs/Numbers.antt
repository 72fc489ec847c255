-- The answers of the filter and the judge for C, in numbers, and what these promise.
use Rattle.std.specs.Prelude.{ℕ, ◌≤◌, true, false, List, ◌≡◌, ℤ}
use Rattle.std.proofs.Math.Option.{some}
use Rattle.refusals.specs.Answer.{Answer, refuses, gives}
use Rattle.refusals.specs.Numbers.{number, slot}
use Rattle.refusals.specs.declared.Refusal.{Refusal}
use Rattle.judge.specs.Judgment.{Judgment, says, yes, no, judgment}
use Rattle.settings.specs.declared.Settings.{Settings}
use Rattle.requests.specs.Promise.{Result, no_plan, planned, Outcome, Unaltered, Planned, NoPlan, Keeps}
use Rattle.requests.specs.Request.{Request, filter_refusal, WellFormed, PlanOf}
use Rattle.requests.specs.declared.PlanCounts.{PlanCounts}
use Rattle.icecoppice.specs.declared.AnswerNumbers.{AnswerNumbers}
use Rattle.icecoppice.specs.declared.VerdictNumbers.{VerdictNumbers}

abbrev pub settings_of : ℤ → (len h settle windows-least windows-most covered-least covered-most : ℕ) → Settings
settings_of k len h settle wl wm cl cm =
    record {
      k = k;
      shape = record { len = len; h = h; settle = settle };
      windows = record { least = wl; most = wm };
      covered = record { least = cl; most = cm };
    }

abbrev pub without_counts : (code slot : ℕ) → AnswerNumbers
without_counts code slot =
    record {
      code = code;
      slot = slot;
      windows_least = 0;
      windows_most = 0;
      covered_least = 0;
      covered_most = 0;
      thrift = 0;
    }

-- the code is 0 for planned, 1 for no plan, else the refusal's number; 31 also has its slot
abbrev pub answer_numbers : Answer Result → AnswerNumbers
answer_numbers (refuses r) = without_counts (number r) (slot r)
answer_numbers (gives no_plan) = without_counts 1 0
answer_numbers (gives (planned n)) =
    record {
      code = 0;
      slot = 0;
      windows_least = n.windows.least;
      windows_most = n.windows.most;
      covered_least = n.covered.least;
      covered_most = n.covered.most;
      thrift = n.thrift;
    }

-- the code is 0 for yes, 1 for no, else the refusal's number
abbrev pub verdict_numbers : Judgment → VerdictNumbers
verdict_numbers (gives (yes counts)) = record { code = 0; windows = counts.windows; covered = counts.covered }
verdict_numbers (gives no) = record { code = 1; windows = 0; covered = 0 }
verdict_numbers (refuses r) = record { code = number r; windows = 0; covered = 0 }

abbrev pub outcome : Answer Result → (lowest highest : List ℤ) (marks : List ℕ) → Outcome
outcome a los his ms = record { answer = a; lowest = los; highest = his; marks = ms }

-- The numbers are those of an answer that keeps the filter's promise, with what the slices hold then. What a caller
-- can tell from them is `Means` (proofs/Means.antt).
pub record KeepsInNumbers (r : Request) (numbers : AnswerNumbers) (lowest highest : List ℤ)
    (marks : List ℕ) : Type 0 where
  pub answer : Answer Result
  pub is : numbers ≡ answer_numbers answer
  pub kept : Keeps r (outcome answer lowest highest marks)

-- What a caller can tell from the numbers and the slices. Exactly one of the three cases applies, and no two of them
-- share a code.
pub record Means (r : Request) (numbers : AnswerNumbers) (lowest highest : List ℤ) (marks : List ℕ) : Type 0 where
  pub refusal : (f : Refusal) → filter_refusal r ≡ some f →
      (numbers ≡ answer_numbers (refuses f)) × (11 ≤ numbers.code)
      × Unaltered r (outcome (refuses f) lowest highest marks)
  pub none : WellFormed r → NoPlan r → (numbers ≡ answer_numbers (gives no_plan))
      × Unaltered r (outcome (gives no_plan) lowest highest marks)
  pub plan : WellFormed r → (ms : List ℕ) → PlanOf r ms →
      (n : PlanCounts)
      × (numbers ≡ answer_numbers (gives (planned n))) × Planned r n (outcome (gives (planned n)) lowest highest marks)

-- What a caller can tell from the judge's numbers.
pub record VerdictMeans (s : Settings) (loads : List ℤ) (marks : List ℕ) : Type 0 where
  pub refusal : (f : Refusal) → judgment s loads marks ≡ refuses f →
      ((verdict_numbers (judgment s loads marks)).code ≡ number f) × (11 ≤ number f)
  pub yes : (w c : ℕ) → judgment s loads marks ≡ gives (says true w c) →
      verdict_numbers (judgment s loads marks) ≡ record { code = 0; windows = w; covered = c }
  pub no : (w c : ℕ) → judgment s loads marks ≡ gives (says false w c) →
      (verdict_numbers (judgment s loads marks)).code ≡ 1
