-- What the filter promises (document 01, "Filter"), as a relation between what it is given and what comes back.
use Rattle.std.specs.Prelude.{ℕ, ◌<◌, max, true, cond, List, ◌↔◌, ◌≡◌, ℤ, length, ◌≤ℤ◌}
use Rattle.std.proofs.Math.Option.{some}
use Rattle.std.proofs.Math.IntN.{suc_ℤ}
use Rattle.std.specs.Int.Signed.{lt_z}
use Rattle.std.specs.declared.option.Option.{Option}
pub use Rattle.std.specs.declared.option.Option.TheVariants.{None as no_plan, Some as planned}
use Rattle.refusals.specs.Answer.{Answer, refuses, gives}
use Rattle.judge.specs.Judgment.{says, judgment}
use Rattle.rule.specs.Order.{First}
use Rattle.rule.specs.Ranges.{ChosenIn}
use Rattle.rule.specs.declared.Range.{Range}
use Rattle.rule.specs.Rule.{windows, covered, LeastOver}
use Rattle.settings.specs.declared.CountRange.{CountRange}
use Rattle.settings.specs.declared.Settings.{Settings}
use Rattle.requests.specs.Request.{Request, slots, paired, at, threshold_at, filter_refusal, WellFormed, PlanOf}
use Rattle.requests.specs.Request.{LeftAt, Thrift}
pub use Rattle.requests.specs.declared.Loss.{Loss}
pub use Rattle.requests.specs.declared.Loss.TheVariants.{Nothing as nothing, Under as under_part, Over as over_part}
use Rattle.requests.specs.declared.PlanCounts.{PlanCounts}

-- the result for a request that is not refused
abbrev pub Result : Type 0
Result = Option PlanCounts

-- all that comes back: the answer, and what the three slices hold afterwards
pub record Outcome : Type 0 where
  pub answer : Answer Result
  pub lowest : List ℤ
  pub highest : List ℤ
  pub marks : List ℕ

-- the answer is "planned" with these counts; the answer is "planned" with some counts
abbrev pub Says : Outcome → PlanCounts → Type 0
Says o n = o.answer ≡ gives (planned n)

abbrev pub SaysPlanned : Outcome → Type 0
SaysPlanned o = (n : PlanCounts) × Says o n

abbrev pub SaysNoPlan : Outcome → Type 0
SaysNoPlan o = o.answer ≡ gives no_plan

-- load x is in the range that comes back for slot i
abbrev pub Held : Outcome → (i : ℕ) (x : ℤ) → Type 0
Held o i x = (at o.lowest i ≤ℤ x) × (x ≤ℤ at o.highest i)

pub record Unaltered (r : Request) (o : Outcome) : Type 0 where
  pub lowest : o.lowest ≡ r.lowest
  pub highest : o.highest ≡ r.highest
  pub marks : o.marks ≡ r.marks

-- the minimum becomes the larger of the given one and the least of the count over all plans; the maximum does not move
pub record Raised (r : Request) (count : List ℕ → ℕ) (given raised : CountRange) : Type 0 where
  pub value : ℕ
  pub least : LeastOver (PlanOf r) count value
  pub minimum : raised.least ≡ max given.least value
  pub maximum : raised.most ≡ given.most

-- what a slot loses: its under part, so that its lowest load becomes k + 1 if that is larger; its over part, so that
-- its highest load becomes k if that is smaller; or nothing
abbrev pub lowest_after : ℤ → Loss → ℤ → ℤ
lowest_after k nothing lo = lo
lowest_after k under_part lo = cond (lt_z lo (suc_ℤ k)) (suc_ℤ k) lo
lowest_after k over_part lo = lo

abbrev pub highest_after : ℤ → Loss → ℤ → ℤ
highest_after k nothing hi = hi
highest_after k under_part hi = hi
highest_after k over_part hi = cond (lt_z k hi) k hi

-- slot i has its narrowed range: it has lost a part or nothing, and the loads in it are those left to the request
pub record Narrowed (r : Request) (o : Outcome) (i : ℕ) : Type 0 where
  pub loss : Loss
  pub low : at o.lowest i ≡ lowest_after (threshold_at r i) loss (at r.lowest i)
  pub high : at o.highest i ≡ highest_after (threshold_at r i) loss (at r.highest i)
  pub exact : (x : ℤ) → Held o i x ↔ LeftAt r i x

-- for some loads in the ranges the judge says yes to the marks, with their counts
pub record YesFor (s : Settings) (ranges : List Range) (marks : List ℕ) : Type 0 where
  pub loads : List ℤ
  pub chosen : ChosenIn ranges loads
  pub yes : judgment s loads marks ≡ gives (says true (windows marks) (covered marks))

pub record Planned (r : Request) (n : PlanCounts) (o : Outcome) : Type 0 where
  pub windows : Raised r windows r.settings.windows n.windows
  pub covered : Raised r covered r.settings.covered n.covered
  -- no given minimum takes part (document 02, T-02)
  pub thrift : Thrift r n.thrift
  pub lowest_length : length o.lowest ≡ slots r
  pub highest_length : length o.highest ≡ slots r
  pub narrowed : (i : ℕ) → i < slots r → Narrowed r o i
  -- the marks hold a legal plan within both maximums, for loads in the narrowed ranges
  pub drawn : YesFor r.settings (paired o.lowest o.highest) o.marks
  -- it is the first of all plans, the ranges being as given (document 02, T-03)
  pub first : First (PlanOf r) o.marks

abbrev pub NoPlan : Request → Type 0
NoPlan r = (ms : List ℕ) → PlanOf r ms → ⊥

-- what is promised with each answer; neither a refusal nor "no plan" alters a lent slice
abbrev pub Answers : Request → Answer Result → Outcome → Type 0
Answers r (refuses f) o = (filter_refusal r ≡ some f) × Unaltered r o
Answers r (gives no_plan) o = WellFormed r × NoPlan r × Unaltered r o
Answers r (gives (planned n)) o = WellFormed r × Planned r n o

abbrev pub Keeps : Request → Outcome → Type 0
Keeps r o = Answers r o.answer o
