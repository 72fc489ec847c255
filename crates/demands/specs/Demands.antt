-- The three demands on one page, over every operation that a caller can reach. Each line is a theorem, or says that
-- an operation meets its contract, which asks nothing of the caller (`Contracts`, at the end). What relates two
-- crates is proved in proofs/, all else where its subject is.
--
-- What an operation hands back is known from its contract, and from nothing else. What the filter hands back for a
-- request r is an outcome o with `Keeps r o`: each line below that has `Keeps` speaks of it. What the judge answers
-- is `judgment`, what the chooser hands back is `Chosen`, what a watch gives is `starting`, `Steps` and `Runs`, what
-- the reader leaves is `reading`, what a look-up gives, also through a view, is `looking`, what the writer leaves is
-- `writing`, and what a page gives and leaves is `Turns`.
use Rattle.std.specs.Prelude.{ℕ, ◌≤◌, ◌<◌, max, true, false, List, [], ◌↔◌, ◌⊎◌, ◌≡◌, ℤ, length}
use Rattle.std.proofs.Math.Option.{none, some}
use Rattle.std.specs.Borrow.{Bor}
use Rattle.std.specs.Int.{w32}
use Rattle.std.proofs.Common.{SFits}
use Rattle.rule.specs.Order.{Begins, First}
use Rattle.rule.specs.Ranges.{ChosenIn, Class, ends_for}
use Rattle.rule.specs.declared.Range.{Range}
use Rattle.refusals.specs.Answer.{Answer, refuses, gives}
use Rattle.refusals.specs.Numbers.{number, slot}
use Rattle.refusals.specs.Table.{row}
use Rattle.refusals.specs.declared.Refusal.{Refusal}
use Rattle.refusals.specs.declared.Refusal.TheVariants.{Lent, Slot, Unreached, Full}
use Rattle.settings.specs.Refusals.{refusal}
use Rattle.settings.specs.declared.CountRange.{CountRange}
use Rattle.settings.specs.declared.Settings.{Settings}
use Rattle.judge.specs.Judgment.{says, allowed, judge_refusal, judgment}
use Rattle.chooser.specs.Choice.{Chosen, Chooses}
use Rattle.published.specs.Published.{Sequence, size, sum, ◌⊆◌, Focus, SpringyFocus, WeightedFocus}
use Rattle.published.specs.Published.{WeightedSpringyFocus, Obeys, sequences_of, Theorems}
use Rattle.published.specs.Examples.{Examples}
use Rattle.requests.specs.Cases.{cases, Kept, ThriftRises, SettlingFails}
use Rattle.requests.specs.Demand3.{Demand3}
use Rattle.requests.specs.Promise.{Outcome, Says, SaysPlanned, SaysNoPlan, Held, Unaltered, YesFor, Keeps}
use Rattle.requests.specs.Request.{Request, slots, paired, ranges, at, filter_refusal, WellFormed, PlanOf}
use Rattle.requests.specs.declared.PlanCounts.{PlanCounts}
use Rattle.requests.specs.Solution.{sentinel, completed, drawn_plan, FitsAt, CountsAreLeast, solution}
use Rattle.paging.specs.Pages.{Enumerates}
use Rattle.paging.specs.Paging.{Call, RefusedWith, NextPlan, Result, Turns}
use Rattle.paging.specs.declared.Page.TheVariants.{End as no_further}
use Rattle.watch.specs.Promise.{Steps, Runs, RunsFromReached, CountIsLeast, CaseL}
use Rattle.watch.specs.Start.{starting}
use Rattle.watch.specs.States.{start_refusal, LeadsTo, Reached}
use Rattle.watch.specs.Tested.{Tested}
use Rattle.watch.specs.declared.Watch.{Watch}
use Rattle.watch.specs.declared.step.Stepped.{Stepped}
use Rattle.form1.specs.Form1.{refusal as File·refusal}
use Rattle.form1.specs.Layout.{ReadBack, OnlyEncoded}
use Rattle.card.specs.Reading.{lent_too_short, reading}
use Rattle.card.specs.declared.Header.{Header}
use Rattle.card.specs.LookUp.{no_slot, looking, LookUpAgrees}
use Rattle.writer.specs.Writing.{writer_refusal, writing, StoresAccepted}
use Rattle.listing.specs.Cases.{Cases as Listing-as-Cases}
use Rattle.listing.specs.Text.{Decimal}
use Rattle.icecoppice.specs.FileNumbers.{header_numbers, found_numbers, writing_numbers, CodeMeans}
use Rattle.icecoppice.specs.Numbers.{KeepsInNumbers, Means, VerdictMeans}
use Rattle.icecoppice.specs.PageNumbers.{TurnsInNumbers, PageMeans}
use Rattle.icecoppice.specs.WatchNumbers.{StepsInNumbers, StartMeans, StepMeans}
use Rattle.icecoppice.specs.declared.AnswerNumbers.{AnswerNumbers}
use Rattle.icecoppice.specs.declared.pages.PageNumbers.{PageNumbers}
use Rattle.icecoppice.specs.declared.watches.StepNumbers.{StepNumbers}
use Rattle.demands.specs.Operation.{Operation}
use Rattle.demands.specs.RoundTrip.{ReadsBack, WritesBack, Shortest}
use Rattle.filter.proofs.filter as Filter
use Rattle.filter.specs.contracts.filter as FilterContract
use Rattle.judge.proofs.judge as Judge
use Rattle.judge.specs.contracts.judge as JudgeContract
use Rattle.chooser.proofs.choose as Choose
use Rattle.chooser.specs.contracts.choose as ChooseContract
use Rattle.paging.proofs.next_plan as NextPage
use Rattle.paging.specs.contracts.next_plan as NextPageContract
use Rattle.watch.proofs.Watch.start as Start
use Rattle.watch.specs.contracts.Watch.start as StartContract
use Rattle.watch.proofs.Watch.step as Step
use Rattle.watch.specs.contracts.Watch.step as StepContract
use Rattle.watch.proofs.Watch.run as Run
use Rattle.watch.specs.contracts.Watch.run as RunContract
use Rattle.card.proofs.read as Read
use Rattle.card.specs.contracts.read as ReadContract
use Rattle.card.proofs.look_up as LookUp
use Rattle.card.specs.contracts.look_up as LookUpContract
use Rattle.view.proofs.view_of as ViewOf
use Rattle.view.specs.contracts.view_of as ViewOfContract
use Rattle.view.proofs.View.look_up as ViewLookUp
use Rattle.view.specs.contracts.View.look_up as ViewLookUpContract
use Rattle.view.proofs.viewed as Viewed
use Rattle.view.specs.contracts.viewed as ViewedContract
use Rattle.writer.proofs.write as Write
use Rattle.writer.specs.contracts.write as WriteContract
use Rattle.listing.proofs.write_answer as WriteAnswer
use Rattle.listing.specs.contracts.write_answer as WriteAnswerContract
use Rattle.listing.proofs.write_refusal as WriteRefusal
use Rattle.listing.specs.contracts.write_refusal as WriteRefusalContract
use Rattle.icecoppice.proofs.icecoppice_filter as CFilter
use Rattle.icecoppice.specs.contracts.icecoppice_filter as CFilterContract
use Rattle.icecoppice.proofs.icecoppice_judge as CJudge
use Rattle.icecoppice.specs.contracts.icecoppice_judge as CJudgeContract
use Rattle.icecoppice.proofs.icecoppice_next_plan as CNextPage
use Rattle.icecoppice.specs.contracts.icecoppice_next_plan as CNextPageContract
use Rattle.icecoppice.proofs.icecoppice_read as CRead
use Rattle.icecoppice.specs.contracts.icecoppice_read as CReadContract
use Rattle.icecoppice.proofs.icecoppice_look_up as CLookUp
use Rattle.icecoppice.specs.contracts.icecoppice_look_up as CLookUpContract
use Rattle.icecoppice.proofs.icecoppice_write as CWrite
use Rattle.icecoppice.specs.contracts.icecoppice_write as CWriteContract
use Rattle.icecoppice.proofs.icecoppice_watch_start as CStart
use Rattle.icecoppice.specs.contracts.icecoppice_watch_start as CStartContract
use Rattle.icecoppice.proofs.icecoppice_watch_step as CStep
use Rattle.icecoppice.specs.contracts.icecoppice_watch_step as CStepContract
use Rattle.buffer.proofs.put_bytes as PutBytes
use Rattle.buffer.specs.contracts.put_bytes as PutBytesContract
use Rattle.buffer.proofs.put_byte as PutByte
use Rattle.buffer.specs.contracts.put_byte as PutByteContract
use Rattle.rule.proofs.over as Over
use Rattle.rule.specs.contracts.over as OverContract
use Rattle.settings.proofs.check as Check
use Rattle.settings.specs.contracts.check as CheckContract
use Rattle.settings.proofs.check_lengths as CheckLengths
use Rattle.settings.specs.contracts.check_lengths as CheckLengthsContract
use Rattle.settings.proofs.check_settings as CheckSettings
use Rattle.settings.specs.contracts.check_settings as CheckSettingsContract
use Rattle.settings.proofs.check_shape as CheckShape
use Rattle.settings.specs.contracts.check_shape as CheckShapeContract
use Rattle.settings.proofs.differ as Differ
use Rattle.settings.specs.contracts.differ as DifferContract
use Rattle.checks.proofs.check_request as CheckRequest
use Rattle.checks.specs.contracts.check_request as CheckRequestContract
use Rattle.rule.proofs.class_of as ClassOf
use Rattle.rule.specs.contracts.class_of as ClassOfContract
use Rattle.least.proofs.least_counts as LeastCountsOf
use Rattle.least.specs.contracts.least_counts as LeastCountsOfContract
use Rattle.least.proofs.row_after as RowAfter
use Rattle.least.specs.contracts.row_after as RowAfterContract
use Rattle.marks.proofs.close_window as CloseWindow
use Rattle.marks.specs.contracts.close_window as CloseWindowContract
use Rattle.marks.proofs.next_mark as NextMark
use Rattle.marks.specs.contracts.next_mark as NextMarkContract
use Rattle.marks.proofs.left_of as LeftOf
use Rattle.marks.specs.contracts.left_of as LeftOfContract
use Rattle.marks.proofs.lacking as Lacking
use Rattle.marks.specs.contracts.lacking as LackingContract
use Rattle.marks.proofs.unless_lacking as UnlessLacking
use Rattle.marks.specs.contracts.unless_lacking as UnlessLackingContract
use Rattle.drawing.proofs.classify as Classify
use Rattle.drawing.specs.contracts.classify as ClassifyContract
use Rattle.drawing.proofs.draw as Draw
use Rattle.drawing.specs.contracts.draw as DrawContract
use Rattle.drawing.proofs.complete as Complete
use Rattle.drawing.specs.contracts.complete as CompleteContract
use Rattle.form1.proofs.open as Open
use Rattle.form1.specs.contracts.open as OpenContract
use Rattle.form1.proofs.range_at as RangeAt
use Rattle.form1.specs.contracts.range_at as RangeAtContract
use Rattle.form1.proofs.put_range as PutRange
use Rattle.form1.specs.contracts.put_range as PutRangeContract
use Rattle.form1.proofs.put_trailer as PutTrailer
use Rattle.form1.specs.contracts.put_trailer as PutTrailerContract
use Rattle.refusals.proofs.Refusal.number as Number
use Rattle.refusals.specs.contracts.Refusal.number as NumberContract
use Rattle.refusals.proofs.Refusal.slot as RefusedSlot
use Rattle.refusals.specs.contracts.Refusal.slot as RefusedSlotContract

-- Demand 1: every input gets a result or one numbered refusal (from the chooser, an empty part), and what is lent is
-- unaltered after a refusal, a "no plan" or the last page. That every input may be given follows from `Contracts`. The
-- judge, the chooser, the watch, the look-up and the view take values and shared slices, and write nothing; the listing
-- refuses nothing.
pub record Demand1 : Type 0 where
  -- the filter refuses with the first refusal that applies, and in no other situation
  pub filter : (r : Request) (o : Outcome) → Keeps r o → (f : Refusal) →
      (o.answer ≡ refuses f) ↔ (filter_refusal r ≡ some f)
  -- so do the judge, a watch's start, the reader, the look-up and the writer
  pub judge : (s : Settings) (loads : List ℤ) (marks : List ℕ) (f : Refusal) →
      (judgment s loads marks ≡ refuses f) ↔ (judge_refusal s loads marks ≡ some f)
  pub start : (k : ℤ) (len h : ℕ) (f : Refusal) → (starting k len h ≡ refuses f) ↔ (start_refusal len h ≡ some f)
  pub reader : (file : List ℕ) (los his : List ℤ) (f : Refusal) →
      ((reading file los his).answer ≡ refuses f) ↔ (File·refusal (row Lent (lent_too_short los his file)) file ≡ some f)
  pub look_up : (slot : ℕ) (file : List ℕ) (f : Refusal) →
      (looking slot file ≡ refuses f) ↔ (File·refusal (row Slot (no_slot slot file)) file ≡ some f)
  pub writer : (s : Settings) (los his : List ℤ) (buffer : List ℕ) (f : Refusal) →
      ((writing s los his buffer).answer ≡ refuses f) ↔ (writer_refusal s los his buffer ≡ some f)
  -- so does the paging, with the first of its rows, or with 35 after all of them
  pub paging : (q : Call) (a : Answer Result) (ms : List ℕ) → Turns q a ms → (f : Refusal) →
      (a ≡ refuses f) ↔ RefusedWith q f
  -- the filter's promise decides the answer and what all three slices hold
  pub decided : (r : Request) (o p : Outcome) → Keeps r o → Keeps r p → o ≡ p
  pub unaltered : (r : Request) (o : Outcome) → Keeps r o →
      (SaysNoPlan o → Unaltered r o) × ((f : Refusal) → o.answer ≡ refuses f → Unaltered r o)
  -- so does that of the paging, which leaves the lent slice as it was where it refuses and at the end
  pub paging_decided : (q : Call) (a b : Answer Result) (ms ks : List ℕ) → Turns q a ms → Turns q b ks →
      (a ≡ b) × (ms ≡ ks)
  pub paging_unaltered : (q : Call) (a : Answer Result) (ms : List ℕ) → Turns q a ms →
      (a ≡ gives no_further → ms ≡ q.request.marks) × ((f : Refusal) → a ≡ refuses f → ms ≡ q.request.marks)
  -- the chooser hands back one of the two plans, to which the judge says yes; or the empty part, exactly where the
  -- judge refuses one of the two or says no to both
  pub chooser : (s : Settings) (loads : List ℤ) (a b r : Bor (List ℕ)) → Chosen s loads a b r → Chooses s loads a b r
  -- a refusal of a step is 32 or 33, each exactly when `Steps` says, and keeps the state
  pub step : (w : Watch) (load : ℤ) (r : Stepped) → Steps w load r → (f : Refusal) → r.answer ≡ refuses f →
      ((f ≡ Unreached) ⊎ (f ≡ Full)) × (r.watch ≡ w)
  -- a run is refused by one of its steps; from a state that loads lead to, it is refused with 33, exactly when loads
  -- are left after the limit is reached
  pub run : (w v : Watch) (loads : List ℤ) (taken : ℕ) (f : Refusal) → Runs w loads v taken (some f) →
      (f ≡ Unreached) ⊎ (f ≡ Full)
  pub run_to_limit : RunsFromReached
  -- where the reader refuses, it leaves both slices as they were
  pub reader_unaltered : (file : List ℕ) (los his : List ℤ) (f : Refusal) → (reading file los his).answer ≡ refuses f →
      ((reading file los his).lowest ≡ los) × ((reading file los his).highest ≡ his)
  -- where the writer refuses, it leaves the buffer as it was
  pub writer_unaltered : (s : Settings) (los his : List ℤ) (buffer : List ℕ) (f : Refusal) →
      (writing s los his buffer).answer ≡ refuses f → (writing s los his buffer).buffer ≡ buffer
  -- for C, the numbers tell which of these answers it was, and the filter's lent slices are as it leaves them
  pub filter_for_c : (r : Request) (numbers : AnswerNumbers) (los his : List ℤ) (ms : List ℕ) →
      KeepsInNumbers r numbers los his ms →
      Means r numbers los his ms
  pub judge_for_c : (s : Settings) (loads : List ℤ) (marks : List ℕ) → VerdictMeans s loads marks
  pub paging_for_c : (q : Call) (numbers : PageNumbers) (ms : List ℕ) → TurnsInNumbers q numbers ms →
      PageMeans q numbers ms
  pub reader_for_c : (a : Answer Header) → CodeMeans a (header_numbers a).code
  pub look_up_for_c : (a : Answer Range) → CodeMeans a (found_numbers a).code
  pub writer_for_c : (a : Answer ℕ) → CodeMeans a (writing_numbers a).code
  pub start_for_c : StartMeans
  pub step_for_c : (w : Watch) (load : ℤ) (numbers : StepNumbers) → StepsInNumbers w load numbers →
      StepMeans w load numbers
  -- and no two refusals share number and slot
  pub numbers : (f g : Refusal) → number f ≡ number g → slot f ≡ slot g → f ≡ g

-- Demand 2, measured against the published definitions.

-- a definition as a property of loads, one of its two maximums and a set of sequences, with its other numbers fixed
abbrev pub Definition : Type 1
Definition = (X : List ℤ) (most : ℕ) (S : List Sequence) → Type 0

-- some choice of loads in the ranges satisfies D
abbrev pub Satisfied : Request → Definition → (most : ℕ) → Type 0
Satisfied r D most = (X : List ℤ) × ChosenIn (ranges r) X × (S : List Sequence) × D X most S

-- load x occurs at slot i in such a choice
abbrev pub Occurs : Request → Definition → (most i : ℕ) (x : ℤ) → Type 0
Occurs r D most i x =
    (X : List ℤ) × ChosenIn (ranges r) X × (i < length X) × (at X i ≡ x) × (S : List Sequence) × D X most S

-- v is the least of the numbers that P holds of
pub record LeastNumber (P : ℕ → Type 0) (v : ℕ) : Type 0 where
  pub met : P v
  pub least : (u : ℕ) → P u → v ≤ u

-- the minimum handed back is the true least count, or the given minimum where that is larger; the maximum handed back
-- is the given one
pub record TrueLeast (r : Request) (D : Definition) (given returned : CountRange) : Type 0 where
  pub value : ℕ
  pub least : LeastNumber (λ u. (u ≤ given.most) × Satisfied r D u) value
  pub minimum : returned.least ≡ max given.least value
  pub maximum : returned.most ≡ given.most

-- What is handed back for r, measured by a definition D that takes a maximum of windows.
pub record Delivers (r : Request) (D : Definition) (o : Outcome) : Type 0 where
  -- the answer is "no plan" exactly when no choice of loads in the ranges can be covered within the maximums
  pub none : SaysNoPlan o ↔ (Satisfied r D r.settings.windows.most → ⊥)
  -- where some choice can, the answer is "planned"
  pub some : Satisfied r D r.settings.windows.most → SaysPlanned o
  pub windows : (n : PlanCounts) → Says o n → TrueLeast r D r.settings.windows n.windows
  -- each load left in a range occurs in a plan, each load removed in none
  pub loads : (n : PlanCounts) → Says o n → (i : ℕ) → i < slots r → (x : ℤ) →
      Held o i x ↔ Occurs r D r.settings.windows.most i x
  -- the plan handed back satisfies D, for loads that are left
  pub plan : (n : PlanCounts) → Says o n →
      (X : List ℤ) × ChosenIn (paired o.lowest o.highest) X
      × D X r.settings.windows.most (sequences_of 0 o.marks)

-- What is handed back for r, measured by a definition D that takes a maximum of summed length.
pub record DeliversCovered (r : Request) (D : Definition) (o : Outcome) : Type 0 where
  pub some : Satisfied r D r.settings.covered.most → SaysPlanned o
  pub covered : (n : PlanCounts) → Says o n → TrueLeast r D r.settings.covered n.covered

-- A thrift for r, measured by a definition D that takes both maximums, of windows and of summed length: the least
-- summed length with the least number of windows.
pub record TrueThrift (r : Request) (D : (X : List ℤ) (yc zc : ℕ) (S : List Sequence) → Type 0)
    (thrift : ℕ) : Type 0 where
  pub windows : ℕ
  pub fewest : LeastNumber
      (λ u. (u ≤ r.settings.windows.most) × Satisfied r (λ X yc S. D X yc r.settings.covered.most S) u) windows
  pub least : LeastNumber
      (λ u. (u ≤ r.settings.covered.most) × Satisfied r (λ X zc S. D X windows zc S) u) thrift

-- what `filter` hands back for a request that it does not refuse
pub record Filtered (r : Request) (o : Outcome) : Type 0 where
  pub well : WellFormed r
  pub kept : Keeps r o

-- What the judge says, measured by a definition D of the windows that marks draw.
pub record Judges (s : Settings) (X : List ℤ) (D : List Sequence → Type 0) : Type 0 where
  -- it says yes only to marks whose windows D allows, and gives the counts of these windows
  pub sound : (ms : List ℕ) (w c : ℕ) → judgment s X ms ≡ gives (says true w c) →
      D (sequences_of 0 ms) × (length (sequences_of 0 ms) ≡ w) × (sum size (sequences_of 0 ms) ≡ c)
  -- for every set of windows that D allows, it says yes to marks that draw this set
  pub complete : refusal (length X) false s ≡ none → (S : List Sequence) → D S →
      (ms : List ℕ) × (judgment s X ms ≡ gives (says true (length S) (sum size S)))
      × (sequences_of 0 ms ⊆ S) × (S ⊆ sequences_of 0 ms)

pub record Demand2 : Type 0 where
  -- the filter and the judge, measured by the rule on windows, at every settle count
  pub rule : (r : Request) (o : Outcome) → Filtered r o → let s = r.settings in
      Delivers r (λ X yc S. Obeys s.k s.shape yc s.covered.most X S) o
      × DeliversCovered r (λ X zc S. Obeys s.k s.shape s.windows.most zc X S) o
  pub judge_rule : (s : Settings) (X : List ℤ) →
      Judges s X (Obeys s.k s.shape s.windows.most s.covered.most X)
  -- the filter at settle 0, measured by the published definitions
  pub weighted_springy : (r : Request) (o : Outcome) → Filtered r o → r.settings.shape.settle ≡ 0 →
      let s = r.settings in
      Delivers r (λ X yc S. WeightedSpringyFocus X yc s.shape.len s.shape.h s.k s.covered.most S) o
      × DeliversCovered r
      (λ X zc S. WeightedSpringyFocus X s.windows.most s.shape.len s.shape.h s.k zc S) o
  -- with h = 0
  pub weighted : (r : Request) (o : Outcome) → Filtered r o → r.settings.shape.settle ≡ 0 →
      r.settings.shape.h ≡ 0 →
      let s = r.settings in
      Delivers r (λ X yc S. WeightedFocus X yc s.shape.len s.k s.covered.most S) o
      × DeliversCovered r (λ X zc S. WeightedFocus X s.windows.most s.shape.len s.k zc S) o
  -- with a covered maximum of n
  pub springy : (r : Request) (o : Outcome) → Filtered r o → r.settings.shape.settle ≡ 0 →
      r.settings.covered.most ≡ slots r →
      let s = r.settings in
      Delivers r (λ X yc S. SpringyFocus X yc s.shape.len s.shape.h s.k S) o
  -- with both
  pub focus : (r : Request) (o : Outcome) → Filtered r o → r.settings.shape.settle ≡ 0 →
      r.settings.shape.h ≡ 0 → r.settings.covered.most ≡ slots r →
      let s = r.settings in Delivers r (λ X yc S. Focus X yc s.shape.len s.k S) o
  -- the judge of finished plans at settle 0, in the same order
  pub judge : (s : Settings) (X : List ℤ) → s.shape.settle ≡ 0 →
      Judges s X (WeightedSpringyFocus X s.windows.most s.shape.len s.shape.h s.k s.covered.most)
  pub judge_weighted : (s : Settings) (X : List ℤ) → s.shape.settle ≡ 0 → s.shape.h ≡ 0 →
      Judges s X (WeightedFocus X s.windows.most s.shape.len s.k s.covered.most)
  pub judge_springy : (s : Settings) (X : List ℤ) → s.shape.settle ≡ 0 → s.covered.most ≡ length X →
      Judges s X (SpringyFocus X s.windows.most s.shape.len s.shape.h s.k)
  pub judge_focus : (s : Settings) (X : List ℤ) → s.shape.settle ≡ 0 → s.shape.h ≡ 0 → s.covered.most ≡ length X →
      Judges s X (Focus X s.windows.most s.shape.len s.k)
  -- filter and judge agree: the plans of a request are the marks to which the judge says yes with their counts, for
  -- some loads in its ranges
  pub plans : (r : Request) → WellFormed r → (ms : List ℕ) → PlanOf r ms ↔ YesFor r.settings (ranges r) ms
  -- the watch, which has no settle count, counts the least number of windows, without a maximum, for the loads that
  -- lead to its state
  pub watch : (k : ℤ) (len h : ℕ) (X : List ℤ) (w : Watch) → LeadsTo k len h X w →
      LeastNumber (λ yc. (S : List Sequence) × SpringyFocus X yc len h k S) w.windows

-- What is established beside the demands. Most of it is cited nowhere else, so only its place here keeps it.
pub record Established : Type 0 where
  -- every request has one outcome that keeps the filter's promise, the computed one
  pub computed : (r : Request) (o : Outcome) → Keeps r o ↔ (o ≡ solution r)
  -- the starred cases of document 01, and case L
  pub starred : Kept cases
  pub case_l : CaseL
  -- the computed least counts and thrift are the true ones for every number of slots; also what the least counts are
  -- for unchecked settings
  pub counts_are_least : (s : Settings) (cs : List Class) → CountsAreLeast s cs
  -- what is drawn is the first plan, if there is one, also for unchecked settings; so is what is drawn for a front, of
  -- the plans that begin with it
  pub drawn : (s : Settings) (cs : List Class) → s.covered.most < sentinel → (ms : List ℕ) → FitsAt s cs ms →
      First (FitsAt s cs) (drawn_plan s cs)
  pub drawn_with_front : (s : Settings) (cs : List Class) (front : List ℕ) → s.covered.most < sentinel →
      (ms : List ℕ) → FitsAt s cs ms → Begins front ms →
      First (λ ks. FitsAt s cs ks × Begins front ks) (completed s cs front)
  -- marks are a plan exactly when the judge allows them for the ends of the ranges on their sides
  pub plans_at_ends : (r : Request) → WellFormed r → (ms : List ℕ) →
      PlanOf r ms ↔ (allowed r.settings (ends_for (ranges r) ms) ms ≡ true)
  -- the pages of a request are its plans, each once, and no other string, and they come to an end; the first is what
  -- the filter draws
  pub pages : Enumerates
  pub first_page : (r : Request) (o : Outcome) → Filtered r o → (n : PlanCounts) → Says o n → NextPlan r [] o.marks
  -- the thrift handed back, measured by the rule on windows; that loosening may raise it
  pub thrift : (r : Request) (o : Outcome) → Filtered r o → (n : PlanCounts) → Says o n →
      TrueThrift r (λ X yc zc S. Obeys r.settings.k r.settings.shape yc zc X S) n.thrift
  pub thrift_rises : ThriftRises
  -- that settling may cost the plan beyond the settle counts of demand 3
  pub settling_fails : SettlingFails
  -- the published definitions, the rule on windows, and legal marks, for loads and for ranges; examples that the
  -- papers work out
  pub published : Theorems
  pub examples : Examples
  -- a watch's count is the least over all legal marks, and what `step` tests of a state is whether loads lead there
  pub watch : CountIsLeast
  pub reached : (w : Watch) → SFits w32 w.k → Reached w ↔ Tested w
  -- form 1 read from its end is form 1 encoded from its front; the look-up gives what the reader does
  pub read_back : ReadBack
  pub only_encoded : OnlyEncoded
  pub look_ups : LookUpAgrees
  -- the writer stores what the filter does not refuse, at settle 1; writer and reader undo each other; no file is
  -- shorter
  pub stores_accepted : StoresAccepted
  pub reads_back : ReadsBack
  pub writes_back : WritesBack
  pub shortest : Shortest
  -- numbers as text, and the texts that document 01 prints
  pub decimals : (n : ℕ) → Decimal n
  pub texts : Listing-as-Cases

-- Each operation meets its contract, as its source states it, and no contract has a `requires`.
pub record Contracts : Type 2 where
  -- crates/filter/src/lib.rt
  pub filter : Operation Filter.Statement.statement FilterContract.signature (λ M 𝓤. FilterContract.spec)
  -- crates/judge/src/lib.rt and crates/chooser/src/lib.rt
  pub judge : Operation Judge.Statement.statement JudgeContract.signature (λ M 𝓤. JudgeContract.spec)
  pub choose : Operation Choose.Statement.statement ChooseContract.signature (λ M 𝓤. ChooseContract.spec)
  -- crates/paging/src/lib.rt
  pub next_plan : Operation NextPage.Statement.statement NextPageContract.signature (λ M 𝓤. NextPageContract.spec)
  -- crates/watch/src
  pub start : Operation Start.Statement.statement StartContract.signature (λ M 𝓤. StartContract.spec)
  pub step : Operation Step.Statement.statement StepContract.signature (λ M 𝓤. StepContract.spec)
  pub run : Operation Run.Statement.statement RunContract.signature (λ M 𝓤. RunContract.spec)
  -- crates/card/src, crates/view/src/lib.rt and crates/writer/src/lib.rt
  pub read : Operation Read.Statement.statement ReadContract.signature (λ M 𝓤. ReadContract.spec)
  pub look_up : Operation LookUp.Statement.statement LookUpContract.signature (λ M 𝓤. LookUpContract.spec)
  pub view_of : Operation ViewOf.Statement.statement ViewOfContract.signature (λ M 𝓤. ViewOfContract.spec)
  pub view_look_up : Operation ViewLookUp.Statement.statement ViewLookUpContract.signature (λ M 𝓤. ViewLookUpContract.spec)
  pub viewed : Operation Viewed.Statement.statement ViewedContract.signature (λ M 𝓤. ViewedContract.spec)
  pub write : Operation Write.Statement.statement WriteContract.signature (λ M 𝓤. WriteContract.spec)
  -- crates/listing/src
  pub write_answer : Operation WriteAnswer.Statement.statement WriteAnswerContract.signature (λ M 𝓤. WriteAnswerContract.spec)
  pub write_refusal : Operation WriteRefusal.Statement.statement WriteRefusalContract.signature (λ M 𝓤. WriteRefusalContract.spec)
  -- crates/icecoppice/src
  pub filter_for_c : Operation CFilter.Statement.statement CFilterContract.signature (λ M 𝓤. CFilterContract.spec)
  pub judge_for_c : Operation CJudge.Statement.statement CJudgeContract.signature (λ M 𝓤. CJudgeContract.spec)
  pub next_plan_for_c : Operation CNextPage.Statement.statement CNextPageContract.signature (λ M 𝓤. CNextPageContract.spec)
  pub read_for_c : Operation CRead.Statement.statement CReadContract.signature (λ M 𝓤. CReadContract.spec)
  pub look_up_for_c : Operation CLookUp.Statement.statement CLookUpContract.signature (λ M 𝓤. CLookUpContract.spec)
  pub write_for_c : Operation CWrite.Statement.statement CWriteContract.signature (λ M 𝓤. CWriteContract.spec)
  pub start_for_c : Operation CStart.Statement.statement CStartContract.signature (λ M 𝓤. CStartContract.spec)
  pub step_for_c : Operation CStep.Statement.statement CStepContract.signature (λ M 𝓤. CStepContract.spec)
  -- what these share: bytes put into a buffer, the test of a load, checks, a slot's class and least counts, the next
  -- mark of a plan and the slots that a window lacks, the classes of all slots and what is drawn for them, a file's
  -- trailer and records, read and put, and the number and slot of a refusal
  pub put_bytes : Operation PutBytes.Statement.statement PutBytesContract.signature (λ M 𝓤. PutBytesContract.spec)
  pub put_byte : Operation PutByte.Statement.statement PutByteContract.signature (λ M 𝓤. PutByteContract.spec)
  pub over : Operation Over.Statement.statement OverContract.signature (λ M 𝓤. OverContract.spec)
  pub check : Operation Check.Statement.statement CheckContract.signature (λ M 𝓤. CheckContract.spec)
  pub check_lengths : Operation CheckLengths.Statement.statement CheckLengthsContract.signature (λ M 𝓤. CheckLengthsContract.spec)
  pub check_settings : Operation CheckSettings.Statement.statement CheckSettingsContract.signature (λ M 𝓤. CheckSettingsContract.spec)
  pub check_shape : Operation CheckShape.Statement.statement CheckShapeContract.signature (λ M 𝓤. CheckShapeContract.spec)
  pub differ : Operation Differ.Statement.statement DifferContract.signature (λ M 𝓤. DifferContract.spec)
  pub check_request : Operation CheckRequest.Statement.statement CheckRequestContract.signature (λ M 𝓤. CheckRequestContract.spec)
  pub class_of : Operation ClassOf.Statement.statement ClassOfContract.signature (λ M 𝓤. ClassOfContract.spec)
  pub least_counts : Operation LeastCountsOf.Statement.statement LeastCountsOfContract.signature (λ M 𝓤. LeastCountsOfContract.spec)
  pub row_after : Operation RowAfter.Statement.statement RowAfterContract.signature (λ M 𝓤. RowAfterContract.spec)
  pub close_window : Operation CloseWindow.Statement.statement CloseWindowContract.signature (λ M 𝓤. CloseWindowContract.spec)
  pub next_mark : Operation NextMark.Statement.statement NextMarkContract.signature (λ M 𝓤. NextMarkContract.spec)
  pub left_of : Operation LeftOf.Statement.statement LeftOfContract.signature (λ M 𝓤. LeftOfContract.spec)
  pub lacking : Operation Lacking.Statement.statement LackingContract.signature (λ M 𝓤. LackingContract.spec)
  pub unless_lacking : Operation UnlessLacking.Statement.statement UnlessLackingContract.signature (λ M 𝓤. UnlessLackingContract.spec)
  pub classify : Operation Classify.Statement.statement ClassifyContract.signature (λ M 𝓤. ClassifyContract.spec)
  pub draw : Operation Draw.Statement.statement DrawContract.signature (λ M 𝓤. DrawContract.spec)
  pub complete : Operation Complete.Statement.statement CompleteContract.signature (λ M 𝓤. CompleteContract.spec)
  pub «open» : Operation Open.Statement.statement OpenContract.signature (λ M 𝓤. OpenContract.spec)
  pub range_at : Operation RangeAt.Statement.statement RangeAtContract.signature (λ M 𝓤. RangeAtContract.spec)
  pub put_range : Operation PutRange.Statement.statement PutRangeContract.signature (λ M 𝓤. PutRangeContract.spec)
  pub put_trailer : Operation PutTrailer.Statement.statement PutTrailerContract.signature (λ M 𝓤. PutTrailerContract.spec)
  pub number : Operation Number.Statement.statement NumberContract.signature (λ M 𝓤. NumberContract.spec)
  pub slot : Operation RefusedSlot.Statement.statement RefusedSlotContract.signature (λ M 𝓤. RefusedSlotContract.spec)

-- Demand 3 is stated in crates/requests/specs/Demand3.antt, for the definitions and for what the filter hands back.
pub record Demands : Type 2 where
  pub first : Demand1
  pub second : Demand2
  pub third : Demand3
  pub established : Established
  pub contracts : Contracts
