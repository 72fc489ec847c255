-- What specs/Demands.antt states, each line taken from where it is proved.
use Prim.Native.Nat.{ℕ}
use native.Mathlib.Omega.{arith}
use mathlib.Core.Bool.{true, false}
use mathlib.Core.List.{List}
use mathlib.Core.Logic.{◌↔◌}
use mathlib.Core.Option.{none}
use mathlib.Core.Path.{◌≡◌, refl, ◌∙◌}
use lib.IntN.{ℤ}
use lib.ListN.{length}
use Rattle.card.proofs.LookUpAgrees.{look-up-agrees}
use Rattle.card.proofs.ReaderAnswers.{reader-refuses, look-up-refuses, refused-unaltered}
use Rattle.icecoppice.proofs.CodeMeans.{code-means}
use Rattle.icecoppice.proofs.Means.{means, verdict-means}
use Rattle.icecoppice.proofs.PageMeans.{page-means}
use Rattle.icecoppice.proofs.WatchMeans.{start-means, step-means}
use Rattle.chooser.proofs.Chooses.{chosen→chooses}
use Rattle.judge.proofs.Allowed.{Allowed, allowed-iff, allowed→yes, yes→allowed, judgment-refuses}
use Rattle.form1.proofs.ReadBack.{read_back}
use Rattle.form1.proofs.OnlyEncoded.{only_encoded}
use Rattle.listing.proofs.Cases.{cases as texts}
use Rattle.listing.proofs.Decimals.{decimals}
use Rattle.rule.proofs.LegalFrom.{legal-length}
use Rattle.refusals.proofs.Injective.{number-slot-injective}
use Rattle.refusals.specs.Answer.{gives}
use Rattle.judge.specs.Judgment.{says, judgment}
use Rattle.settings.proofs.Accepted.{differs_false}
use Rattle.settings.specs.Refusals.{refusal}
use Rattle.rule.specs.Rule.{carries, shaped}
use Rattle.rule.specs.declared.Shape.{Shape}
use Rattle.settings.specs.declared.Settings.{Settings}
use Rattle.icecoppice.specs.FileNumbers.{header_numbers, found_numbers, writing_numbers}
use Rattle.published.proofs.Corners.{recount}
use Rattle.published.proofs.Examples.{examples}
use Rattle.published.proofs.Theorems.{theorems}
use Rattle.published.specs.Published.{Sequence, size, sum, ◌⊆◌, Obeys, Corners, sequences_of}
use Rattle.requests.proofs.Cases.{all-kept, thrift_rises, settling_fails}
use Rattle.requests.proofs.Decided.{decided, keeps-iff}
use Rattle.requests.proofs.Demand3.{demand3}
use Rattle.requests.proofs.DrawnPlan.{completed-first, drawn_plan-first}
use Rattle.requests.proofs.Formed.{formed-iff}
use Rattle.requests.proofs.PlansAreJudged.{plan-iff-ends, plan-iff-yes}
use Rattle.requests.proofs.LeastCounts.{counts_are_least}
use Rattle.requests.proofs.Outcomes.{keeps→unaltered, keeps→refused}
use Rattle.paging.proofs.Decided.{decided as Paging·decided, turns→refused, turns→unaltered}
use Rattle.paging.proofs.Enumerates.{enumerates}
use Rattle.watch.proofs.CountIsLeast.{count-is-least, case_l}
use Rattle.watch.proofs.TestedIsReached.{tested→reached}
use Rattle.watch.proofs.ReachedIsTested.{reached→tested}
use Rattle.watch.proofs.RunsToLimit.{runs-to-limit, run-refusals}
use Rattle.watch.proofs.StartAnswers
use Rattle.writer.proofs.WriterAnswers
use Rattle.writer.proofs.WriterAnswers.{writer-refuses, stores_accepted}
use Rattle.demands.proofs.Delivers.{delivers, delivers-covered, delivers-thrift}
use Rattle.demands.proofs.FirstPage.{first_page}
use Rattle.demands.proofs.RoundTrip.{reads_back, writes_back, shortest}
use Rattle.demands.proofs.WatchIsLeast.{watch-least}
use Rattle.demands.specs.Demands.{Demand1, Judges, Demand2, Established, Contracts, Demands}
use Rattle.filter.proofs.filter as Filter
use Rattle.judge.proofs.judge as Judge
use Rattle.chooser.proofs.choose as Choose
use Rattle.paging.proofs.next_plan as NextPage
use Rattle.watch.proofs.Watch.start as Start
use Rattle.watch.proofs.Watch.step as Step
use Rattle.watch.proofs.Watch.run as Run
use Rattle.card.proofs.read as Read
use Rattle.card.proofs.look_up as LookUp
use Rattle.view.proofs.view_of as ViewOf
use Rattle.view.proofs.View.look_up as ViewLookUp
use Rattle.view.proofs.viewed as Viewed
use Rattle.writer.proofs.write as Write
use Rattle.listing.proofs.write_answer as WriteAnswer
use Rattle.listing.proofs.write_refusal as WriteRefusal
use Rattle.icecoppice.proofs.icecoppice_filter as CFilter
use Rattle.icecoppice.proofs.icecoppice_judge as CJudge
use Rattle.icecoppice.proofs.icecoppice_next_plan as CNextPage
use Rattle.icecoppice.proofs.icecoppice_read as CRead
use Rattle.icecoppice.proofs.icecoppice_look_up as CLookUp
use Rattle.icecoppice.proofs.icecoppice_write as CWrite
use Rattle.icecoppice.proofs.icecoppice_watch_start as CStart
use Rattle.icecoppice.proofs.icecoppice_watch_step as CStep
use Rattle.buffer.proofs.put_bytes as PutBytes
use Rattle.buffer.proofs.put_byte as PutByte
use Rattle.rule.proofs.over as Over
use Rattle.settings.proofs.check as Check
use Rattle.settings.proofs.check_lengths as CheckLengths
use Rattle.settings.proofs.check_settings as CheckSettings
use Rattle.settings.proofs.check_shape as CheckShape
use Rattle.settings.proofs.differ as Differ
use Rattle.checks.proofs.check_request as CheckRequest
use Rattle.rule.proofs.class_of as ClassOf
use Rattle.least.proofs.least_counts as LeastCountsOf
use Rattle.least.proofs.row_after as RowAfter
use Rattle.marks.proofs.close_window as CloseWindow
use Rattle.marks.proofs.next_mark as NextMark
use Rattle.marks.proofs.left_of as LeftOf
use Rattle.marks.proofs.lacking as Lacking
use Rattle.marks.proofs.unless_lacking as UnlessLacking
use Rattle.drawing.proofs.classify as Classify
use Rattle.drawing.proofs.draw as Draw
use Rattle.drawing.proofs.complete as Complete
use Rattle.form1.proofs.open as Open
use Rattle.form1.proofs.range_at as RangeAt
use Rattle.form1.proofs.put_range as PutRange
use Rattle.form1.proofs.put_trailer as PutTrailer
use Rattle.refusals.proofs.Refusal.number as Number
use Rattle.refusals.proofs.Refusal.slot as RefusedSlot

demand1 : Demand1
demand1 =
    record {
      filter = keeps→refused;
      judge = judgment-refuses;
      start = StartAnswers.start-refuses;
      reader = reader-refuses;
      look_up = look-up-refuses;
      writer = writer-refuses;
      paging = turns→refused;
      decided = decided;
      unaltered = keeps→unaltered;
      paging_decided = Paging·decided;
      paging_unaltered = turns→unaltered;
      chooser = chosen→chooses;
      step = λ w load r s. s.kept;
      run = λ w v loads taken f r. run-refusals r;
      run_to_limit = runs-to-limit;
      reader_unaltered = refused-unaltered;
      writer_unaltered = WriterAnswers.refused-unaltered;
      filter_for_c = λ r numbers los his ms a. means a;
      judge_for_c = verdict-means;
      paging_for_c = λ q numbers ms a. page-means a;
      reader_for_c = code-means (λ a. (header_numbers a).code) (λ header. refl) (λ f. refl);
      look_up_for_c = code-means (λ a. (found_numbers a).code) (λ range. refl) (λ f. refl);
      writer_for_c = code-means (λ a. (writing_numbers a).code) (λ length. refl) (λ f. refl);
      start_for_c = start-means;
      step_for_c = λ w load numbers s. step-means s;
      numbers = number-slot-injective;
    }

-- the judge, measured by a definition that is a corner of the rule on windows
module _ (s : Settings) (X : List ℤ) (D : List Sequence → Type 0)
    (corner : (S : List Sequence) → D S ↔ Obeys s.k s.shape s.windows.most s.covered.most X S) where
  sound : (ms : List ℕ) (w c : ℕ) → judgment s X ms ≡ gives (says true w c) →
      D (sequences_of 0 ms) × (length (sequences_of 0 ms) ≡ w) × (sum size (sequences_of 0 ms) ≡ c)
  sound ms w c j =
      let (e, a, ew, ec) = yes→allowed s X ms w c j in
      let allow : Allowed s X ms = allowed-iff.0 a in
      let (o, number, summed) = theorems.draws s.k s.shape X ms allow.in_rule in (
        (corner (sequences_of 0 ms)).1
            (recount X _ _ _ _ _ o (omega (arith, number, allow.windows_fit))
            (omega (arith, summed, allow.covered_fit))),
        number ∙ ew,
        summed ∙ ec,
      )

  complete : refusal (length X) false s ≡ none → (S : List Sequence) → D S →
      (ms : List ℕ) × (judgment s X ms ≡ gives (says true (length S) (sum size S))) × (sequences_of 0 ms ⊆ S)
      × (S ⊆ sequences_of 0 ms)
  complete e S d =
      let o = (corner S).0 d in
      let (ms, legal, into, onto, number, summed) = theorems.drawn s.k s.shape _ _ X S o in
      let allow : Allowed s X ms = record {
        in_rule = legal;
        windows_fit = omega (arith, number, o.number);
        covered_fit = omega (arith, summed, o.summed);
      } in
      let same : length ms ≡ length X = legal-length (carries s.k) s.shape X ms legal in
      let j = allowed→yes s X ms (rw ((differs_false _ _).1 same) e) (allowed-iff.1 allow) in
      (ms, rw (← number, ← summed) j, into, onto)

  judging : Judges s X D
  judging = record { sound = sound; complete = complete }

-- the four definitions, at the numbers of given settings
corners : (s : Settings) (X : List ℤ) (yc zc : ℕ) (S : List Sequence) →
    Corners X yc s.shape.len s.shape.h s.k zc S
corners s X yc zc S = theorems.corners X yc _ _ _ zc S

touching : (shape : Shape) → shape.settle ≡ 0 → shape ≡ shaped shape.len shape.h
touching shape e = λ i. record { len = shape.len; h = shape.h; settle = e i }

no-bridges : (shape : Shape) → shape.settle ≡ 0 → shape.h ≡ 0 → shape ≡ shaped shape.len 0
no-bridges shape e f = λ i. record { len = shape.len; h = f i; settle = e i }

-- the rule itself
same : {P : Type 0} → P ↔ P
same = ((λ p. p), λ p. p)

demand2 : Demand2
demand2 =
    record {
      rule = λ r o f. (
        delivers r f.well _ (λ X n yc S. same) o f.kept,
        delivers-covered r f.well _ (λ X n zc S. same) o f.kept,
      );
      judge_rule = λ s X. judging s X _ (λ S. same);
      weighted_springy = λ r o f touch. (
        delivers r f.well _
            (λ X n yc S. rw (touching r.settings.shape touch)
            (corners r.settings X yc r.settings.covered.most S).weighted_springy) o f.kept,
        delivers-covered r f.well _
            (λ X n zc S. rw (touching r.settings.shape touch)
            (corners r.settings X r.settings.windows.most zc S).weighted_springy) o f.kept,
      );
      weighted = λ r o f touch no-bridge. (
        delivers r f.well _
            (λ X n yc S. rw (no-bridges r.settings.shape touch no-bridge)
            (corners r.settings X yc r.settings.covered.most S).weighted) o f.kept,
        delivers-covered r f.well _
            (λ X n zc S. rw (no-bridges r.settings.shape touch no-bridge)
            (corners r.settings X r.settings.windows.most zc S).weighted) o f.kept,
      );
      springy =
          λ r o f touch most. delivers r f.well _
          (λ X n yc S. rw (touching r.settings.shape touch, most, ← n) (corners r.settings X yc 0 S).springy)
          o f.kept;
      focus =
          λ r o f touch no-bridge most. delivers r f.well _
          (λ X n yc S. rw (no-bridges r.settings.shape touch no-bridge, most, ← n)
          (corners r.settings X yc 0 S).focus) o f.kept;
      judge =
          λ s X touch. judging s X _
          (λ S. rw (touching s.shape touch) (corners s X s.windows.most s.covered.most S).weighted_springy);
      judge_weighted =
          λ s X touch no-bridge. judging s X _
          (λ S. rw (no-bridges s.shape touch no-bridge)
          (corners s X s.windows.most s.covered.most S).weighted);
      judge_springy =
          λ s X touch most. judging s X _
          (λ S. rw (touching s.shape touch, most) (corners s X s.windows.most 0 S).springy);
      judge_focus =
          λ s X touch no-bridge most. judging s X _
          (λ S. rw (no-bridges s.shape touch no-bridge, most) (corners s X s.windows.most 0 S).focus);
      plans = plan-iff-yes;
      watch = watch-least;
    }

established : Established
established =
    record {
      computed = keeps-iff;
      starred = all-kept;
      case_l = case_l;
      counts_are_least = counts_are_least;
      drawn = drawn_plan-first;
      drawn_with_front = completed-first;
      plans_at_ends = λ r w ms. plan-iff-ends r (formed-iff.0 w) ms;
      pages = enumerates;
      first_page = λ r o f. first_page r f.well o f.kept;
      thrift = λ r o f. delivers-thrift r f.well _ (λ X yc zc S. same) o f.kept;
      thrift_rises = thrift_rises;
      settling_fails = settling_fails;
      published = theorems;
      examples = examples;
      watch = count-is-least;
      reached = λ w fits. (reached→tested w, tested→reached w fits);
      read_back = read_back;
      only_encoded = only_encoded;
      look_ups = look-up-agrees;
      stores_accepted = stores_accepted;
      reads_back = reads_back;
      writes_back = writes_back;
      shortest = shortest;
      decimals = decimals;
      texts = texts;
    }

contracts : Contracts
contracts =
    record {
      filter = record { meets = Filter.Met.met; total = λ M 𝓤 𝓛 mem run κs a. (tt, λ g. refl) };
      judge = record { meets = Judge.Met.met; total = λ M 𝓤 𝓛 mem run κs a. (tt, λ g. refl) };
      choose = record { meets = Choose.Met.met; total = λ M 𝓤 𝓛 mem run κs a. (tt, λ g. refl) };
      next_plan = record { meets = NextPage.Met.met; total = λ M 𝓤 𝓛 mem run κs a. (tt, λ g. refl) };
      start = record { meets = Start.Met.met; total = λ M 𝓤 𝓛 mem run κs a. (tt, λ g. refl) };
      step = record { meets = Step.Met.met; total = λ M 𝓤 𝓛 mem run κs a. (tt, λ g. refl) };
      run = record { meets = Run.Met.met; total = λ M 𝓤 𝓛 mem run κs a. (tt, λ g. refl) };
      read = record { meets = Read.Met.met; total = λ M 𝓤 𝓛 mem run κs a. (tt, λ g. refl) };
      look_up = record { meets = LookUp.Met.met; total = λ M 𝓤 𝓛 mem run κs a. (tt, λ g. refl) };
      view_of = record { meets = ViewOf.Met.met; total = λ M 𝓤 𝓛 mem run κs a. (tt, λ g. refl) };
      view_look_up = record { meets = ViewLookUp.Met.met; total = λ M 𝓤 𝓛 mem run κs a. (tt, λ g. refl) };
      viewed = record { meets = Viewed.Met.met; total = λ M 𝓤 𝓛 mem run κs a. (tt, λ g. refl) };
      write = record { meets = Write.Met.met; total = λ M 𝓤 𝓛 mem run κs a. (tt, λ g. refl) };
      write_answer = record { meets = WriteAnswer.Met.met; total = λ M 𝓤 𝓛 mem run κs a. (tt, λ g. refl) };
      write_refusal = record { meets = WriteRefusal.Met.met; total = λ M 𝓤 𝓛 mem run κs a. (tt, λ g. refl) };
      filter_for_c = record { meets = CFilter.Met.met; total = λ M 𝓤 𝓛 mem run κs a. (tt, λ g. refl) };
      judge_for_c = record { meets = CJudge.Met.met; total = λ M 𝓤 𝓛 mem run κs a. (tt, λ g. refl) };
      next_plan_for_c = record { meets = CNextPage.Met.met; total = λ M 𝓤 𝓛 mem run κs a. (tt, λ g. refl) };
      read_for_c = record { meets = CRead.Met.met; total = λ M 𝓤 𝓛 mem run κs a. (tt, λ g. refl) };
      look_up_for_c = record { meets = CLookUp.Met.met; total = λ M 𝓤 𝓛 mem run κs a. (tt, λ g. refl) };
      write_for_c = record { meets = CWrite.Met.met; total = λ M 𝓤 𝓛 mem run κs a. (tt, λ g. refl) };
      start_for_c = record { meets = CStart.Met.met; total = λ M 𝓤 𝓛 mem run κs a. (tt, λ g. refl) };
      step_for_c = record { meets = CStep.Met.met; total = λ M 𝓤 𝓛 mem run κs a. (tt, λ g. refl) };
      put_bytes = record { meets = PutBytes.Met.met; total = λ M 𝓤 𝓛 mem run κs a. (tt, λ g. refl) };
      put_byte = record { meets = PutByte.Met.met; total = λ M 𝓤 𝓛 mem run κs a. (tt, λ g. refl) };
      over = record { meets = Over.Met.met; total = λ M 𝓤 𝓛 mem run κs a. (tt, λ g. refl) };
      check = record { meets = Check.Met.met; total = λ M 𝓤 𝓛 mem run κs a. (tt, λ g. refl) };
      check_lengths = record { meets = CheckLengths.Met.met; total = λ M 𝓤 𝓛 mem run κs a. (tt, λ g. refl) };
      check_settings = record { meets = CheckSettings.Met.met; total = λ M 𝓤 𝓛 mem run κs a. (tt, λ g. refl) };
      check_shape = record { meets = CheckShape.Met.met; total = λ M 𝓤 𝓛 mem run κs a. (tt, λ g. refl) };
      differ = record { meets = Differ.Met.met; total = λ M 𝓤 𝓛 mem run κs a. (tt, λ g. refl) };
      check_request = record { meets = CheckRequest.Met.met; total = λ M 𝓤 𝓛 mem run κs a. (tt, λ g. refl) };
      class_of = record { meets = ClassOf.Met.met; total = λ M 𝓤 𝓛 mem run κs a. (tt, λ g. refl) };
      least_counts = record { meets = LeastCountsOf.Met.met; total = λ M 𝓤 𝓛 mem run κs a. (tt, λ g. refl) };
      row_after = record { meets = RowAfter.Met.met; total = λ M 𝓤 𝓛 mem run κs a. (tt, λ g. refl) };
      close_window = record { meets = CloseWindow.Met.met; total = λ M 𝓤 𝓛 mem run κs a. (tt, λ g. refl) };
      next_mark = record { meets = NextMark.Met.met; total = λ M 𝓤 𝓛 mem run κs a. (tt, λ g. refl) };
      left_of = record { meets = LeftOf.Met.met; total = λ M 𝓤 𝓛 mem run κs a. (tt, λ g. refl) };
      lacking = record { meets = Lacking.Met.met; total = λ M 𝓤 𝓛 mem run κs a. (tt, λ g. refl) };
      unless_lacking = record { meets = UnlessLacking.Met.met; total = λ M 𝓤 𝓛 mem run κs a. (tt, λ g. refl) };
      classify = record { meets = Classify.Met.met; total = λ M 𝓤 𝓛 mem run κs a. (tt, λ g. refl) };
      draw = record { meets = Draw.Met.met; total = λ M 𝓤 𝓛 mem run κs a. (tt, λ g. refl) };
      complete = record { meets = Complete.Met.met; total = λ M 𝓤 𝓛 mem run κs a. (tt, λ g. refl) };
      «open» = record { meets = Open.Met.met; total = λ M 𝓤 𝓛 mem run κs a. (tt, λ g. refl) };
      range_at = record { meets = RangeAt.Met.met; total = λ M 𝓤 𝓛 mem run κs a. (tt, λ g. refl) };
      put_range = record { meets = PutRange.Met.met; total = λ M 𝓤 𝓛 mem run κs a. (tt, λ g. refl) };
      put_trailer = record { meets = PutTrailer.Met.met; total = λ M 𝓤 𝓛 mem run κs a. (tt, λ g. refl) };
      number = record { meets = Number.Met.met; total = λ M 𝓤 𝓛 mem run κs a. (tt, λ g. refl) };
      slot = record { meets = RefusedSlot.Met.met; total = λ M 𝓤 𝓛 mem run κs a. (tt, λ g. refl) };
    }

pub demands : Demands
demands =
    record { first = demand1; second = demand2; third = demand3; established = established; contracts = contracts }
