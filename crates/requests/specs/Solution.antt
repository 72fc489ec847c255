-- What the filter hands back, computed by `best`. The crates `least` and `drawing` and private functions of the filter
-- promise to give it; the filter's promise does not rest on it. It keeps that promise (proofs/SolutionKeeps.antt), and
-- nothing else does (proofs/Decided.antt).
use Rattle.std.specs.Prelude.{ℕ, suc, ◌≤◌, ◌<◌, max, Bool, true, false, cond, List, [], ◌∷◌, map, ◌≡◌, leb, ℤ, get_or, set}
use Rattle.std.proofs.Math.Option.{Option, none, some}
use Rattle.rule.specs.Ranges.{Class, under_only, over_only, either, class_of, allows}
use Rattle.refusals.specs.Answer.{Answer, refuses, gives}
use Rattle.refusals.specs.declared.Refusal.{Refusal}
use Rattle.rule.specs.Rule.{legal_by, nonzero, windows, covered, LeastOver, ThriftOver}
use Rattle.settings.specs.declared.CountRange.{CountRange}
use Rattle.settings.specs.declared.Settings.{Settings}
use Rattle.requests.specs.Best.{Fits, best, fewest}
use Rattle.requests.specs.Drawing.{drawn_from}
use Rattle.requests.specs.Promise.{Result, no_plan, planned, Outcome}
use Rattle.requests.specs.Promise.{Loss, nothing, under_part, over_part, lowest_after, highest_after}
use Rattle.requests.specs.Request.{Request, paired, filter_refusal}

-- the covered count that stands for "no plan"
abbrev pub sentinel : ℕ
sentinel = 65535

-- the class of each slot, which says what it can be
abbrev pub classes_of : (k : ℤ) (lowest highest : List ℤ) → List Class
classes_of k los his = map (class_of k) (paired los his)

abbrev pub classes : Request → List Class
classes r = classes_of r.settings.k r.lowest r.highest

-- the least covered count of slots of these classes, within the window maximum, if it is below the sentinel
abbrev pub least_covered_count : Settings → List Class → ℕ
least_covered_count s cs = best sentinel s.shape cs s.windows.most

-- the least window count of such slots within both maximums, if there is a plan and the covered maximum is below the
-- sentinel
abbrev pub least_window_count : Settings → List Class → ℕ
least_window_count s cs = fewest sentinel s.shape cs s.covered.most 0 s.windows.most

-- the least covered count of such slots with at most that many windows
abbrev pub thrift_count : Settings → List Class → ℕ
thrift_count s cs = best sentinel s.shape cs (least_window_count s cs)

-- the first plan of such slots within both maximums that begins with a front, if there is one and the covered maximum is
-- below the sentinel
abbrev pub completed : Settings → List Class → (front : List ℕ) → List ℕ
completed s cs front = drawn_from sentinel s.shape cs front 0 s.windows.most s.covered.most

-- the first plan of such slots, on the same terms
abbrev pub drawn_plan : Settings → List Class → List ℕ
drawn_plan s cs = completed s cs []

-- The marks that are legal for slots of these classes. A len of 0 counts as 1.
abbrev pub LegalMarks : Settings → List Class → List ℕ → Type 0
LegalMarks s cs ms = legal_by allows (nonzero s.shape) cs ms ≡ true

-- such marks within both maximums
abbrev pub FitsAt : Settings → List Class → List ℕ → Type 0
FitsAt s cs = Fits s.shape cs s.windows.most s.covered.most

-- What these counts are, for all settings and classes (proofs/LeastCounts.antt).
pub record CountsAreLeast (s : Settings) (cs : List Class) : Type 0 where
  -- no legal marks within the window maximum cover fewer slots than this count, and if it is below the sentinel, some
  -- cover just as many
  pub covers : (ms : List ℕ) → LegalMarks s cs ms → windows ms ≤ s.windows.most → least_covered_count s cs ≤ covered ms
  pub covered : least_covered_count s cs < sentinel →
      LeastOver (λ ms. LegalMarks s cs ms × (windows ms ≤ s.windows.most)) covered (least_covered_count s cs)
  -- with a covered maximum below the sentinel: the least window count where a plan exists, else the window maximum
  pub windows : s.covered.most < sentinel → (ms : List ℕ) → FitsAt s cs ms →
      LeastOver (FitsAt s cs) windows (least_window_count s cs)
  pub none : s.covered.most < sentinel → ((ms : List ℕ) → FitsAt s cs ms → ⊥) →
      least_window_count s cs ≡ s.windows.most
  -- with such a covered maximum and a plan: the least covered count among the plans with the fewest windows
  pub thrift : s.covered.most < sentinel → (ms : List ℕ) → FitsAt s cs ms →
      ThriftOver (FitsAt s cs) (thrift_count s cs)
  -- with any other covered maximum "no plan" counts as a plan, so that no window is needed
  pub at_sentinel : sentinel ≤ s.covered.most → least_window_count s cs ≡ 0

-- whether slots of these classes have a plan within both maximums, if the covered maximum is below the sentinel
unfoldable pub possible : Settings → List Class → Bool
possible s cs = leb (least_covered_count s cs) s.covered.most

-- what slot i, of class c, loses: an open slot loses a part if there is no plan with the slot on that side only
abbrev pub loss_of : Settings → List Class → ℕ → Class → Loss
loss_of s cs i under_only = nothing
loss_of s cs i over_only = nothing
loss_of s cs i either =
    cond (possible s (set cs i under_only)) (cond (possible s (set cs i over_only)) nothing over_part) under_part

unfoldable pub loss : Settings → List Class → ℕ → Loss
loss s cs i = loss_of s cs i (get_or cs i under_only)

-- f applied to each slot's number and its load
abbrev pub map_indexed : (ℕ → ℤ → ℤ) → List ℤ → List ℤ
map_indexed f [] = []
map_indexed f (x ∷ xs) = f 0 x ∷ map_indexed (λ i. f (suc i)) xs

-- the ends of the ranges, without what their slots lose
abbrev pub lowest_left : Settings → List Class → List ℤ → List ℤ
lowest_left s cs = map_indexed (λ i lo. lowest_after s.k (loss s cs i) lo)

abbrev pub highest_left : Settings → List Class → List ℤ → List ℤ
highest_left s cs = map_indexed (λ i hi. highest_after s.k (loss s cs i) hi)

abbrev pub raised : CountRange → ℕ → CountRange
raised given least = record { least = max given.least least; most = given.most }

-- the outcome where there is a plan
abbrev pub planned_outcome : Request → Outcome
planned_outcome r =
    let s = r.settings in
    let cs = classes r in
    record {
      answer = gives (planned (record {
        windows = raised s.windows (least_window_count s cs);
        covered = raised s.covered (least_covered_count s cs);
        thrift = thrift_count s cs;
      }));
      lowest = lowest_left s cs r.lowest;
      highest = highest_left s cs r.highest;
      marks = drawn_plan s cs;
    }

abbrev pub unaltered_outcome : Request → Answer Result → Outcome
unaltered_outcome r a = record { answer = a; lowest = r.lowest; highest = r.highest; marks = r.marks }

abbrev pub solution_by : Option Refusal → Bool → Request → Outcome
solution_by (some f) possible r = unaltered_outcome r (refuses f)
solution_by none false r = unaltered_outcome r (gives no_plan)
solution_by none true r = planned_outcome r

unfoldable pub solution : Request → Outcome
solution r = solution_by (filter_refusal r) (possible r.settings (classes r)) r
