-- Demand 3, stated of the definitions and of what is handed back (document 01, "Words of demand 3"): the record
-- `Demand3` at the end, proved in proofs/Demand3.antt.
use Rattle.std.specs.Prelude.{ℕ, suc, ◌≤◌, ◌<◌, List, ◌↔◌, ◌≡◌, ℤ, ◌≤ℤ◌}
use Rattle.rule.specs.Rule.{LooserShape, windows, LeastOver}
use Rattle.settings.specs.declared.CountRange.{CountRange}
use Rattle.requests.specs.Promise.{Outcome, Says, SaysPlanned, SaysNoPlan, Held, Keeps}
use Rattle.requests.specs.Request.{Request, slots, at, threshold_at, WellFormed, PlanOf, UnlimitedPlanOf, LeftAt}
use Rattle.requests.specs.Request.{LeastWindows, LeastCovered, Open, settled_under, settled_over}
use Rattle.requests.specs.declared.PlanCounts.{PlanCounts}

-- one count range is wider than another: its maximum is no smaller and its minimum no larger
pub record Wider (wide narrow : CountRange) : Type 0 where
  pub most : narrow.most ≤ wide.most
  pub least : wide.least ≤ narrow.least

-- Of two requests with equal threshold and slot count, l is looser than t: its load ranges contain the other's, its
-- window length, bridge allowance and both maximums are no smaller, and its settle count and its minimums are no
-- larger.
pub record Looser (l t : Request) : Type 0 where
  pub threshold : (i : ℕ) → threshold_at l i ≡ threshold_at t i
  pub as_many : slots l ≡ slots t
  pub contains : (i : ℕ) → i < slots t → (at l.lowest i ≤ℤ at t.lowest i)
      × (at t.highest i ≤ℤ at l.highest i)
  pub shape : LooserShape l.settings.shape t.settings.shape
  pub windows : Wider l.settings.windows t.settings.windows
  pub covered : Wider l.settings.covered t.settings.covered

-- Each plan of t is a plan of l, each load left to t is left to l at the same slot, and where t has a least count, l
-- has one that is no higher. The thrift may be higher (`ThriftRises` in Cases.antt).
pub record Loosens (t l : Request) : Type 0 where
  pub plans : (ms : List ℕ) → PlanOf t ms → PlanOf l ms
  pub loads : (i : ℕ) (x : ℤ) → LeftAt t i x → LeftAt l i x
  pub windows : (v : ℕ) → LeastWindows t v → (w : ℕ) × LeastWindows l w × (w ≤ v)
  pub covered : (v : ℕ) → LeastCovered t v → (w : ℕ) × LeastCovered l w × (w ≤ v)

-- The same of what is handed back: if t gets "planned", so does l; each load in a narrowed range of the first outcome
-- is in that slot's narrowed range of the second; and neither minimum of the second is higher.
pub record LoosensAnswer (t : Request) (first second : Outcome) (n : PlanCounts) : Type 0 where
  pub counts : PlanCounts
  pub answer : Says second counts
  pub loads : (i : ℕ) → i < slots t → (x : ℤ) → Held first i x → Held second i x
  pub windows : counts.windows.least ≤ n.windows.least
  pub covered : counts.covered.least ≤ n.covered.least

-- the least window count, with the window maximum ignored
abbrev pub LeastUnlimited : Request → ℕ → Type 0
LeastUnlimited r = LeastOver (UnlimitedPlanOf r) windows

-- The request q is r with slot i settled, at a settle count at which that costs at most one more window: under at 0 and
-- 1, over at 0 only (document 02, T-06). At the next larger ones it may cost the plan (`SettlingFails` in Cases.antt).
pub data Settling (r : Request) (i : ℕ) : (q : Request) → Type 0 where
  under : r.settings.shape.settle ≤ 1 → Settling r i (settled_under r i)
  over : r.settings.shape.settle ≡ 0 → Settling r i (settled_over r i)

-- One slot of r is settled, which leaves it well formed. With the window maximum ignored: if a plan exists, one still
-- exists, and the least window count is at most one higher.
pub record Settles (r settled : Request) : Type 0 where
  pub well : WellFormed settled
  pub plan : (ms : List ℕ) → UnlimitedPlanOf r ms → (ms' : List ℕ) × UnlimitedPlanOf settled ms'
  pub count : (v : ℕ) → LeastUnlimited r v → (w : ℕ) × LeastUnlimited settled w × (w ≤ suc v)

-- r with the window range 0 to n
abbrev pub unlimited : Request → Request
unlimited r =
    record {
      settings = record {
        k = r.settings.k;
        shape = r.settings.shape;
        windows = record { least = 0; most = slots r };
        covered = r.settings.covered;
      };
      lowest = r.lowest;
      highest = r.highest;
      marks = r.marks;
    }

-- With the window range 0 to n, which leaves r well formed, the answer is "planned" if r has a plan with the window
-- maximum ignored, and the window minimum is then the least window count of such plans. The answer is "no plan" if
-- there is none.
pub record CountsUnlimited (r : Request) (o : Outcome) : Type 0 where
  pub well : WellFormed (unlimited r)
  pub some : (ms : List ℕ) → UnlimitedPlanOf r ms → SaysPlanned o
  pub number : (n : PlanCounts) → Says o n → LeastUnlimited r n.windows.least
  pub none : SaysNoPlan o ↔ ((ms : List ℕ) → UnlimitedPlanOf r ms → ⊥)

-- The same of the answers: after settling, "planned" stays "planned", with a window minimum at most one higher.
pub record SettlesAnswer (before after : Outcome) : Type 0 where
  pub answer : (n : PlanCounts) → Says before n →
      (m : PlanCounts) × Says after m × (m.windows.least ≤ suc n.windows.least)

pub record Demand3 : Type 0 where
  -- loosening a request never takes away a plan, a load or a lower count
  pub loosening : (t l : Request) → WellFormed t → WellFormed l → Looser l t → Loosens t l
  pub loosening_answers : (t l : Request) → WellFormed t → WellFormed l → Looser l t → (first second : Outcome) →
      Keeps t first → Keeps l second → (n : PlanCounts) → Says first n → LoosensAnswer t first second n
  -- a request with a plan has both least counts and, with the window maximum ignored, a least window count
  pub least_windows : (r : Request) → WellFormed r → (ms : List ℕ) → PlanOf r ms → (v : ℕ) × LeastWindows r v
  pub least_covered : (r : Request) → WellFormed r → (ms : List ℕ) → PlanOf r ms → (v : ℕ) × LeastCovered r v
  pub least_unlimited : (r : Request) → WellFormed r → (ms : List ℕ) → UnlimitedPlanOf r ms →
      (v : ℕ) × LeastUnlimited r v
  -- settling one open slot costs at most one more window
  pub settling : (r q : Request) → WellFormed r → (i : ℕ) → Open r i → Settling r i q → Settles r q
  pub counting : (r : Request) → WellFormed r → (o : Outcome) → Keeps (unlimited r) o → CountsUnlimited r o
  pub settling_answers : (r q : Request) → WellFormed r → (i : ℕ) → Open r i → Settling r i q →
      (before after : Outcome) → Keeps (unlimited r) before → Keeps (unlimited q) after → SettlesAnswer before after
