-- A request and the words for what belongs to it (document 01, "Words of demand 3").
use Rattle.std.specs.Prelude.{ℕ, suc, ◌≤◌, ◌<◌, min, Bool, true, cond, ◌||◌, List, [], ◌∷◌, ◌≡◌, ℤ, pos, length, get_or, set, ◌<ℤ◌, ◌≤ℤ◌}
use Rattle.std.proofs.Math.Option.{Option, none, some}
use Rattle.std.proofs.Math.IntN.{suc_ℤ}
use Rattle.std.specs.Int.Signed.{lt_z}
use Rattle.refusals.specs.Table.{first}
use Rattle.refusals.specs.declared.Refusal.{Refusal}
use Rattle.refusals.specs.declared.Refusal.TheVariants.{Crossed}
use Rattle.rule.specs.Ranges.{range, ChosenIn, LegalFor}
use Rattle.rule.specs.declared.Range.{Range}
use Rattle.settings.specs.Refusals.{differs, refusal}
use Rattle.rule.specs.Rule.{legal, windows, covered, LeastOver, ThriftOver}
use Rattle.settings.specs.declared.Settings.{Settings}

-- What the filter is given: the settings and what the three lent slices hold. What the marks hold plays no part.
pub record Request : Type 0 where
  pub settings : Settings
  pub lowest : List ℤ
  pub highest : List ℤ
  pub marks : List ℕ

abbrev pub request_of : Settings → (lowest highest : List ℤ) (marks : List ℕ) → Request
request_of s los his ms = record { settings = s; lowest = los; highest = his; marks = ms }

-- the number of slots, the load ranges, and what a list of loads has at slot i
abbrev pub slots : Request → ℕ
slots r = length r.lowest

abbrev pub paired : (lowest highest : List ℤ) → List Range
paired [] his = []
paired (lo ∷ los) [] = []
paired (lo ∷ los) (hi ∷ his) = range lo hi ∷ paired los his

abbrev pub ranges : Request → List Range
ranges r = paired r.lowest r.highest

abbrev pub at : List ℤ → ℕ → ℤ
at loads i = get_or loads i (pos 0)

-- the threshold at slot i, the same at each slot
abbrev pub threshold_at : Request → (i : ℕ) → ℤ
threshold_at r i = r.settings.k

-- refusal 31, of the first slot with its lowest load above its highest; the slots are numbered from i
-- ("Where each refusal is checked")
unfoldable pub crossed : (i : ℕ) → List Range → Option Refusal
crossed i [] = none
crossed i (r ∷ rs) = cond (lt_z r.highest r.lowest) (some (Crossed i)) (crossed (suc i) rs)

-- The refusals of lengths and settings (21 to 26), then that of the slots (31). `different` says whether a slice other
-- than the two of the loads has another length.
unfoldable pub request_refusal : Settings → (lowest highest : List ℤ) (different : Bool) → Option Refusal
request_refusal s los his different =
    first
    (refusal (length los) (differs (length los) (length his) || different) s
    ∷ crossed 0 (paired los his)
    ∷ [])

unfoldable pub filter_refusal : Request → Option Refusal
filter_refusal r = request_refusal r.settings r.lowest r.highest (differs (slots r) (length r.marks))

-- well formed: the filter gives no refusal
abbrev pub WellFormed : Request → Type 0
WellFormed r = filter_refusal r ≡ none

-- marks that are legal for given loads, and marks that are legal for the request's ranges
abbrev pub LegalWith : Request → List ℤ → List ℕ → Type 0
LegalWith r loads ms = legal r.settings.k r.settings.shape loads ms ≡ true

abbrev pub LegalIn : Request → List ℕ → Type 0
LegalIn r ms = LegalFor r.settings.k r.settings.shape (ranges r) ms

-- the plans of a request: the marks legal for its ranges whose window and covered counts are at most its maximums; the
-- given minimums play no part
pub record PlanOf (r : Request) (ms : List ℕ) : Type 0 where
  pub in_rule : LegalIn r ms
  pub windows_fit : windows ms ≤ r.settings.windows.most
  pub covered_fit : covered ms ≤ r.settings.covered.most

-- with the window maximum ignored, the plans are all marks that are legal for the ranges and within the covered maximum
pub record UnlimitedPlanOf (r : Request) (ms : List ℕ) : Type 0 where
  pub in_rule : LegalIn r ms
  pub covered_fit : covered ms ≤ r.settings.covered.most

-- the loads left to a request at slot i: those that occur there in some choice of loads in the ranges for which one of
-- its plans is legal
pub record LeftAt (r : Request) (i : ℕ) (x : ℤ) : Type 0 where
  pub loads : List ℤ
  pub marks : List ℕ
  pub chosen : ChosenIn (ranges r) loads
  pub plan : PlanOf r marks
  pub in_rule : LegalWith r loads marks
  pub there : i < length loads
  pub occurs : at loads i ≡ x

-- the two least counts of a request: each is the least over its plans, taken by itself
abbrev pub LeastWindows : Request → ℕ → Type 0
LeastWindows r = LeastOver (PlanOf r) windows

abbrev pub LeastCovered : Request → ℕ → Type 0
LeastCovered r = LeastOver (PlanOf r) covered

-- the thrift of a request: the least covered count over the plans than which no plan has fewer windows
abbrev pub Thrift : Request → ℕ → Type 0
Thrift r = ThriftOver (PlanOf r)

-- a slot is open when its lowest load is at most the threshold and its highest is greater
pub record Open (r : Request) (i : ℕ) : Type 0 where
  pub there : i < slots r
  pub low : at r.lowest i ≤ℤ threshold_at r i
  pub high : threshold_at r i <ℤ at r.highest i

-- settling a slot under makes its highest load the threshold; all else stays
abbrev pub settled_under : Request → ℕ → Request
settled_under r i =
    record {
      settings = r.settings;
      lowest = r.lowest;
      highest = set r.highest i (threshold_at r i);
      marks = r.marks;
    }

-- settling a slot over makes its lowest load the threshold plus 1, and the covered maximum one more, or n if smaller
abbrev one_more : Settings → (n : ℕ) → Settings
one_more s n =
    record {
      k = s.k;
      shape = s.shape;
      windows = s.windows;
      covered = record { least = s.covered.least; most = min (suc s.covered.most) n };
    }

abbrev pub settled_over : Request → ℕ → Request
settled_over r i =
    record {
      settings = one_more r.settings (slots r);
      lowest = set r.lowest i (suc_ℤ (threshold_at r i));
      highest = r.highest;
      marks = r.marks;
    }
