-- The starred cases of document 01 ("Station plans worked by hand"), each with what the filter has to hand back: one
-- list, and the claim that every outcome in it keeps the promise (proved in proofs/Cases.antt). They are stated with
-- settle 0 (document 02, T-06). After the list, two requests of which the looser has the larger thrift, and two that
-- lose their plans where a slot is settled.
use Rattle.std.specs.Prelude.{ℕ, List, [], ◌∷◌, map, ◌≡◌, ℤ, pos, negsuc, length, replicate}
use Rattle.settings.specs.declared.CountRange.{CountRange}
use Rattle.settings.specs.declared.Settings.{Settings}
use Rattle.refusals.specs.Answer.{gives}
use Rattle.rule.specs.Rule.{shaped}
use Rattle.requests.specs.Demand3.{Looser}
use Rattle.requests.specs.Promise.{no_plan, planned, Outcome, Keeps}
use Rattle.requests.specs.Request.{Request, Thrift, Open, settled_under, settled_over}
use Rattle.requests.specs.declared.PlanCounts.{PlanCounts}

pub record Case : Type 0 where
  pub request : Request
  pub outcome : Outcome

infix 50 ◌‥◌
abbrev pub ◌‥◌ : (least most : ℕ) → CountRange
least ‥ most = record { least = least; most = most }

abbrev settings : (k : ℤ) (len h : ℕ) (windows covered : CountRange) → Settings
settings k len h windows covered = record { k = k; shape = shaped len h; windows = windows; covered = covered }

-- settings with k = 0 and h = 0
abbrev plain_settings : (len : ℕ) (windows covered : CountRange) → Settings
plain_settings len windows covered = settings (pos 0) len 0 windows covered

abbrev at_settle : (settle : ℕ) → Settings → Settings
at_settle settle s =
    record {
      k = s.k;
      shape = record { len = s.shape.len; h = s.shape.h; settle = settle };
      windows = s.windows;
      covered = s.covered;
    }

abbrev pub loads : List ℕ → List ℤ
loads = map pos

-- what the slice of marks holds before the call
abbrev before : List ℤ → List ℕ
before lowest = replicate (length lowest) 9

abbrev request : Settings → (lowest highest : List ℤ) → Request
request s lowest highest = record { settings = s; lowest = lowest; highest = highest; marks = before lowest }

abbrev with_no_plan : Settings → (lowest highest : List ℤ) → Case
with_no_plan s lowest highest =
    record {
      request = request s lowest highest;
      outcome = record { answer = gives no_plan; lowest = lowest; highest = highest; marks = before lowest };
    }

abbrev pub counts : (windows covered : CountRange) (thrift : ℕ) → PlanCounts
counts windows covered thrift = record { windows = windows; covered = covered; thrift = thrift }

-- a case answered "planned", with both count ranges, the thrift, the narrowed load ranges and the first plan
abbrev cut : Settings → (lowest highest : List ℤ) → (windows covered : CountRange) (thrift : ℕ) →
    (lowest' highest' : List ℤ) → (marks : List ℕ) → Case
cut s lowest highest windows covered thrift lowest' highest' marks =
    record {
      request = request s lowest highest;
      outcome =
          record {
            answer = gives (planned (counts windows covered thrift));
            lowest = lowest';
            highest = highest';
            marks = marks;
          };
    }

-- a case answered "planned", with no load range cut
abbrev uncut : Settings → (lowest highest : List ℤ) → (windows covered : CountRange) (thrift : ℕ) → (marks : List ℕ) →
    Case
uncut s lowest highest windows covered thrift marks = cut s lowest highest windows covered thrift lowest highest marks

-- the load ranges of cases A to C, of D and E, and of F and G
abbrev lowest_a : List ℤ
lowest_a = pos 1 ∷ negsuc 1 ∷ pos 5 ∷ pos 0 ∷ []

abbrev highest_a : List ℤ
highest_a = loads (3 ∷ 4 ∷ 5 ∷ 0 ∷ [])

abbrev lowest_d : List ℤ
lowest_d = loads (0 ∷ 0 ∷ 1 ∷ 0 ∷ 1 ∷ 0 ∷ 1 ∷ [])

abbrev highest_d : List ℤ
highest_d = loads (1 ∷ 1 ∷ 1 ∷ 1 ∷ 1 ∷ 1 ∷ 1 ∷ [])

abbrev lowest_f : List ℤ
lowest_f = loads (1 ∷ 0 ∷ 1 ∷ 1 ∷ 0 ∷ 1 ∷ 0 ∷ 1 ∷ [])

abbrev highest_f : List ℤ
highest_f = loads (1 ∷ 1 ∷ 1 ∷ 1 ∷ 1 ∷ 1 ∷ 1 ∷ 1 ∷ [])

abbrev loads515 : List ℤ
loads515 = loads (5 ∷ 1 ∷ 5 ∷ [])

abbrev largest : ℤ
largest = pos 2147483647

unfoldable pub cases : List Case
cases =
    -- A
    cut (plain_settings 3 (0 ‥ 1) (0 ‥ 4)) lowest_a highest_a (1 ‥ 1) (3 ‥ 4) 3
    (loads (1 ∷ 1 ∷ 5 ∷ 0 ∷ [])) highest_a (1 ∷ 2 ∷ 2 ∷ 0 ∷ [])
    -- B
    ∷ uncut (settings (pos 0) 3 1 (0 ‥ 1) (0 ‥ 4)) lowest_a highest_a (1 ‥ 1) (3 ‥ 4) 3 (1 ∷ 2 ∷ 2 ∷ 0 ∷ [])
    -- C
    ∷ with_no_plan (plain_settings 2 (0 ‥ 1) (0 ‥ 4)) lowest_a highest_a
    -- D
    ∷ uncut (plain_settings 3 (0 ‥ 2) (0 ‥ 7)) lowest_d highest_d (2 ‥ 2) (4 ‥ 7) 4 (0 ∷ 0 ∷ 1 ∷ 0 ∷ 1 ∷ 2 ∷ 2 ∷ [])
    -- E
    ∷ cut (plain_settings 3 (0 ‥ 2) (0 ‥ 4)) lowest_d highest_d (2 ‥ 2) (4 ‥ 4) 4
    lowest_d (loads (0 ∷ 0 ∷ 1 ∷ 1 ∷ 1 ∷ 1 ∷ 1 ∷ [])) (0 ∷ 0 ∷ 1 ∷ 0 ∷ 1 ∷ 2 ∷ 2 ∷ [])
    -- D with windows 0..3 and covered 0..4 ("Plausible programs that are wrong")
    ∷ cut (plain_settings 3 (0 ‥ 3) (0 ‥ 4)) lowest_d highest_d (2 ‥ 3) (3 ‥ 4) 4
    lowest_d (loads (0 ∷ 1 ∷ 1 ∷ 1 ∷ 1 ∷ 1 ∷ 1 ∷ [])) (0 ∷ 0 ∷ 1 ∷ 0 ∷ 1 ∷ 0 ∷ 1 ∷ [])
    -- F
    ∷ cut (plain_settings 5 (0 ‥ 2) (0 ‥ 7)) lowest_f highest_f (2 ‥ 2) (7 ‥ 7) 7
    (loads (1 ∷ 1 ∷ 1 ∷ 1 ∷ 0 ∷ 1 ∷ 1 ∷ 1 ∷ [])) (loads (1 ∷ 1 ∷ 1 ∷ 1 ∷ 0 ∷ 1 ∷ 1 ∷ 1 ∷ []))
    (1 ∷ 2 ∷ 2 ∷ 2 ∷ 0 ∷ 1 ∷ 2 ∷ 2 ∷ [])
    -- G: one plan has 2 windows, another covers 5 slots
    ∷ uncut (plain_settings 5 (0 ‥ 4) (0 ‥ 8)) lowest_f highest_f (2 ‥ 4) (5 ‥ 8) 7 (1 ∷ 0 ∷ 1 ∷ 1 ∷ 0 ∷ 1 ∷ 2 ∷ 2 ∷ [])
    -- no plan does both
    ∷ with_no_plan (plain_settings 5 (0 ‥ 2) (0 ‥ 5)) lowest_f highest_f
    -- H
    ∷ uncut (plain_settings 1 (0 ‥ 1) (0 ‥ 1)) (loads (0 ∷ [])) (loads (0 ∷ [])) (0 ‥ 1) (0 ‥ 1) 0 (0 ∷ [])
    ∷ with_no_plan (plain_settings 1 (0 ‥ 0) (0 ‥ 1)) (loads (1 ∷ [])) (loads (1 ∷ []))
    -- I
    ∷ uncut (settings largest 1 0 (0 ‥ 0) (0 ‥ 2)) (largest ∷ largest ∷ []) (largest ∷ largest ∷ []) (0 ‥ 0)
    (0 ‥ 2) 0 (0 ∷ 0 ∷ [])
    -- J
    ∷ uncut (plain_settings 3 (0 ‥ 7) (0 ‥ 7)) highest_d highest_d (3 ‥ 7) (7 ‥ 7) 7 (1 ∷ 1 ∷ 1 ∷ 1 ∷ 1 ∷ 1 ∷ 1 ∷ [])
    -- J at settle 1 (document 02, T-06)
    ∷ with_no_plan (at_settle 1 (plain_settings 3 (0 ‥ 7) (0 ‥ 7))) highest_d highest_d
    -- loads 5, 1, 5 need one window at k = 0 and two at k = 1 ("Plausible programs that are wrong")
    ∷ uncut (plain_settings 3 (0 ‥ 3) (0 ‥ 3)) loads515 loads515 (1 ‥ 3) (3 ‥ 3) 3 (1 ∷ 1 ∷ 1 ∷ [])
    ∷ uncut (settings (pos 1) 3 0 (0 ‥ 3) (0 ‥ 3)) loads515 loads515 (2 ‥ 3) (2 ‥ 3) 2 (1 ∷ 0 ∷ 1 ∷ [])
    ∷ []

-- the claim: the outcome of each case keeps the promise
abbrev pub Kept : List Case → Type 0
Kept [] = Unit
Kept (c ∷ cs) = Keeps c.request c.outcome × Kept cs

-- Over, under, over with len 3, and the same with the middle slot open (document 02, T-02).
abbrev pub loads101 : List ℤ
loads101 = loads (1 ∷ 0 ∷ 1 ∷ [])

abbrev pub loads111 : List ℤ
loads111 = loads (1 ∷ 1 ∷ 1 ∷ [])

unfoldable pub middle_under : Case
middle_under = uncut (plain_settings 3 (0 ‥ 3) (0 ‥ 3)) loads101 loads101 (2 ‥ 3) (2 ‥ 3) 2 (1 ∷ 0 ∷ 1 ∷ [])

unfoldable pub middle_open : Case
middle_open = uncut (plain_settings 3 (0 ‥ 3) (0 ‥ 3)) loads101 loads111 (1 ‥ 3) (2 ‥ 3) 3 (1 ∷ 0 ∷ 1 ∷ [])

-- Loosening a request may raise its thrift, so that demand 3 cannot speak of it: the second of these is looser.
pub record ThriftRises : Type 0 where
  pub kept : Kept (middle_under ∷ middle_open ∷ [])
  pub looser : Looser middle_open.request middle_under.request
  pub tight : Thrift middle_under.request 2
  pub loose : Thrift middle_open.request 3

-- Settling may cost the plan beyond the settle counts of `Settling` (document 02, T-06), with the window range 0 to n.
-- Over at settle 1: an over slot and an open one, with len 1. The open slot settled over, the two windows would touch.
abbrev one_slot_long : Settings
one_slot_long = at_settle 1 (plain_settings 1 (0 ‥ 2) (0 ‥ 2))

unfoldable pub beside_open : Case
beside_open =
    cut one_slot_long (loads (1 ∷ 0 ∷ [])) (loads (1 ∷ 1 ∷ [])) (1 ‥ 2) (1 ‥ 2) 1
    (loads (1 ∷ 0 ∷ [])) (loads (1 ∷ 0 ∷ [])) (1 ∷ 0 ∷ [])

unfoldable pub beside_over : Case
beside_over = with_no_plan one_slot_long (loads (1 ∷ 1 ∷ [])) (loads (1 ∷ 1 ∷ []))

-- Under at settle 2: an open slot between over slots, with len 3. Settled under, it would be the one slot between
-- windows.
abbrev three_slots_long : Settings
three_slots_long = at_settle 2 (plain_settings 3 (0 ‥ 3) (0 ‥ 3))

unfoldable pub between_open : Case
between_open = cut three_slots_long loads101 loads111 (1 ‥ 3) (3 ‥ 3) 3 loads111 loads111 (1 ∷ 2 ∷ 2 ∷ [])

unfoldable pub between_under : Case
between_under = with_no_plan three_slots_long loads101 loads101

pub record SettlingFails : Type 0 where
  pub kept : Kept (beside_open ∷ beside_over ∷ between_open ∷ between_under ∷ [])
  pub open_over : Open beside_open.request 1
  pub over : settled_over beside_open.request 1 ≡ beside_over.request
  pub open_under : Open between_open.request 1
  pub under : settled_under between_open.request 1 ≡ between_under.request
