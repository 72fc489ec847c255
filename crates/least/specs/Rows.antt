-- What is promised of rows, in the words of `best`.
use Rattle.std.specs.Prelude.{ℕ, ◌+◌, ◌-◌, ◌≤◌, min, Bool, cond, List, ◌≡◌, eqb, length, drop, get_or}
use Rattle.rule.specs.Ranges.{Class, allows}
use Rattle.settings.specs.declared.Settings.{Settings}
use Rattle.settings.specs.Refusals.{limit, places}
use Rattle.requests.specs.Best.{using_one, best, best_inside, best_after, fewest}
use Rattle.requests.specs.Solution.{sentinel}
use Rattle.least.specs.declared.UnderWay.{UnderWay}

-- the least covered count of the slots from i on, with at most w windows
abbrev pub least_from : Settings → List Class → (i w : ℕ) → ℕ
least_from s cs i w = best sentinel s.shape (drop i cs) w

-- the same after a window that closed right before slot i
abbrev pub after_from : Settings → List Class → (i w : ℕ) → ℕ
after_from s cs i w = best_after sentinel s.shape (drop i cs) w

-- the same in a window whose first slot is right before slot i and which continues
abbrev pub inside_from : Settings → List Class → (i w : ℕ) → ℕ
inside_from s cs i w = best_inside sentinel s.shape (drop i cs) (s.shape.len - 1) s.shape.h w

-- the first of the window counts below w with which the covered maximum is kept, or w
abbrev pub first_below : Settings → List Class → (w : ℕ) → ℕ
first_below s cs w = fewest sentinel s.shape cs s.covered.most 0 w

-- the least covered count with the first of the window counts below w with which the covered maximum is kept, or with
-- the last of them; where w is 0 there is no plan
abbrev pub thrift_below : Settings → List Class → (w : ℕ) → ℕ
thrift_below s cs w = using_one sentinel w λ v. best sentinel s.shape cs (first_below s cs v)

-- A row of least counts: for each slot the least covered count of the slots from there on, with at
-- most w windows. Past the last slot that is 0.
pub record Row (s : Settings) (cs : List Class) (w : ℕ) (row : List ℕ) : Type 0 where
  pub wide : length row ≡ places
  pub counts : (i : ℕ) → i ≤ limit → get_or row i 0 ≡ least_from s cs i w

-- What comes after a window, where at most w windows are left, this one included: for each slot the
-- least covered count of the slots from there on, with one window fewer and the slots owed first. Where w is 0 there is
-- no plan.
pub record RowAfter (s : Settings) (cs : List Class) (w : ℕ) (after : List ℕ) : Type 0 where
  pub wide : length after ≡ places
  pub counts : (i : ℕ) → i ≤ limit → get_or after i 0 ≡ using_one sentinel w (after_from s cs i)

-- A window extended by the next slot, where `after` is the least covered count of what comes after that slot. A slot
-- that can be over is taken as over, and the window may close after it; any other is a bridge, where one is left.
abbrev pub extended_by : (over : Bool) (slots bridges covered least after : ℕ) → UnderWay
extended_by over slots bridges covered least after =
    cond over
    (record {
      slots = slots - 1;
      bridges = bridges;
      covered = covered + 1;
      least = min least (min sentinel (covered + 1 + after));
    })
    (cond (eqb bridges 0)
    (record { slots = 0; bridges = 0; covered = covered; least = least })
    (record { slots = slots - 1; bridges = bridges - 1; covered = covered + 1; least = least }))

abbrev pub extended : UnderWay → Class → (after : ℕ) → UnderWay
extended g c after = extended_by (allows c 2) g.slots g.bridges g.covered g.least after
