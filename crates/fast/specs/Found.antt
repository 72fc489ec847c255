-- The counts that go up with the rows, in the words of `best`: the fewest windows, with the least covered count among
-- plans with that many (document 02, T-02).
use Rattle.std.specs.Prelude.{ℕ, ◌≤◌, cond, List, ◌≡◌, leb}
use Rattle.rule.specs.Ranges.{Class}
use Rattle.requests.specs.Best.{using_one, best, fewest}
use Rattle.requests.specs.Solution.{sentinel}
use Rattle.settings.specs.declared.Settings.{Settings}
use Rattle.fast.specs.declared.ring.Filled.{Filled}
use Rattle.fast.specs.declared.ring.Found.{Found}

-- the first window count with which the covered maximum is kept, or the last that was tried
abbrev pub or_found : Found → (v count most : ℕ) → Found
or_found found v count most = cond (leb found.thrift most) found (record { windows = v; thrift = count })

-- With w windows: where a plan keeps the covered maximum, the first window count with which one does, and the least
-- covered count with so many; and the least covered count with one window fewer, or the sentinel where w is 0.
pub record Counted (s : Settings) (cs : List Class) (w : ℕ) (r : Filled) : Type 0 where
  pub windows : best sentinel s.shape cs w ≤ s.covered.most →
      r.found.windows ≡ fewest sentinel s.shape cs s.covered.most 0 w
  pub thrift : r.found.thrift ≡ best sentinel s.shape cs r.found.windows
  pub fewer : r.fewer ≡ using_one sentinel w (best sentinel s.shape cs)
