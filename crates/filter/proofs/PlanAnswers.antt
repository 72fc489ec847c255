-- The filter's answers keep its promise: what the called functions gave, taken together.
use Prim.Native.Nat.{ℕ, ◌≤◌, ◌<◌}
use mathlib.Core.Bool.{true, false}
use mathlib.Core.List.{List, []}
use mathlib.Core.Path.{◌≡◌}
use borrow.Author.Tests.{le-leb, lt-leb}
use lib.IntN.{ℤ}
use lib.Seq.{sets}
use Rattle.drawing.proofs.OfRequest.{all-drawn}
use Rattle.refusals.specs.Answer.{gives}
use Rattle.rule.specs.Ranges.{Class}
use Rattle.settings.specs.declared.CountRange.{CountRange}
use Rattle.settings.specs.declared.Settings.{Settings}
use Rattle.requests.proofs.SolutionKeeps.{solution-keeps}
use Rattle.requests.specs.Promise.{no_plan, planned, Keeps}
use Rattle.requests.specs.Request.{Request, WellFormed}
use Rattle.requests.specs.Solution.{classes, drawn_plan, possible, lowest_left, highest_left, raised}
use Rattle.requests.specs.Solution.{planned_outcome, unaltered_outcome, solution}
use Rattle.least.specs.Counts.{Counted}
use Rattle.least.specs.declared.LeastCounts.{LeastCounts}

module _ (r : Request) (well : WellFormed r) where
  abbrev s : Settings
  s = r.settings

  module _ (cs : List Class) (by : cs ≡ classes r) (least : LeastCounts) (counted : Counted s cs least) where
    pub no-plan-kept : s.covered.most < least.covered → Keeps r (unaltered_outcome r (gives no_plan))
    unfolding solution possible
    no-plan-kept e =
        let none : possible s (classes r) ≡ false = rw (← by, ← counted.2) (lt-leb _ _ e) in
        rw (well, none) at (solution-keeps r)

    module _ (e : least.covered ≤ s.covered.most) where
      some-plan : possible s cs ≡ true
      unfolding possible
      some-plan = rw (← counted.2) (le-leb _ _ e)

      pub plan-kept : {ms : List ℕ} {w c : CountRange} {los his : List ℤ} → ms ≡ sets r.marks 0 (drawn_plan s cs) →
          w ≡ raised s.windows least.windows → c ≡ raised s.covered least.covered →
          (los ≡ lowest_left s cs r.lowest) × (his ≡ highest_left s cs r.highest) →
          Keeps r (record {
            answer = gives (planned (record { windows = w; covered = c; thrift = least.thrift }));
            lowest = los;
            highest = his;
            marks = ms;
          })
      unfolding solution
      plan-kept ms w c (low, high) =
          let (few, thrifty, short) = counted in
          let kept : Keeps r (planned_outcome r) = rw (well, rw by at some-plan) at (solution-keeps r) in
          rw (ms, w, c, low, high, few, thrifty, short, by, all-drawn r well []) kept
