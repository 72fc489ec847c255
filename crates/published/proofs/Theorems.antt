-- What specs/Published.antt states, proved.
use Prim.Native.Nat.{ℕ}
use native.Mathlib.Omega.{arith}
use mathlib.Core.Bool.{true}
use mathlib.Core.List.{List}
use mathlib.Core.Logic.{◌↔◌}
use mathlib.Core.Path.{◌≡◌}
use lib.IntN.{ℤ}
use Rattle.judge.proofs.Allowed.{Allowed, allowed-iff}
use Rattle.rule.proofs.Ranges.{legal_for-iff-classes}
use Rattle.judge.specs.Judgment.{allowed}
use Rattle.settings.specs.declared.Settings.{Settings}
use Rattle.published.proofs.Corners.{recount, focus, springy, weighted, weighted_springy}
use Rattle.published.proofs.Draws.{draws}
use Rattle.published.proofs.Drawn.{drawn}
use Rattle.published.specs.Published.{Sequence, Obeys, sequences_of, Theorems}

-- some windows obey the rule, within the maximums of the settings
abbrev Windows : Settings → List ℤ → Type 0
Windows s X = (S : List Sequence) × Obeys s.k s.shape s.windows.most s.covered.most X S

exist : (s : Settings) (X : List ℤ) → Windows s X ↔ ((ms : List ℕ) × (allowed s X ms ≡ true))
exist s X = (to, from)
  where
    to : Windows s X → (ms : List ℕ) × (allowed s X ms ≡ true)
    to (S, o) =
        let (ms, e, into, onto, number, summed) = drawn s.k s.shape _ _ X S o in
        let a : Allowed s X ms = record {
          in_rule = e;
          windows_fit = omega (arith, number, o.number);
          covered_fit = omega (arith, summed, o.summed);
        } in
        (ms, allowed-iff.1 a)

    from : (ms : List ℕ) × (allowed s X ms ≡ true) → Windows s X
    from (ms, e) =
        let a : Allowed s X ms = allowed-iff.0 e in
        let (o, number, summed) = draws s.k s.shape X ms a.in_rule in (
          sequences_of 0 ms,
          recount X _ _ _ _ _ o (omega (arith, number, a.windows_fit))
              (omega (arith, summed, a.covered_fit)),
        )

pub theorems : Theorems
theorems =
    record {
      corners = λ X yc len h k zc S. record {
        focus = focus X yc len k S;
        springy = springy X yc len h k S;
        weighted = weighted X yc len k zc S;
        weighted_springy = weighted_springy X yc len h k zc S;
      };
      draws = draws;
      drawn = drawn;
      exist = exist;
      classes = legal_for-iff-classes;
    }
