-- Every case of specs/Cases.antt keeps the promise: its outcome is the computed one, for all of them at once.
use Prim.Native.Nat.{ℕ, zero, suc}
use native.Mathlib.Nat.{le_refl}
use native.Mathlib.Omega.{arith}
use mathlib.Core.List.{List, [], ◌∷◌, map}
use mathlib.Core.Path.{◌≡◌, refl, ap, subst}
use lib.ListN.{get_or, drop}
use lib.Signed.{◌≤ℤ◌, ≤ℤ_refl, lt_z_yes}
use Rattle.requests.proofs.SolutionKeeps.{solution-keeps}
use Rattle.requests.specs.Best.{clearable, best, fewest}
use Rattle.requests.specs.Cases.{Case, cases, Kept, loads101, loads111, middle_under, middle_open, ThriftRises}
use Rattle.requests.specs.Cases.{beside_open, beside_over, between_open, between_under, SettlingFails}
use Rattle.requests.specs.Drawing.{drawn_from}
use Rattle.requests.specs.Promise.{Outcome, Keeps}
use Rattle.requests.specs.Request.{at, request_refusal, filter_refusal, crossed}
use Rattle.requests.specs.Solution.{possible, loss, solution}
use Rattle.rule.specs.Ranges.{class_of, allows}
use Rattle.refusals.specs.Table.{row, first}
use Rattle.settings.specs.Refusals.{wrong_slots, differs, wrong_length, wrong_bridges, wrong_counts}
use Rattle.settings.specs.Refusals.{wrong_settle, lengths_refusal, shape_refusal, settings_refusal, refusal}
use Rattle.rule.specs.Rule.{over, goes_with}

abbrev computed : Case → Outcome
computed c = solution c.request

abbrev stated : Case → Outcome
stated c = c.outcome

each : (cs : List Case) → map computed cs ≡ map stated cs → Kept cs
each [] e = tt
each (c ∷ cs) e =
    let here : computed c ≡ stated c = ap (λ l. get_or l 0 (stated c)) e in
    (subst (Keeps c.request) here (solution-keeps c.request), each cs (ap (drop 1) e))

-- the cases of the list, with those of `ThriftRises` and `SettlingFails` before them
abbrev all : List Case
all = middle_under ∷ middle_open ∷ beside_open ∷ beside_over ∷ between_open ∷ between_under ∷ cases

computed-kept : Kept all
unfolding middle_under middle_open beside_open beside_over between_open between_under cases solution filter_refusal
    request_refusal crossed refusal lengths_refusal shape_refusal settings_refusal first row wrong_slots differs wrong_length
    wrong_bridges wrong_counts wrong_settle possible loss fewest clearable best class_of allows over goes_with drawn_from
computed-kept = each all refl

pub all-kept : Kept cases
all-kept = computed-kept.1.1.1.1.1.1

pub settling_fails : SettlingFails
unfolding beside_open beside_over between_open between_under
settling_fails =
    let (under, (opened, (bo, (bv, (to, (tu, rest)))))) = computed-kept in
    record {
      kept = (bo, (bv, (to, (tu, tt))));
      open_over = record { there = omega arith; low = record { le = tt }; high = lt_z_yes tt };
      over = refl;
      open_under = record { there = omega arith; low = record { le = tt }; high = lt_z_yes tt };
      under = refl;
    }

-- with the middle slot open no highest load is lower
no_lower : (i : ℕ) → at loads101 i ≤ℤ at loads111 i
no_lower zero = record { le = tt }
no_lower (suc zero) = record { le = tt }
no_lower (suc (suc zero)) = record { le = tt }
no_lower (suc (suc (suc i))) = record { le = tt }

pub thrift_rises : ThriftRises
unfolding middle_under middle_open
thrift_rises =
    let under = computed-kept.0 in
    let opened = computed-kept.1.0 in
    record {
      kept = (under, (opened, tt));
      looser = record {
        threshold = λ i. refl;
        as_many = refl;
        contains = λ i there. (≤ℤ_refl _, no_lower i);
        shape = record { len = le_refl _; h = le_refl _; settle = le_refl _ };
        windows = record { most = le_refl _; least = le_refl _ };
        covered = record { most = le_refl _; least = le_refl _ };
      };
      tight = under.1.thrift;
      loose = opened.1.thrift;
    }
