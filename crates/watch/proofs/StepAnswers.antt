-- What a step gives, by what its tests found: each of the three ways through `step` keeps its promise.
use Prim.Native.Nat.{ℕ, suc, ◌<◌}
use native.Mathlib.Omega.{arith}
use mathlib.Core.Bool.{Bool}
use mathlib.Core.Logic.{inl, inr}
use mathlib.Core.Path.{◌≡◌, sym, ◌∙◌, ap, subst}
use lib.IntN.{ℤ}
use mir.Syntax.{w32}
use mir.Val.{SFits}
use Rattle.refusals.proofs.Answer.{refuses-injective}
use Rattle.refusals.specs.Answer.{Answer, refuses, gives}
use Rattle.refusals.specs.Numbers.{number}
use Rattle.refusals.specs.declared.Refusal.TheVariants.{Unreached, Full}
use Rattle.watch.proofs.LeadsTo.{taken-length, leads_to-snoc}
use Rattle.watch.specs.Promise.{opened, Steps}
use Rattle.watch.specs.States.{after, max_taken, LeadsTo, Reached}
use Rattle.watch.specs.declared.Watch.{Watch}
use Rattle.watch.specs.declared.step.Stepped.{Stepped}

-- answers of different codes differ
abbrev code : Answer Bool → ℕ
code (gives opened) = 0
code (refuses r) = suc (number r)

pub codes-differ : {s t v : Answer Bool} → (code s ≡ code t → ⊥) → v ≡ s → v ≡ t → ⊥
codes-differ f is e = f (ap code (sym is ∙ e))

module _ (w : Watch) (load : ℤ) (r : Stepped) where
  pub refuses-32 : (Reached w → ⊥) → r.watch ≡ w → r.answer ≡ refuses Unreached → Steps w load r
  refuses-32 un same e =
      record {
        unreached = (λ _. un, λ _. e);
        full = (λ f. absurd (codes-differ (λ c. omega arith) (e) f), λ f. absurd (un f.0));
        kept = λ q f. (inl (refuses-injective (sym f ∙ e)), same);
        taken = λ k len h loads l few. absurd (un (k, len, h, loads, l));
      }

  pub refuses-33 : Reached w → w.taken ≡ max_taken → r.watch ≡ w → r.answer ≡ refuses Full → Steps w load r
  refuses-33 re is same e =
      record {
        unreached = (λ f. absurd (codes-differ (λ c. omega arith) (e) f), λ un. absurd (un re));
        full = (λ _. (re, is), λ _. e);
        kept = λ q f. (inr (refuses-injective (sym f ∙ e)), same);
        taken = λ k len h loads l few. absurd (omega (arith, taken-length l));
      }

  pub takes-load : SFits w32 load → Reached w → w.taken < max_taken → r.watch ≡ after w load →
      r.answer ≡ gives (opened w r.watch) →
      Steps w load r
  takes-load fits re more is e =
      record {
        unreached = (λ f. absurd (codes-differ (λ c. omega arith) (e) f), λ un. absurd (un re));
        full = (λ f. absurd (codes-differ (λ c. omega arith) (e) f), λ f. absurd (omega (arith, f.1)));
        kept = λ q f. absurd (codes-differ (λ c. omega arith) (e) f);
        taken =
            λ k len h loads l few. (subst (LeadsTo k len h _) (sym is) (leads_to-snoc load fits few l), e);
      }
