-- What a run comes to, by what its steps promise: from a state that loads lead to, it takes loads up to the limit.
use Prim.Native.Nat.{ℕ, suc, ◌<◌}
use native.Mathlib.Omega.{arith}
use mathlib.Core.Bool.{Bool}
use mathlib.Core.List.{List, [], ◌∷◌, ◌++◌, append-nil}
use mathlib.Core.Logic.{◌⊎◌}
use mathlib.Core.Option.{some}
use mathlib.Core.Path.{◌≡◌, refl, sym, ◌∙◌}
use borrow.Author.Tests.{lt-ltb}
use lib.Dec.{leb-suc-suc}
use lib.IntN.{ℤ}
use lib.ListN.{length, take, length-append}
use lib.Seq.{append_snoc}
use Rattle.refusals.proofs.Answer.{refuses-injective}
use Rattle.refusals.specs.Answer.{refuses, gives}
use Rattle.refusals.specs.declared.Refusal.{Refusal}
use Rattle.refusals.specs.declared.Refusal.TheVariants.{Unreached, Full}
use Rattle.watch.proofs.LeadsTo.{taken-length}
use Rattle.watch.proofs.StepAnswers.{codes-differ}
use Rattle.watch.specs.Promise.{Steps, Runs, done, stops, continues, RunsFromReached}
use Rattle.watch.specs.States.{max_taken, LeadsTo}
use Rattle.watch.specs.declared.Watch.{Watch}
use Rattle.watch.specs.declared.step.Stepped.{Stepped}

-- what a step from such a state answers, at the limit and below it
module _ {k : ℤ} {len h : ℕ} {xs : List ℤ} {w : Watch} (l : LeadsTo k len h xs w) {x : ℤ} {r : Stepped}
    (s : Steps w x r) where
  at-limit : length xs ≡ max_taken → r.answer ≡ refuses Full
  at-limit all = s.full.1 ((k, len, h, xs, l), taken-length l ∙ all)

  took-below : {b : Bool} → r.answer ≡ gives b → length xs < max_taken
  took-below e =
      let free : (length xs ≡ max_taken → ⊥) = λ all. codes-differ (λ c. omega arith) e (at-limit all) in
      omega (arith, l.few, free)

  refused_full : {q : Refusal} → r.answer ≡ refuses q → (length xs ≡ max_taken) × (q ≡ Full)
  refused_full e =
      let full : (length xs < max_taken → ⊥) = λ few. codes-differ (λ c. omega arith) e (s.taken k len h xs l few).1 in
      let all : length xs ≡ max_taken = omega (arith, l.few, full) in
      (all, refuses-injective (sym e ∙ at-limit all))

pub runs-to-limit : RunsFromReached
runs-to-limit k len h loads _ _ _ _ _ l done =
    record { taken = omega arith; state = rw (append-nil loads) l; refused = refl }
runs-to-limit k len h loads _ _ _ _ _ l (stops {xs = xs} r s e) =
    record {
      taken = omega (arith, (refused_full l s e).0);
      state = rw (append-nil loads, (s.kept _ e).1) l;
      refused = rw ((refused_full l s e).1, lt-ltb 0 (suc (length xs)) (omega arith));
    }
runs-to-limit k len h loads _ _ _ _ _ l (continues {x = x} {xs} {n = n} r s e run) =
    let few = took-below l s e in
    let q = runs-to-limit k len h (loads ++ x ∷ []) xs _ _ n _ (s.taken k len h loads l few).0 run in
    record {
      taken = omega (arith, q.taken, length-append loads (x ∷ []));
      state = rw (append_snoc loads x (take n xs)) at q.state;
      refused = rw (leb-suc-suc (suc n) (length xs)) q.refused;
    }

-- a run is refused only by one of its steps, with 32 or 33
pub run-refusals : {w v : Watch} {xs : List ℤ} {taken : ℕ} {q : Refusal} → Runs w xs v taken (some q) →
    (q ≡ Unreached) ⊎ (q ≡ Full)
run-refusals (stops r s e) = (s.kept _ e).0
run-refusals (continues r s e run) = run-refusals run
