-- The loop of `run`: what is left of the loads is run from the state at hand.
use Prim.Native.Nat.{ℕ, suc, ◌+◌, ◌≤◌, ◌<◌}
use native.Mathlib.Omega.{arith}
use mathlib.Core.Bool.{Bool}
use mathlib.Core.List.{List}
use mathlib.Core.Option.{Option, none, some}
use mathlib.Core.Path.{◌≡◌, subst}
use lib.IntN.{ℤ, pos}
use lib.ListN.{length, drop, get_or, drop_of_length-le}
use Rattle.facts.proofs.Lists.{uncons}
use Rattle.refusals.specs.Answer.{refuses, gives}
use Rattle.refusals.specs.declared.Refusal.{Refusal}
use Rattle.watch.specs.Promise.{Steps, Runs, done, stops, continues}
use Rattle.watch.specs.declared.Watch.{Watch}
use Rattle.watch.specs.declared.step.Stepped.{Stepped}

module _ (first : Watch) (loads : List ℤ) where
  -- at load i, in the state w: to run the rest of the loads from here is to run all of them from the first state
  pub record LeftToRun (i : ℕ) (w : Watch) : Type 0 where
    pub rest : (v : Watch) (n : ℕ) (o : Option Refusal) (m : ℕ) → Runs w (drop i loads) v n o → i + n ≡ m →
        Runs first loads v m o

  pub run-start : LeftToRun 0 first
  run-start = record { rest = λ v n o m r e. subst (λ n. Runs first loads v n o) (omega arith) r }

  module _ (i : ℕ) (w : Watch) (left : LeftToRun i w) where
    pub run_end : i ≡ length loads → Runs first loads w (length loads) none
    run_end e =
        let bound : length loads ≤ i = omega arith in
        left.rest _ 0 _ (length loads) (rw (drop_of_length-le loads bound) done) (omega arith)

    module _ (r : Stepped) (inside : i < length loads) (s : Steps w (get_or loads i (pos 0)) r) where
      pub run_step : {b : Bool} → r.answer ≡ gives b → LeftToRun (i + 1) r.watch
      run_step e =
          record {
            rest = λ v n o m t f.
                left.rest v (suc n) o m
                (rw (uncons loads i (pos 0) inside) (continues r s e t)) (omega arith);
          }

      pub run-stop : {q : Refusal} → r.answer ≡ refuses q → Runs first loads r.watch i (some q)
      run-stop e = left.rest _ 0 _ i (rw (uncons loads i (pos 0) inside) (stops r s e)) (omega arith)
