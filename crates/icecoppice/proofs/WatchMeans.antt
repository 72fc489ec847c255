-- What a caller can tell from the numbers of the watch.
use Prim.Native.Nat.{ℕ}
use native.Mathlib.Omega.{arith}
use mathlib.Core.Bool.{Bool}
use mathlib.Core.Logic.{⊎_elim}
use mathlib.Core.Option.{Option, none, some}
use mathlib.Core.Path.{◌≡◌, refl, sym, ap, ◌∙◌}
use lib.IntN.{ℤ}
use Rattle.refusals.proofs.Injective.{number-slot-injective, eleven-le-number}
use Rattle.refusals.specs.Answer.{Answer, refuses, gives}
use Rattle.refusals.specs.Numbers.{number, slot}
use Rattle.refusals.specs.declared.Refusal.{Refusal}
use Rattle.refusals.specs.declared.Refusal.TheVariants.{Unreached, Full}
use Rattle.watch.proofs.StartAnswers.{start-refuses, start_gives}
use Rattle.watch.specs.Start.{starting}
use Rattle.watch.specs.States.{start_refusal}
use Rattle.watch.specs.declared.Watch.{Watch}
use Rattle.icecoppice.specs.WatchNumbers.{start_numbers, step_numbers, StepsInNumbers, StartMeans, StepMeans}
use Rattle.icecoppice.specs.declared.watches.StepNumbers.{StepNumbers}

-- no refusal has the number 0
pub start-means : StartMeans
start-means k len h = (by (start_refusal len h) refl, λ e. ap code (start_gives k len h e))
  where
    code : Answer Watch → ℕ
    code a = (start_numbers a).code

    by : (o : Option Refusal) → start_refusal len h ≡ o → code (starting k len h) ≡ 0 → start_refusal len h ≡ none
    by none is e = is
    by (some r) is e = absurd (omega (arith, eleven-le-number r, e, ap code ((start-refuses k len h r).1 is)))

abbrev code : Answer Bool → ℕ
code (gives opened) = 0
code (refuses r) = number r

same_code : (x : Answer Bool) (w : Watch) → ((step_numbers x w).code ≡ code x) × ((step_numbers x w).watch ≡ w)
same_code (gives opened) w = (refl, refl)
same_code (refuses r) w = (refl, refl)

module _ {w : Watch} {load : ℤ} {numbers : StepNumbers} (s : StepsInNumbers w load numbers) where
  abbrev step_answer : Answer Bool
  step_answer = s.stepped.answer

  code_is : numbers.code ≡ code step_answer
  code_is = ap (λ n. n.code) s.is ∙ (same_code step_answer _).0

  state-is : numbers.watch ≡ s.stepped.watch
  state-is = ap (λ n. n.watch) s.is ∙ (same_code step_answer _).1

  -- the code tells the refusal: a step is refused with 32 or 33, which carry no slot
  code→refuses : (q : Refusal) → slot q ≡ 0 → numbers.code ≡ number q → step_answer ≡ refuses q
  code→refuses q z e = by step_answer refl (sym code_is ∙ e)
    where
      by : (x : Answer Bool) → step_answer ≡ x → code x ≡ number q → step_answer ≡ refuses q
      by (gives opened) is e = absurd (omega (arith, eleven-le-number q, e))
      by (refuses r) is e =
          let slotless = ⊎_elim (ap slot) (ap slot) (s.kept.kept r is).0 in
          is ∙ ap refuses (number-slot-injective r q e (slotless ∙ sym z))

  kept : (numbers.code ≡ 0 → ⊥) → numbers.watch ≡ w
  kept n = by step_answer refl
    where
      by : (x : Answer Bool) → step_answer ≡ x → numbers.watch ≡ w
      by (gives opened) is = absurd (n (code_is ∙ ap code is))
      by (refuses r) is = state-is ∙ (s.kept.kept r is).1

  pub step-means : StepMeans w load numbers
  step-means =
      let steps = s.kept in
      record {
        unreached = (
          (λ e. steps.unreached.0 (code→refuses Unreached refl e)),
          λ n. code_is ∙ ap code (steps.unreached.1 n),
        );
        full = ((λ e. steps.full.0 (code→refuses Full refl e)), λ f. code_is ∙ ap code (steps.full.1 f));
        kept = kept;
        taken = λ threshold len h loads l few.
            let (leads, is) = steps.taken threshold len h loads l few in
            let opened-is = ap (λ n. n.opened) s.is ∙ ap (λ x. (step_numbers x s.stepped.watch).opened) is in
            (rw state-is leads, code_is ∙ ap code is, rw state-is opened-is);
      }
