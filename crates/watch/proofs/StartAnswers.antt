-- Which answer a start gives, by the rows of refusals that it checks.
use Prim.Native.Nat.{ℕ}
use mathlib.Core.Logic.{◌↔◌}
use mathlib.Core.Option.{none, some}
use mathlib.Core.Path.{◌≡◌, refl, sym, ap, ◌∙◌}
use lib.IntN.{ℤ}
use Rattle.refusals.proofs.Answer.{answer-refuses}
use Rattle.refusals.specs.Answer.{Answer, refuses, gives, refusal_of}
use Rattle.refusals.specs.declared.Refusal.{Refusal}
use Rattle.watch.specs.Start.{starting}
use Rattle.watch.specs.States.{start_refusal, initial}

module _ (k : ℤ) (len h : ℕ) where
  -- a start is refused with the refusal that applies to its len and h, and in no other situation
  pub start-refuses : (r : Refusal) → (starting k len h ≡ refuses r) ↔ (start_refusal len h ≡ some r)
  unfolding starting
  start-refuses r = answer-refuses (start_refusal len h) (initial k len h) r

  pub start_gives : start_refusal len h ≡ none → starting k len h ≡ gives (initial k len h)
  unfolding starting
  start_gives e = rw e refl

  module _ {r : Answer Unit} (is : refusal_of r ≡ start_refusal len h) where
    pub start-refused : {q : Refusal} → r ≡ refuses q → refuses q ≡ starting k len h
    start-refused e = sym ((start-refuses _).1 (sym is ∙ ap refusal_of e))

    pub start-accepted : r ≡ gives tt → gives (initial k len h) ≡ starting k len h
    start-accepted e = sym (start_gives (sym is ∙ ap refusal_of e))
