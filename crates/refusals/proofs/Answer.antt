-- What an answer is, depending on the refusal that is given, if any.
use mathlib.Core.Logic.{◌↔◌}
use mathlib.Core.Option.{Option, none, some, some-ne-none, some-injective}
use mathlib.Core.Path.{◌≡◌, refl, sym, ap}
use Rattle.std.specs.Result.{IsErrAnd}
use Rattle.refusals.specs.Answer.{Answer, refuses, gives, answer, refusal_of}
use Rattle.refusals.specs.declared.Refusal.{Refusal}

abbrev given? : {A : Type 0} → Answer A → Option A
given? (refuses r) = none
given? (gives a) = some a

-- an answer refuses with the refusal that is given, and in no other situation
pub answer-refuses : {A : Type 0} (o : Option Refusal) (asked : A) (r : Refusal) →
    (answer o asked ≡ refuses r) ↔ (o ≡ some r)
answer-refuses o asked r = ((λ e. to o (ap refusal_of e)), λ e. rw e refl)
  where
    to : (o : Option Refusal) → refusal_of (answer o asked) ≡ some r → o ≡ some r
    to none e = e
    to (some q) e = e

-- an answer that gives something gives what was asked, and there is no refusal
pub answer-gives : {A : Type 0} (o : Option Refusal) (asked : A) {a : A} → answer o asked ≡ gives a →
    (o ≡ none) × (a ≡ asked)
answer-gives none asked e = (refl, sym (some-injective _ _ (ap given? e)))
answer-gives (some r) asked e = absurd (some-ne-none _ (sym (ap given? e)))

pub refuses-injective : {A : Type 0} {q r : Refusal} → ◌≡◌ {A = Answer A} (refuses q) (refuses r) → q ≡ r
refuses-injective e = some-injective _ _ (ap refusal_of e)

-- `?` hands a refusal up as it is
pub handed-up : {A : Type 0} (a : Answer A) (r : Refusal) → IsErrAnd a (λ e. e ≡ r) → a ≡ refuses r
handed-up (refuses q) r e = ap refuses e
handed-up (gives a) r e = elim e [ ]
