-- What was read decides what is printed.
use Prim.Native.Nat.{ℕ, ◌≤◌}
use mathlib.Core.List.{List, []}
use mathlib.Core.Path.{◌≡◌, refl, sym, subst, ap, ◌∙◌}
use lib.IntN.{ℤ}
use lib.ListN.{take}
use Rattle.card.proofs.LookUpAgrees.{few-slots}
use Rattle.card.specs.Reading.{outcome_of, reading}
use Rattle.card.specs.declared.Header.{Header}
use Rattle.refusals.specs.Answer.{Answer, refuses, gives}
use Rattle.refusals.specs.declared.Refusal.{Refusal}
use Rattle.settings.specs.Refusals.{limit}
use Rattle.requests.specs.Promise.{Outcome, Keeps}
use Rattle.requests.specs.Request.{request_of}
use Rattle.printer.specs.Printed.{OfReading, OfFile}

-- the outcome of a refusal; its lists are empty, since none of them is printed
abbrev pub refusal-of : Refusal → Outcome
refusal-of f = record { answer = refuses f; lowest = []; highest = []; marks = [] }

-- a file that is taken has few slots
pub few : (file : List ℕ) (los his : List ℤ) {los' his' : List ℤ} {header : Header} →
    outcome_of (gives header) los' his' ≡ reading file los his → header.n ≤ limit
few file los his read = few-slots _ _ _ (sym (ap (λ o. o.answer) read))

module _ (file : List ℕ) (los his : List ℤ) (ms : List ℕ) {r : Answer Header} {los' his' : List ℤ}
    (read : outcome_of r los' his' ≡ reading file los his) where
  by : {q : Answer Header} → r ≡ q → (o : Outcome) → OfReading q los' his' ms o → OfFile file los his ms o
  by e o a =
      subst (λ x. OfReading x.answer x.lowest x.highest ms o)
      (ap (λ p. outcome_of p los' his') (sym e) ∙ read) a

  pub of-refusal : {f : Refusal} → r ≡ refuses f → OfFile file los his ms (refusal-of f)
  of-refusal e = by e _ refl

  pub of-plan : {header : Header} → r ≡ gives header → (o : Outcome) →
      Keeps (request_of header.settings (take header.n los') (take header.n his') (take header.n ms)) o →
      OfFile file los his ms o
  of-plan e o keeps = by e o keeps
