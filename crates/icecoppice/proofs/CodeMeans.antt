-- What a caller can tell from the code of what the reader, the look-up and the writer give.
use Prim.Native.Nat.{ℕ}
use mathlib.Core.Path.{◌≡◌, ap, ◌∙◌}
use Rattle.refusals.proofs.Injective.{eleven-le-number}
use Rattle.refusals.specs.Answer.{Answer, refuses, gives}
use Rattle.refusals.specs.Numbers.{number}
use Rattle.refusals.specs.declared.Refusal.{Refusal}
use Rattle.icecoppice.specs.FileNumbers.{CodeMeans}

pub code-means : {A : Type 0} (code : Answer A → ℕ) → ((x : A) → code (gives x) ≡ 0) →
    ((r : Refusal) → code (refuses r) ≡ number r) → (a : Answer A) → CodeMeans a (code a)
code-means code given refused a =
    record {
      given = λ x e. ap code e ∙ given x;
      refused = λ r e. let is = ap code e ∙ refused r in (is, rw is (eleven-le-number r));
    }
