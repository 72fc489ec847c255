-- An answer is a refusal, with what it carries, or what was asked.
use Rattle.std.proofs.Math.Option.{Option, none, some}
use Rattle.std.specs.declared.result.Result.{Result}
use Rattle.refusals.specs.declared.Refusal.{Refusal}
pub use Rattle.std.specs.declared.result.Result.TheVariants.{Ok as gives, Err as refuses}

-- what an operation answers: what was asked, or a refusal
abbrev pub Answer : Type 0 → Type 0
Answer A = Result A Refusal

abbrev pub answer : {A : Type 0} → Option Refusal → A → Answer A
answer (some r) asked = refuses r
answer none asked = gives asked

-- which refusal an answer is, if any
abbrev pub refusal_of : {A : Type 0} → Answer A → Option Refusal
refusal_of (gives asked) = none
refusal_of (refuses r) = some r
