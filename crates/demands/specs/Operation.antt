-- What the page says of an operation: it meets its contract, and the contract asks nothing of its caller.
use Rattle.std.specs.Prelude.{◌≡◌}
use seplogic.Ra.Ura.{Ura}
use base.Logic.{SProp, emp}
use prog.Memory.{Memory}
use prog.Routine.{Routine}
use types.Logic.{Logic}
use contract.Lifetimes.{Lfts}
use contract.Monad.{Fun}
use denote.Signature.{Signature}
use denote.Triple.Entry.{Args}
use denote.Triple.Spec.{Spec}

-- a contract, for every model of the machine
abbrev pub Contract : Signature → Type 2
Contract S =
    (M : Type 1) (𝓤 : Ura M) (𝓛 : Logic 𝓤) (mem : Memory → SProp 𝓤) (run : Routine → Fun 𝓤) → Spec 𝓤 S

-- whatever is passed, there is a ghost value to call the operation with; and the contract has no `requires`, which is
-- to say that it requires `emp`
abbrev pub Total : (S : Signature) → Contract S → Type 2
Total S contract =
    (M : Type 1) (𝓤 : Ura M) (𝓛 : Logic 𝓤) (mem : Memory → SProp 𝓤) (run : Routine → Fun 𝓤) →
    (κs : Lfts S.lifetimes) (a : Args S κs) →
    let c = contract M 𝓤 𝓛 mem run κs a in c.ghost × ((g : c.ghost) → c.requires g ≡ emp 𝓤)

pub record Operation (statement : Type 1 → Type 2) (S : Signature) (contract : Contract S) : Type 2 where
  pub meets : {M : Type 1} → statement M
  pub total : Total S contract
