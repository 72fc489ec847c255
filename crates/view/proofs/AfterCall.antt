-- What the walks of the three functions have in common: how a walk continues after a call.
use mathlib.Core.List.{List, [], ◌∷◌}
use mathlib.Core.Path.{◌≡◌, subst}
use mir.Val.{Val}
use seplogic.Ra.Ura.{Ura}
use base.Logic.{SProp, ent, id⊢}
use types.Logic.{Logic}
use contract.Monad.{fact}
use types.Kit.{Item, ‵, raw, ◌⊛◌, some, later, ◌$◌, Goal, Soaks, Seq, move, drop, use1, split, pick, await}
use denote.Signature.{type_at}
use denote.Steps.{heard}
use denote.Triple.Clauses.{Clauses, Ended, Lasts, AtExit, at_exit, lasts, closing}
use denote.Triple.Entry.{Res, alive}
use denote.Triple.Spec.{triple_of}

module _ {M : Type 1} {𝓤 : Ura M} {𝓛 : Logic 𝓤} {K : Type 0} {Γ : List (Item 𝓤)}
    {G : Goal 𝓤 𝓛.H} where
  -- The walk then has the result r and the tokens, and knows what the callee's `ensures` says of r. What is said of
  -- last values is dropped: the callees have no `&mut`.
  pub answers :
      K → (T : Ended) (c : Clauses 𝓤 T) (y : (triple_of 𝓛 T.signature (closing 𝓛 T c)).Ghost) (u : Val) →
      (φ : Res T.signature y.0.0 → Type 0) →
      ((r : Res T.signature y.0.0) (e : AtExit T y.0.0) →
      (c y.0.0 y.0.3).ensures y.1 r e ≡ fact 𝓤 (φ r)) →
      Soaks G →
      ((r : Res T.signature y.0.0) → φ r →
      Seq K 𝓛
      (‵ ((type_at T.signature.result y.0.0).own_val r (u ∷ []))
      ∷ raw (alive 𝓛 T.signature y.0.0 y.0.1) ∷ Γ) G) →
      Seq K 𝓛 (raw ((triple_of 𝓛 T.signature (closing 𝓛 T c)).post y u) ∷ Γ) G
  answers t T c y u φ says soaks next =
      let κs = y.0.0 in
      let a = y.0.3 in
      let ensures : Res T.signature κs → Lasts T κs a →
      SProp 𝓤 = λ r ws. (c κs a).ensures y.1 r (at_exit T κs a ws) in
      use1 𝓛 (later (some (λ (r : Res T.signature κs).
      (raw (alive 𝓛 T.signature κs y.0.1) ⊛ ‵ ((type_at T.signature.result κs).own_val r (u ∷ []))) ⊛
      some (λ (ws : Lasts T κs a). ‵ (lasts T κs a ws) ⊛ raw (ensures r ws))))) (id⊢ 𝓤 _) $
      await t soaks $ pick t (λ r. split t $ move t (1 ∷ []) $ pick t (λ ws. split t $ drop t $
      use1 𝓛 (raw (fact 𝓤 (φ r))) (subst (ent 𝓤 (ensures r ws)) (says r (at_exit T κs a ws)) (id⊢ 𝓤 _)) $
      heard t (φ r) (λ e. split t $ move t (1 ∷ []) $ next r e)))
