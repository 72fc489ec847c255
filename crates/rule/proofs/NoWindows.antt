-- Marks that draw no window: a len of 0 allows no others, and where one shape allows them, every shape does.
use Prim.Native.Nat.{ℕ, suc}
use native.Mathlib.Omega.{arith}
use mathlib.Core.Bool.{Bool, true, false, cond, ◌&&◌}
use mathlib.Core.List.{List, [], ◌∷◌}
use mathlib.Core.Path.{◌≡◌, refl}
use lib.Dec.{eqb}
use Rattle.rule.proofs.LegalFrom.{Within, keeps→within, legal→parts, parts→legal}
use Rattle.facts.proofs.Tests.{and-true→both}
use Rattle.rule.specs.Rule.{count_if, keeps, each_window, legal_by, windows}
use Rattle.rule.specs.declared.Shape.{Shape}

no-window-fails : (p : List ℕ → Bool) (ms : List ℕ) → windows ms ≡ 0 → each_window p ms ≡ true
unfolding windows count_if each_window
no-window-fails p [] e = refl
no-window-fails p (m ∷ ms) e = by (eqb m 1) e (no-window-fails p ms)
  where
    by : (b : Bool) → cond b (suc (windows ms)) (windows ms) ≡ 0 → (windows ms ≡ 0 → each_window p ms ≡ true) →
        (cond b (p ms) true && each_window p ms) ≡ true
    by true e f = absurd (omega arith)
    by false e f = f e

kept-no-windows : (shape : Shape) (ms : List ℕ) → shape.len ≡ 0 → each_window (keeps shape) ms ≡ true → windows ms ≡ 0
unfolding windows count_if each_window
kept-no-windows shape [] none e = refl
kept-no-windows shape (m ∷ ms) none e =
    by (eqb m 1) (and-true→both _ (each_window (keeps shape) ms) e).0
    (kept-no-windows shape ms none (and-true→both (cond (eqb m 1) (keeps shape ms) true) _ e).1)
  where
    by : (b : Bool) → cond b (keeps shape ms) true ≡ true → windows ms ≡ 0 → cond b (suc (windows ms)) (windows ms) ≡ 0
    by true e f = let w : Within shape ms = keeps→within e in absurd (omega (arith, w.slots, none))
    by false e f = f

module _ {A : Type 0} (goes : A → ℕ → Bool) (xs : List A) (ms : List ℕ) where
  pub no-windows : (shape : Shape) → shape.len ≡ 0 → legal_by goes shape xs ms ≡ true → windows ms ≡ 0
  no-windows shape none e = kept-no-windows shape ms none (legal→parts goes shape xs ms e).2

  pub in-any-shape : (s t : Shape) → windows ms ≡ 0 → legal_by goes s xs ms ≡ true → legal_by goes t xs ms ≡ true
  in-any-shape s t none e =
      let (agree, order, _) = legal→parts goes s xs ms e in
      parts→legal goes t xs ms agree order (no-window-fails (keeps t) ms none)
