-- Marks that are legal in a shape are legal in a looser one.
use Prim.Native.Nat.{ℕ, zero, suc, ◌≤◌}
use native.Mathlib.Nat.{le_of_suc-le-suc}
use native.Mathlib.Omega.{arith}
use mathlib.Core.Bool.{Bool, true, false, cond}
use mathlib.Core.List.{List, [], ◌∷◌}
use mathlib.Core.Path.{◌≡◌, refl}
use lib.Dec.{eqb}
use Rattle.rule.proofs.LegalFrom.{Within, keeps→within, within→keeps, legal→parts, parts→legal}
use Rattle.facts.proofs.Tests.{and-true→both}
use Rattle.rule.specs.Rule.{beyond, clear, keeps, each_window, legal_by, LooserShape}
use Rattle.rule.specs.declared.Shape.{Shape}

-- fewer uncovered slots are owed
clear-mono : (s q : ℕ) (ms : List ℕ) → s ≤ q → clear q ms ≡ true → clear s ms ≡ true
unfolding clear
clear-mono zero q ms e c = refl
clear-mono (suc s) zero ms e c = absurd (omega arith)
clear-mono (suc s) (suc q) [] e c = refl
clear-mono (suc s) (suc q) (m ∷ ms) e c =
    let (zero-mark, more) = and-true→both (eqb m 0) _ c in
    rw zero-mark (clear-mono s q ms (le_of_suc-le-suc e) more)

module _ {l t : Shape} (looser : LooserShape l t) where
  keeps-mono : (ms : List ℕ) → keeps t ms ≡ true → keeps l ms ≡ true
  keeps-mono ms e =
      let w : Within t ms = keeps→within e in
      within→keeps (record {
        slots = omega (arith, w.slots, looser.len);
        bridges_fit = omega (arith, w.bridges_fit, looser.h);
        settled = clear-mono l.settle t.settle (beyond ms) looser.settle w.settled;
      })

  each_window-mono : (ms : List ℕ) → each_window (keeps t) ms ≡ true → each_window (keeps l) ms ≡ true
  unfolding each_window
  each_window-mono [] e = refl
  each_window-mono (m ∷ ms) e =
      let (one, rest) = and-true→both (cond (eqb m 1) (keeps t ms) true) (each_window (keeps t) ms) e in
      rw (by (eqb m 1) one) (each_window-mono ms rest)
    where
      by : (b : Bool) → cond b (keeps t ms) true ≡ true → cond b (keeps l ms) true ≡ true
      by true e = keeps-mono ms e
      by false e = refl

  pub legal_by-mono : {A : Type 0} (goes : A → ℕ → Bool) (xs : List A) (ms : List ℕ) →
      legal_by goes t xs ms ≡ true → legal_by goes l xs ms ≡ true
  legal_by-mono goes xs ms e =
      let (agree, order, kept) = legal→parts goes t xs ms e in
      parts→legal goes l xs ms agree order (each_window-mono ms kept)
