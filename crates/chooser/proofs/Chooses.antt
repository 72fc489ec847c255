-- What the chooser can hand back, by what the judge says of the two plans.
use Prim.Native.Nat.{ℕ, ◌+◌, ◌≤◌, ◌<◌}
use native.Mathlib.Omega.{arith}
use mathlib.Core.Bool.{Bool, true, false, cond}
use mathlib.Core.List.{List}
use mathlib.Core.Logic.{◌⊎◌, inl, inr}
use mathlib.Core.Path.{◌≡◌, refl, sym, ap, subst, ◌∙◌}
use denote.Ref.{Bor}
use lib.Dec.{ltb}
use lib.IntN.{ℤ}
use lib.ListN.{length}
use Rattle.refusals.specs.Answer.{refuses, gives}
use Rattle.settings.proofs.Accepted.{differs_false, accepted-iff}
use Rattle.settings.specs.declared.Settings.{Settings}
use Rattle.judge.proofs.Allowed.{yes→allowed}
use Rattle.judge.specs.Judgment.{Judgment, yes, no, judgment}
use Rattle.chooser.specs.Choice.{fewer, choice, EmptyPart, HandsBack, Chosen, Yes, No, Refuses, Chooses}
use Rattle.chooser.specs.declared.Choice.{Choice}
use Rattle.chooser.specs.declared.Choice.TheVariants.{First, Second}

-- of two plans that the judge says yes to, one is chosen
one_of : (w₁ c₁ w₂ c₂ : ℕ) → (fewer w₁ c₁ w₂ c₂ ≡ First) ⊎ (fewer w₁ c₁ w₂ c₂ ≡ Second)
unfolding fewer
one_of w₁ c₁ w₂ c₂ = by (ltb w₂ w₁) (ltb w₁ w₂) (ltb c₂ c₁)
  where
    by : (a b c : Bool) → let x = cond a Second (cond b First (cond c Second First)) in (x ≡ First) ⊎ (x ≡ Second)
    by true b c = inr refl
    by false true c = inl refl
    by false false true = inr refl
    by false false false = inl refl

abbrev code : Judgment → ℕ
code (gives no) = 0
code (gives (yes a)) = 1
code (refuses n) = 2

module _ (s : Settings) (loads : List ℤ) (a b r : Bor (List ℕ)) where
  abbrev Says : Bor (List ℕ) → Judgment → Type 0
  Says x j = judgment s loads x.now ≡ j

  abbrev Plan : Type 0
  Plan = ((r ≡ a) ⊎ (r ≡ b)) × Yes s loads r

  abbrev Cause : Type 0
  Cause = Refuses s loads a ⊎ (Refuses s loads b ⊎ (No s loads a × No s loads b))

  first : r ≡ a → Yes s loads a → Plan
  first e y = (inl e, subst (Yes s loads) (sym e) y)

  second : r ≡ b → Yes s loads b → Plan
  second e y = (inr e, subst (Yes s loads) (sym e) y)

  -- a plan that the judge says yes to has a slot
  not-empty : Plan → EmptyPart a r → ⊥
  not-empty (_, (w, c, y)) (_, e) =
      let pass = accepted-iff.0 (yes→allowed s loads r.now w c y).0 in
      absurd (omega (arith, pass.1.slots.0, (differs_false _ _).0 pass.0, ap length e))

  no-cause : (one two : Judgment) → Says a one → Says b two → code one < 2 → code two < 2 →
      1 ≤ code one + code two → Cause → ⊥
  no-cause one two i j f g bound (inl (n, e)) = absurd (omega (arith, f, ap code (sym i ∙ e)))
  no-cause one two i j f g bound (inr (inl (n, e))) = absurd (omega (arith, g, ap code (sym j ∙ e)))
  no-cause one two i j f g bound (inr (inr ((w, c, d), (v, u, e)))) =
      absurd (omega (arith, bound, ap code (sym i ∙ d), ap code (sym j ∙ e)))

  plan-chosen : Plan → (Cause → ⊥) → Chooses s loads a b r
  plan-chosen p none =
      record { one_or_empty = inl p; empty = ((λ e. absurd (not-empty p e)), λ cause. absurd (none cause)) }

  none-chosen : Cause → EmptyPart a r → Chooses s loads a b r
  none-chosen cause e = record { one_or_empty = inr e; empty = ((λ _. cause), λ _. e) }

  either : (x : Choice) → (x ≡ First) ⊎ (x ≡ Second) → Yes s loads a → Yes s loads b → HandsBack x a b r → Plan
  either x (inl is) y z e = first (subst (λ x. HandsBack x a b r) is e) y
  either x (inr is) y z e = second (subst (λ x. HandsBack x a b r) is e) z

  by : (one two : Judgment) → Says a one → Says b two → HandsBack (choice one two) a b r → Chooses s loads a b r
  by (gives (yes m)) (gives (yes n)) i j e =
      plan-chosen (either _ (one_of m.windows m.covered n.windows n.covered) (m.windows, m.covered, i) (n.windows, n.covered, j) e)
      (no-cause _ _ i j (omega arith) (omega arith) (omega arith))
  by (gives (yes m)) (gives no) i j e =
      plan-chosen (first e (m.windows, m.covered, i)) (no-cause _ _ i j (omega arith) (omega arith) (omega arith))
  by (gives no) (gives (yes n)) i j e =
      plan-chosen (second e (n.windows, n.covered, j)) (no-cause _ _ i j (omega arith) (omega arith) (omega arith))
  by (gives no) (gives no) i j e = none-chosen (inr (inr ((0, 0, i), (0, 0, j)))) e
  by (gives m) (refuses n) i j e = none-chosen (inr (inl (n, j))) e
  by (refuses n) two i j e = none-chosen (inl (n, i)) e

  pub chosen→chooses : Chosen s loads a b r → Chooses s loads a b r
  chosen→chooses = by _ _ refl refl
