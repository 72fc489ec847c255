-- What the chooser hands back (document 01, "Chooser"). It goes by what the judge says of each plan.
use Rattle.std.specs.Prelude.{ℕ, ◌≡◌, true, false, cond, List, [], ◌↔◌, ◌⊎◌, ltb, ℤ}
use Rattle.std.specs.Borrow.{Bor}
use Rattle.chooser.specs.declared.Choice.{Choice}
use Rattle.chooser.specs.declared.Choice.TheVariants.{First, Second, Neither}
use Rattle.refusals.specs.Answer.{refuses, gives}
use Rattle.refusals.specs.declared.Refusal.{Refusal}
use Rattle.settings.specs.declared.Settings.{Settings}
use Rattle.judge.specs.Judgment.{YesOrNo, yes, no, says, Judgment, judgment}

-- fewer windows, then fewer covered slots, then the first
unfoldable pub fewer : (w₁ c₁ w₂ c₂ : ℕ) → Choice
fewer w₁ c₁ w₂ c₂ = cond (ltb w₂ w₁) Second (cond (ltb w₁ w₂) First (cond (ltb c₂ c₁) Second First))

-- one that the judge says yes to beats one that it says no to; where it says yes to neither, or refuses
-- one, neither is chosen
abbrev better : (one two : YesOrNo) → Choice
better (yes a) (yes b) = fewer a.windows a.covered b.windows b.covered
better (yes a) no = First
better no (yes b) = Second
better no no = Neither

abbrev pub choice : (one two : Judgment) → Choice
choice (gives one) (gives two) = better one two
choice (gives one) (refuses r) = Neither
choice (refuses r) two = Neither

-- r is the empty part at the start of a
abbrev pub EmptyPart : (a r : Bor (List ℕ)) → Type 0
EmptyPart a r = (r.ref_ptr ≡ a.ref_ptr) × (r.now ≡ [])

-- r is the chosen one of the lent slices a and b, as that very slice, with its pointer, ghost name and contents; or it
-- is the empty part, where neither is chosen
abbrev pub HandsBack : Choice → (a b r : Bor (List ℕ)) → Type 0
HandsBack First a b r = r ≡ a
HandsBack Second a b r = r ≡ b
HandsBack Neither a b r = EmptyPart a r

abbrev pub Chosen : Settings → List ℤ → (a b r : Bor (List ℕ)) → Type 0
Chosen s loads a b r = HandsBack (choice (judgment s loads a.now) (judgment s loads b.now)) a b r

-- what the judge says of a lent plan
abbrev pub Yes : Settings → List ℤ → Bor (List ℕ) → Type 0
Yes s loads a = (w : ℕ) × (c : ℕ) × (judgment s loads a.now ≡ gives (says true w c))

abbrev pub No : Settings → List ℤ → Bor (List ℕ) → Type 0
No s loads a = (w : ℕ) × (c : ℕ) × (judgment s loads a.now ≡ gives (says false w c))

abbrev pub Refuses : Settings → List ℤ → Bor (List ℕ) → Type 0
Refuses s loads a = (q : Refusal) × (judgment s loads a.now ≡ refuses q)

-- What the slice handed back can be (proofs/Chooses.antt).
pub record Chooses (s : Settings) (loads : List ℤ) (a b r : Bor (List ℕ)) : Type 0 where
  -- one of the two plans, to which the judge says yes, or the empty part
  pub one_or_empty : (((r ≡ a) ⊎ (r ≡ b)) × Yes s loads r) ⊎ EmptyPart a r
  -- the empty part exactly where the judge refuses one of the two, or says no to both
  pub empty : EmptyPart a r ↔ (Refuses s loads a ⊎ (Refuses s loads b ⊎ (No s loads a × No s loads b)))
