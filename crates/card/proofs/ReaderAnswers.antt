-- With which refusals the reader and the look-up refuse, and what the reader hands back with each answer.
use Prim.Native.Nat.{ℕ, ◌≤◌}
use mathlib.Core.List.{List, ◌++◌}
use mathlib.Core.Logic.{◌↔◌}
use mathlib.Core.Option.{none, some}
use mathlib.Core.Path.{◌≡◌, refl, sym, ap}
use borrow.Author.Tests.{le-ltb}
use lib.IntN.{ℤ}
use lib.ListN.{length, drop}
use Rattle.refusals.proofs.Answer.{answer-refuses, answer-gives}
use Rattle.refusals.proofs.Table.{first-none-check}
use Rattle.refusals.specs.Answer.{refuses, gives}
use Rattle.refusals.specs.Table.{row}
use Rattle.refusals.specs.declared.Refusal.{Refusal}
use Rattle.refusals.specs.declared.Refusal.TheVariants.{Lent, Slot}
use Rattle.form1.proofs.Rows.{gives-asked}
use Rattle.form1.specs.Form1.{slots, settings, range_of, tabulate, file_refusal, refusal}
use Rattle.card.specs.Reading.{Header, lent_too_short, read_answer, reading}
use Rattle.card.specs.LookUp.{no_slot, looking}

-- each refuses with the first refusal that applies, and in no other situation
pub reader-refuses : (file : List ℕ) (los his : List ℤ) (r : Refusal) →
    ((reading file los his).answer ≡ refuses r) ↔ (refusal (row Lent (lent_too_short los his file)) file ≡ some r)
unfolding reading read_answer
reader-refuses file los his r = answer-refuses (refusal (row Lent (lent_too_short los his file)) file) _ r

pub look-up-refuses : (slot : ℕ) (file : List ℕ) (r : Refusal) →
    (looking slot file ≡ refuses r) ↔ (refusal (row Slot (no_slot slot file)) file ≡ some r)
unfolding looking
look-up-refuses slot file r = answer-refuses (refusal (row Slot (no_slot slot file)) file) _ r

module _ (file : List ℕ) (los his : List ℤ) where
  -- a file that passes 11 to 16 is taken where both slices have room for its slots
  pub takes : file_refusal file ≡ none → slots file ≤ length los → slots file ≤ length his →
      read_answer los his file ≡ gives (record { settings = settings file; n = slots file })
  unfolding read_answer lent_too_short
  takes pass low high =
      gives-asked file _ Lent pass
      (rw (le-ltb (length los) (slots file) low, le-ltb (length his) (slots file) high) refl)

  -- a file that is taken passes 11 to 16, and what is handed back is what its trailer says
  pub taken : {header : Header} → read_answer los his file ≡ gives header →
      (file_refusal file ≡ none) × (slots file ≡ header.n) × (settings file ≡ header.settings)
  unfolding read_answer
  taken e =
      let (pass, is) = answer-gives (refusal (row Lent (lent_too_short los his file)) file) _ e in
      ((first-none-check _ _ pass).0, ap (λ t. t.n) (sym is), ap (λ t. t.settings) (sym is))

  pub nothing-altered : {r : Refusal} → read_answer los his file ≡ refuses r →
      record { answer = refuses r; lowest = los; highest = his } ≡ reading file los his
  unfolding reading
  nothing-altered e = rw e refl

  pub refused-unaltered : (r : Refusal) → (reading file los his).answer ≡ refuses r →
      ((reading file los his).lowest ≡ los) × ((reading file los his).highest ≡ his)
  unfolding reading
  refused-unaltered r e = rw e (refl, refl)

  pub records-put : (header : Header) {los' his' : List ℤ} → read_answer los his file ≡ gives header →
      los' ≡ tabulate header.n (λ slot. (range_of slot file).lowest) ++ drop header.n los →
      his' ≡ tabulate header.n (λ slot. (range_of slot file).highest) ++ drop header.n his →
      record { answer = gives header; lowest = los'; highest = his' } ≡ reading file los his
  unfolding reading
  records-put header e low high = rw (e, low, high) refl
