-- What a look-up by slot number gives (document 01, "Form 1, on the card").
use Rattle.std.specs.Prelude.{ℕ, ◌<◌, Bool, List, ◌≡◌, leb, ℤ, pos, get_or}
use Rattle.rule.specs.Ranges.{range}
use Rattle.rule.specs.declared.Range.{Range}
use Rattle.refusals.specs.Answer.{Answer, gives, answer}
use Rattle.refusals.specs.Table.{row}
use Rattle.refusals.specs.declared.Refusal.TheVariants.{Slot}
use Rattle.form1.specs.Form1.{slots, range_of, refusal}
use Rattle.card.specs.Reading.{Header, reading}

-- 19: the slot number is not below n
unfoldable pub no_slot : (slot : ℕ) → List ℕ → Bool
no_slot slot file = leb (slots file) slot

-- what a look-up gives; it depends on nothing but the bytes and the slot number
unfoldable pub looking : (slot : ℕ) → List ℕ → Answer Range
looking slot file = answer (refusal (row Slot (no_slot slot file)) file) (range_of slot file)

-- For every file that the reader takes, the look-up at slot i gives what the reader puts at place i
-- (proofs/LookUpAgrees.antt).
abbrev pub LookUpAgrees : Type 0
LookUpAgrees =
    (file : List ℕ) (los his : List ℤ) (i : ℕ) (header : Header) →
    (reading file los his).answer ≡ gives header → i < header.n →
    let o = reading file los his in
    looking i file ≡ gives (range (get_or o.lowest i (pos 0)) (get_or o.highest i (pos 0)))
