-- What the reader gives for a file (document 01, "Form 1, on the card").
use Rattle.std.specs.Prelude.{ℕ, Bool, ◌||◌, List, ◌++◌, ltb, ℤ, length, drop}
use Rattle.refusals.specs.Answer.{Answer, refuses, gives, answer}
use Rattle.refusals.specs.Table.{row}
use Rattle.refusals.specs.declared.Refusal.TheVariants.{Lent}
use Rattle.form1.specs.Form1.{slots, settings, range_of, tabulate, refusal}
-- what the reader hands back besides the loads: settings and n
pub use Rattle.card.specs.declared.Header.{Header}

-- 17: a lent load slice is shorter than n
unfoldable pub lent_too_short : (lowest highest : List ℤ) → List ℕ → Bool
lent_too_short los his file = ltb (length los) (slots file) || ltb (length his) (slots file)

-- all that comes back: the answer, and what both load slices hold then
pub record ReaderOutcome : Type 0 where
  pub answer : Answer Header
  pub lowest : List ℤ
  pub highest : List ℤ

abbrev pub outcome_of : Answer Header → (lowest highest : List ℤ) → ReaderOutcome
outcome_of r los his = record { answer = r; lowest = los; highest = his }

-- the first n places hold the loads of the records, and no later place is altered; on a refusal no place is altered
abbrev pub filled : Answer Header → (ℕ → ℤ) → List ℤ → List ℤ
filled (refuses r) f places = places
filled (gives header) f places = tabulate header.n f ++ drop header.n places

-- only the refusals of the file place are checked, not those of the settings
unfoldable pub read_answer : (lowest highest : List ℤ) → List ℕ → Answer Header
read_answer los his file =
    answer
    (refusal (row Lent (lent_too_short los his file)) file)
    (record { settings = settings file; n = slots file })

unfoldable pub reading : List ℕ → (lowest highest : List ℤ) → ReaderOutcome
reading file los his =
    record {
      answer = read_answer los his file;
      lowest = filled (read_answer los his file) (λ slot. (range_of slot file).lowest) los;
      highest = filled (read_answer los his file) (λ slot. (range_of slot file).highest) his;
    }
