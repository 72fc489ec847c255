-- What the answer of `open` says about a file, and where the record of a slot is.
use Prim.Native.Nat.{ℕ, ◌+◌, ◌-◌, ◌*◌, ◌≤◌}
use mathlib.Core.List.{List}
use mathlib.Core.Option.{none, some}
use mathlib.Core.Path.{◌≡◌, refl, sym, ◌∙◌}
use borrow.Author.Tests.{le-leb}
use lib.ListN.{length}
use Rattle.refusals.proofs.Answer.{answer-refuses, answer-gives}
use Rattle.refusals.specs.Answer.{Answer, refuses, gives}
use Rattle.refusals.specs.declared.Refusal.{Refusal}
use Rattle.form1.specs.Form1.{trailer, distance, range_of, file_refusal}
use Rattle.form1.specs.Opening.{contents, opening, range_at}
use Rattle.form1.specs.declared.Contents.{Contents}

module _ (file : List ℕ) {r : Answer Contents} (is : r ≡ opening file) where
  pub rows-refuse : {f : Refusal} → r ≡ refuses f → file_refusal file ≡ some f
  unfolding opening
  rows-refuse e = (answer-refuses (file_refusal file) (contents file) _).0 (sym is ∙ e)

  pub rows_pass : {c : Contents} → r ≡ gives c → (file_refusal file ≡ none) × (c ≡ contents file)
  unfolding opening
  rows_pass e = answer-gives (file_refusal file) (contents file) (sym is ∙ e)

-- the record of a slot stands after those of the slots before it
pub slot_at : (file : List ℕ) (slot place : ℕ) → place ≡ trailer file - distance file + 8 * slot →
    place + 8 ≤ length file →
    range_at place file ≡ range_of slot file
unfolding range_at range_of
slot_at file slot place e bound = rw (le-leb (place + 8) (length file) bound, e) refl
