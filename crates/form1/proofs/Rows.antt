-- Which answer follows from the refusals of a file and from the last row of `refusal`.
use Prim.Native.Nat.{ℕ}
use mathlib.Core.Bool.{Bool, true, false}
use mathlib.Core.List.{List}
use mathlib.Core.Option.{Option, none, some}
use mathlib.Core.Path.{◌≡◌, refl}
use Rattle.refusals.specs.Answer.{refuses, gives, answer}
use Rattle.refusals.specs.Table.{row, first}
use Rattle.refusals.specs.declared.Refusal.{Refusal}
use Rattle.form1.specs.Form1.{file_refusal, refusal}

module _ {A : Type 0} (file : List ℕ) (asked : A) where
  pub refuses-early : (last : Option Refusal) {r : Refusal} → file_refusal file ≡ some r →
      answer (refusal last file) asked ≡ refuses r
  unfolding first
  refuses-early last e = rw e refl

  module _ (r : Refusal) {applies : Bool} (pass : file_refusal file ≡ none) where
    pub refuses-last : applies ≡ true → answer (refusal (row r applies) file) asked ≡ refuses r
    unfolding first row
    refuses-last e = rw (pass, e) refl

    pub gives-asked : applies ≡ false → answer (refusal (row r applies) file) asked ≡ gives asked
    unfolding first row
    gives-asked e = rw (pass, e) refl
