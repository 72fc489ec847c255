-- What is known of a file to which none of the refusals 11 to 16 applies.
use Prim.Native.Nat.{ℕ, ◌+◌, ◌*◌, ◌≤◌}
use mathlib.Core.Bool.{Bool, false}
use mathlib.Core.List.{List}
use mathlib.Core.Option.{none}
use mathlib.Core.Path.{◌≡◌, refl, sym, ◌∙◌}
use borrow.Author.Tests.{ltb-false, le-ltb, eqb-true, not-false}
use lib.ListN.{length}
use Rattle.facts.proofs.Tests.{or-false→both, one-to-most}
use Rattle.refusals.proofs.Table.{rows, first-none-row}
use Rattle.form1.specs.Form1.{wrong_size, wrong_end, wrong_form, wrong_slots, wrong_distance, records_missing}
use Rattle.form1.specs.Form1.{number_at, trailer, form, slots, distance, file_refusal}

pub record WholeFile (file : List ℕ) : Type 0 where
  pub long : 16 ≤ length file
  pub ends : (number_at 1 (trailer file + 14) file ≡ 84) × (number_at 1 (trailer file + 15) file ≡ 67)
  pub first_form : form file ≡ 1
  pub some_slots : (1 ≤ slots file) × (slots file ≤ 64)
  pub back : distance file ≡ 8 * slots file
  pub there : 16 + 8 * slots file ≤ length file

-- b is the test of refusal 11
pub long-enough : (file : List ℕ) (b : Bool) → b ≡ wrong_size file → b ≡ false → 16 ≤ length file
unfolding wrong_size
long-enough file b is e = ltb-false _ _ (or-false→both _ _ (sym is ∙ e)).0

pub sized : (file : List ℕ) → 16 ≤ length file → length file ≤ 4096 → false ≡ wrong_size file
unfolding wrong_size
sized file long short = rw (le-ltb (length file) 16 long, le-ltb 4096 (length file) short) refl

-- the rows of refusals 12 to 16, where that of 11 is passed
pub ruleset tests = (rows, sized)

pub pass→whole : (file : List ℕ) → file_refusal file ≡ none → WholeFile file
unfolding file_refusal wrong_end wrong_form wrong_slots wrong_distance records_missing
pass→whole file e =
    let (size, e) = first-none-row _ _ _ e in
    let (end, e) = first-none-row _ _ _ e in
    let (form, e) = first-none-row _ _ _ e in
    let (n, e) = first-none-row _ _ _ e in
    let (back, e) = first-none-row _ _ _ e in
    let (records, e) = first-none-row _ _ _ e in
    record {
      long = long-enough file _ refl size;
      ends =
          let (one, other) = or-false→both _ _ end in
          (eqb-true _ _ (not-false _ one), eqb-true _ _ (not-false _ other));
      first_form = eqb-true _ _ (not-false _ form);
      some_slots = (one-to-most (slots file) 64).0 n;
      back = eqb-true _ _ (not-false _ back);
      there = ltb-false _ _ records;
    }
