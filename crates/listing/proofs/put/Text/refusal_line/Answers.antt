-- `listing::put::Text::refusal_line` meets its contract: a line of two fields, or of four for 31 (`Fields`).
use Prim.Native.Nat.{ℕ}
use native.Mathlib.Omega.{arith}
use mathlib.Core.List.{[], ◌∷◌}
use mathlib.Core.Path.{◌≡◌, refl, sym, ◌∙◌}
use borrow.Author.Tests.{ne_eqb}
use Rattle.refusals.proofs.Injective.{number-slot-injective}
use Rattle.refusals.specs.Numbers.{number, slot}
use Rattle.refusals.specs.declared.Refusal.{Refusal}
use Rattle.refusals.specs.declared.Refusal.TheVariants.{Crossed}
use Rattle.listing.proofs.Fields.{fields}
use Rattle.listing.proofs.Lengths.{refusal_line-short, crossed_line-short}
use Rattle.listing.proofs.Numerals.{decimal-printed}
use Rattle.listing.specs.Text.{ascii, decimal, line, refusal_line}
use Rattle.listing.proofs.put.Text.refusal_line.Goals as goal

module _ (r : Refusal) {code : ℕ} where
  of_number : code ≡ number r → ((i : ℕ) → r ≡ Crossed i → ⊥) → refusal_line r ≡ line (ascii "refused" ∷ decimal code ∷ [])
  unfolding refusal_line
  of_number is other =
      let not-31 : (code ≡ 31 → ⊥) = λ e. other (slot r) (number-slot-injective r (Crossed (slot r)) (sym is ∙ e) refl) in
      rw (← is, ne_eqb code 31 not-31)

  of-slot : {i : ℕ} → r ≡ Crossed i → code ≡ 31 →
      refusal_line r ≡ line (ascii "refused" ∷ decimal code ∷ ascii "slot" ∷ decimal i ∷ [])
  unfolding refusal_line
  of-slot e is = rw (e, is) refl

pub returns-in-Crossed : goal.returns-in-Crossed
returns-in-Crossed c =
    rw (of-slot c.args.refusal c.in-Crossed.is c.number.ensures)
    (record {
      written = rw (decimal-printed c.number.result (omega arith), decimal-printed c.in-Crossed.slot (omega arith)) (search fields);
      short = crossed_line-short _ _ (omega arith) (omega arith);
    })

pub returns-in_default : goal.returns-in_default
returns-in_default c =
    rw (of_number c.args.refusal c.number-in_default.ensures c.in_default.not-Crossed)
    (record {
      written = rw (decimal-printed c.number-in_default.result (omega arith)) (search fields);
      short = refusal_line-short _ (omega arith);
    })
