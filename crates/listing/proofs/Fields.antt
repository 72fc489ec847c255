-- Texts put one after another, and a line field by field: each is written with the byte that ends it.
use Prim.Native.Nat.{ℕ, ◌≤◌}
use native.Mathlib.Omega.{arith}
use mathlib.Core.List.{List, [], ◌∷◌, ◌++◌}
use mathlib.Core.Path.{refl, ◌∙◌}
use lib.ListN.{length}
use lib.Seq.{append_snoc}
use Rattle.buffer.proofs.Written.{written-append, written-length, written-nil}
use Rattle.listing.specs.Adds.{Adds}
use Rattle.listing.specs.Text.{line}
use Rattle.listing.specs.declared.put.Text.{Text}

pub adds-nil : {now : Text} → now.place ≤ length now.out.now → Adds [] now now
adds-nil bound = record { same = refl; written = written-nil bound }

module _ {s : List ℕ} {first now : Text} where
  pub adds-inside : Adds s first now → now.place ≤ length now.out.now
  adds-inside v = omega (arith, v.written.ends, written-length v.written)

  pub adds-append : {t : List ℕ} {last : Text} → Adds s first now → Adds t now last → Adds (s ++ t) first last
  adds-append v w = record { same = w.same ∙ v.same; written = written-append v.written w.written }

module _ (field : List ℕ) {first now : Text} where
  pub line-last : Adds (field ++ (10 ∷ [])) first now → Adds (line (field ∷ [])) first now
  unfolding line
  line-last v = v

  pub line-more : (next : List ℕ) (fields : List (List ℕ)) {last : Text} → Adds (field ++ (32 ∷ [])) first now →
      Adds (line (next ∷ fields)) now last → Adds (line (field ∷ next ∷ fields)) first last
  unfolding line
  line-more next fields v w = rw append_snoc at (adds-append v w)

pub ruleset fields = (line-last, line-more)
