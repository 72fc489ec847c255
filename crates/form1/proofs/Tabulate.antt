-- `tabulate n f` has n entries and holds f i at place i; a slice is filled with it place by place.
use Prim.Native.Nat.{ℕ, zero, suc, ◌+◌, ◌<◌}
use native.Mathlib.Nat.{eq-or-lt_of_le, le_of_suc-le-suc}
use native.Mathlib.Numerals.{add-one}
use native.Mathlib.Omega.{arith}
use mathlib.Core.List.{List, [], ◌∷◌, ◌++◌}
use mathlib.Core.Logic.{⊎_elim}
use mathlib.Core.Path.{◌≡◌, refl, sym, ◌∙◌}
use lib.IntN.{ℤ, pos}
use lib.ListN.{length, drop, get_or, set, length-append, get_or-append}
use lib.Seq.{append_snoc, ext_get_or, get_or_at, set_at}
use Rattle.facts.proofs.Lists.{uncons}
use Rattle.form1.specs.Form1.{tabulate}

pub length-tabulate : {A : Type 0} (n : ℕ) (f : ℕ → A) → length (tabulate n f) ≡ n
unfolding tabulate
length-tabulate zero f = refl
length-tabulate (suc n) f = rw (length-append (tabulate n f) (f n ∷ []), length-tabulate n f) (omega arith)

pub tabulate-at : {A : Type 0} (n i : ℕ) (f : ℕ → A) (d : A) → i < n → get_or (tabulate n f) i d ≡ f i
unfolding tabulate
tabulate-at {A = A} zero i f d bound = elim bound [ ]
tabulate-at (suc n) i f d bound =
    ⊎_elim
    (λ e. rw e (get_or_at (tabulate n f) (f n) [] d n (length-tabulate n f)))
    (λ l. get_or-append (tabulate n f) (f n ∷ []) d i (rw (length-tabulate n f) l) ∙ tabulate-at n i f d l)
    (eq-or-lt_of_le (le_of_suc-le-suc bound))

-- a list of n entries, of which entry i is f i
pub tabulate-is : {A : Type 0} (n : ℕ) (f : ℕ → A) (d : A) (l : List A) → length l ≡ n →
    ((i : ℕ) → i < n → get_or l i d ≡ f i) → tabulate n f ≡ l
tabulate-is n f d l long same =
    ext_get_or d (tabulate n f) l (length-tabulate n f ∙ sym long) (λ i bound.
    let inside : i < n = rw (length-tabulate n f) at bound in tabulate-at n i f d inside ∙ sym (same i inside))

-- a slice whose first n places are filled
module _ (f : ℕ → ℤ) (places : List ℤ) where
  pub filled_at : (n i : ℕ) → i < n → get_or (tabulate n f ++ drop n places) i (pos 0) ≡ f i
  filled_at n i bound =
      get_or-append (tabulate n f) (drop n places) (pos 0) i (rw (length-tabulate n f) bound)
      ∙ tabulate-at n i f (pos 0) bound

  pub none_filled : places ≡ tabulate 0 f ++ drop 0 places
  unfolding tabulate
  none_filled = refl

  pub one-more-filled : (n : ℕ) → n < length places →
      set (tabulate n f ++ drop n places) n (f n) ≡ tabulate (n + 1) f ++ drop (n + 1) places
  unfolding tabulate
  one-more-filled n bound =
      rw (uncons places n (pos 0) bound, add-one)
      (set_at (tabulate n f) (get_or places n (pos 0)) (drop (suc n) places) (f n) n (length-tabulate n f)
      ∙ sym (append_snoc (tabulate n f) (f n) (drop (suc n) places)))
