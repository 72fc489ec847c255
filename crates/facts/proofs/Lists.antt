-- Facts about lists that the library lacks: one element taken off, read, mapped or written, and one list stored in
-- another.
use Prim.Native.Nat.{ℕ, zero, suc, ◌+◌, ◌-◌, ◌≤◌, ◌<◌, min}
use native.Mathlib.Nat.{zero-add, add-zero, eq-or-lt_of_le}
use native.Mathlib.Numerals.{add-one}
use native.Mathlib.Omega.{arith}
use mathlib.Core.Bool.{Bool, true, false}
use mathlib.Core.List.{List, [], ◌∷◌, ◌++◌, map, append-nil, reverse_aux, reverse, reverse-cons}
use mathlib.Core.Logic.{⊎_elim}
use mathlib.Core.Path.{◌≡◌, refl, sym, ap, ◌∙◌, subst}
use borrow.Author.Tests.{leb-true, leb-false}
use lib.Dec.{leb}
use lib.ListN.{length, take, drop, get_or, set, drop_of_length-le, length-reverse, get_or-append}
use lib.Seq.{take-suc, take-suc-set, drop-cons, get_or-set_same, get_or-set_other, get_or_at, set_out, sets, sets-eq}

pub uncons : {A : Type 0} (l : List A) (i : ℕ) (d : A) → i < length l → drop i l ≡ get_or l i d ∷ drop (i + 1) l
uncons l i d bound = rw add-one (drop-cons l i d bound)

pub no_length : {A : Type 0} (l : List A) → length l ≡ 0 → l ≡ []
no_length [] e = refl
no_length (x ∷ xs) e = absurd (omega arith)

-- what stands at a place of the list is the same whatever else would be given
pub get_or_any : {A : Type 0} (l : List A) (i : ℕ) (d e : A) → i < length l → get_or l i d ≡ get_or l i e
get_or_any [] i d e bound = absurd (omega arith)
get_or_any (x ∷ xs) zero d e bound = refl
get_or_any (x ∷ xs) (suc i) d e bound = get_or_any xs i d e (omega arith)

-- what holds of the places before i, and of the value written to place i, holds of the places before i + 1
pub written-before : {A : Type 0} (P : ℕ → A → Type 0) (l : List A) (i : ℕ) (v d : A) → i < length l →
    ((j : ℕ) → j < i → P j (get_or l j d)) → P i v → (j : ℕ) → j < i + 1 → P j (get_or (set l i v) j d)
written-before P l i v d e before here j b =
    let most : j ≤ i = omega arith in
    ⊎_elim
    (λ s. subst (λ j. P j (get_or (set l i v) j d)) (sym s) (subst (P i) (sym (get_or-set_same l i v d e)) here))
    (λ b. subst (P j) (sym (get_or-set_other l i j v d (omega (arith, b)))) (before j b))
    (eq-or-lt_of_le most)

-- a list that agrees with t before place i, and with what t has there written to place i, agrees with t before i + 1
pub take_set_next : {A : Type 0} (l t : List A) (i : ℕ) (v d : A) → i < length l → i < length t → take i l ≡ take i t →
    v ≡ get_or t i d → take (i + 1) (set l i v) ≡ take (i + 1) t
take_set_next l t i v d e f same here =
    rw add-one (take-suc-set l i v e ∙ rw (same, here) (sym (take-suc t i d f)))

-- what fits is at the front, and the rest of the list is as it was
pub sets-front : (t l : List ℕ) → length t ≤ length l → sets l 0 t ≡ t ++ drop (length t) l
sets-front t l fits = rw zero-add at (sets-eq t l 0 (omega arith))

pub sets-all : (t l : List ℕ) → length t ≡ length l → sets l 0 t ≡ t
sets-all t l same =
    let none : drop (length t) l ≡ [] = drop_of_length-le l {i = length t} (omega arith) in
    sets-front t l (omega arith) ∙ rw none (append-nil t)

-- nothing is stored past the end
pub sets-past-end : (t l : List ℕ) (i : ℕ) → length l ≤ i → sets l i t ≡ l
sets-past-end [] l i bound = refl
sets-past-end (a ∷ t) l i bound = rw (set_out l i a bound) (sets-past-end t l (suc i) (omega arith))

-- nothing is stored where none is left, or no place
pub sets-full : (t l : List ℕ) (i : ℕ) → min (length l) (i + length t) ≤ i → sets l i t ≡ l
sets-full [] l i full = refl
sets-full (a ∷ t) l i full = sets-past-end (a ∷ t) l i (omega arith)

pub sets-clipped : (t l : List ℕ) (i : ℕ) → sets l (min i (length l)) t ≡ sets l i t
sets-clipped t l i = by (leb i (length l)) refl
  where
    by : (b : Bool) → leb i (length l) ≡ b → sets l (min i (length l)) t ≡ sets l i t
    by true e = ap (λ place. sets l place t) (omega (arith, leb-true i (length l) e))
    by false e =
        let past : length l < i = leb-false i (length l) e in
        sets-past-end t l (min i (length l)) (omega arith) ∙ sym (sets-past-end t l i (omega arith))

pub sets-append : (s t l : List ℕ) (i : ℕ) → sets (sets l i s) (i + length s) t ≡ sets l i (s ++ t)
sets-append [] t l i = rw add-zero
sets-append (a ∷ s) t l i =
    ap (λ place. sets (sets (set l i a) (suc i) s) place t) (omega arith) ∙ sets-append s t (set l i a) (suc i)

-- a list from its last element to its first, place by place
pub reverse-at : {A : Type 0} (l : List A) (i : ℕ) (d : A) → i < length l →
    get_or (reverse l) i d ≡ get_or l (length l - (i + 1)) d
reverse-at [] i d e = absurd (omega arith)
reverse-at (x ∷ l) i d e =
    let most : i ≤ length l = omega arith in
    ap (λ r. get_or r i d) (reverse-cons x l) ∙ ⊎_elim last (λ b. earlier b (reverse-at l i d b)) (eq-or-lt_of_le most)
  where
    last : i ≡ length l → get_or (reverse l ++ (x ∷ [])) i d ≡ get_or (x ∷ l) (suc (length l) - (i + 1)) d
    last s =
        let first : suc (length l) - (i + 1) ≡ 0 = omega arith in
        rw first (get_or_at (reverse l) x [] d i (omega (arith, s, length-reverse l)))

    earlier : i < length l → get_or (reverse l) i d ≡ get_or l (length l - (i + 1)) d →
        get_or (reverse l ++ (x ∷ [])) i d ≡ get_or (x ∷ l) (suc (length l) - (i + 1)) d
    earlier b is =
        let later : suc (length l) - (i + 1) ≡ suc (length l - (i + 1)) = omega arith in
        rw later (get_or-append (reverse l) (x ∷ []) d i (omega (arith, b, length-reverse l)) ∙ is)

pub map-reverse : {A B : Type 0} (f : A → B) (l : List A) → map f (reverse l) ≡ reverse (map f l)
map-reverse {A} f l = onto l []
  where
    onto : (l r : List A) → map f (reverse_aux l r) ≡ reverse_aux (map f l) (map f r)
    onto [] r = refl
    onto (x ∷ l) r = onto l (x ∷ r)
