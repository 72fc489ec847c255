-- Choices of loads in ranges: slot by slot, with one slot pinned to one load, and with one range replaced. The proofs
-- are by recursion on the slots.
use Prim.Native.Nat.{ℕ, zero, suc, ◌<◌, min}
use native.Mathlib.Omega.{arith}
use mathlib.Core.List.{List, [], ◌∷◌, map}
use mathlib.Core.Path.{◌≡◌, refl, sym, ap, ◌∙◌, subst}
use lib.IntN.{ℤ}
use lib.ListN.{length, get_or, set}
use lib.Signed.{◌≤ℤ◌, ≤ℤ_refl}
use Rattle.facts.proofs.Integers.{≤ℤ-trans, ≤ℤ-antisym}
use Rattle.std.proofs.lemmas.List.{map-set}
use Rattle.rule.specs.Ranges.{range, Proper, ChosenIn, Class, class_of}
use Rattle.rule.specs.declared.Range.{Range}
use Rattle.requests.specs.Request.{paired, at}

-- where the lists differ in length, the ranges end with the shorter
pub paired-min : (los his : List ℤ) → length (paired los his) ≡ min (length los) (length his)
paired-min [] his = omega arith
paired-min (lo ∷ los) [] = omega arith
paired-min (lo ∷ los) (hi ∷ his) = omega (arith, paired-min los his)

pub paired-length : (los his : List ℤ) → length los ≡ length his → length (paired los his) ≡ length los
paired-length los his e = omega (arith, e, paired-min los his)

-- what f gives for the range of slot i
pub paired_at : {A : Type 0} (f : Range → A) (d : A) (los his : List ℤ) (i : ℕ) → i < length los → i < length his →
    get_or (map f (paired los his)) i d ≡ f (range (at los i) (at his i))
paired_at f d [] his i p q = absurd (omega arith)
paired_at f d (lo ∷ los) [] i p q = absurd (omega arith)
paired_at f d (lo ∷ los) (hi ∷ his) zero p q = refl
paired_at f d (lo ∷ los) (hi ∷ his) (suc i) p q = paired_at f d los his i (omega arith) (omega arith)

pub paired-set : (los his : List ℤ) (i : ℕ) (lo hi : ℤ) →
    paired (set los i lo) (set his i hi) ≡ set (paired los his) i (range lo hi)
paired-set [] his i lo hi = refl
paired-set (l ∷ los) [] zero lo hi = refl
paired-set (l ∷ los) [] (suc i) lo hi = refl
paired-set (l ∷ los) (hi₀ ∷ his) zero lo hi = refl
paired-set (l ∷ los) (hi₀ ∷ his) (suc i) lo hi = ap (λ rs. range l hi₀ ∷ rs) (paired-set los his i lo hi)

abbrev pub Between : (los his xs : List ℤ) (i : ℕ) → Type 0
Between los his xs i = (at los i ≤ℤ at xs i) × (at xs i ≤ℤ at his i)

-- a choice of loads in ranges, slot by slot, and back
pub in-slots : (los his xs : List ℤ) (i : ℕ) → i < length los → i < length his → ChosenIn (paired los his) xs →
    Between los his xs i
in-slots [] his xs i p q c = absurd (omega arith)
in-slots (lo ∷ los) [] xs i p q c = absurd (omega arith)
in-slots (lo ∷ los) (hi ∷ his) [] i p q c = absurd c
in-slots (lo ∷ los) (hi ∷ his) (x ∷ xs) zero p q (l, u, c) = (l, u)
in-slots (lo ∷ los) (hi ∷ his) (x ∷ xs) (suc i) p q (l, u, c) = in-slots los his xs i (omega arith) (omega arith) c

pub from-slots : (xs los his : List ℤ) → length los ≡ length xs → length his ≡ length xs →
    ((i : ℕ) → i < length xs → Between los his xs i) → ChosenIn (paired los his) xs
from-slots [] [] his e f b = tt
from-slots [] (lo ∷ los) his e f b = absurd (omega arith)
from-slots (x ∷ xs) [] his e f b = absurd (omega arith)
from-slots (x ∷ xs) (lo ∷ los) [] e f b = absurd (omega arith)
from-slots (x ∷ xs) (lo ∷ los) (hi ∷ his) e f b =
    let (l, u) = b 0 (omega arith) in
    (l, u, from-slots xs los his (omega arith) (omega arith) (λ i p. b (suc i) (omega arith)))

-- from the ranges to those with slot i pinned to one load, and back
pub pin : (los his xs : List ℤ) (i : ℕ) → ChosenIn (paired los his) xs →
    ChosenIn (paired (set los i (at xs i)) (set his i (at xs i))) xs
pin [] his xs i c = c
pin (lo ∷ los) [] xs zero c = c
pin (lo ∷ los) [] xs (suc i) c = c
pin (lo ∷ los) (hi ∷ his) [] i c = absurd c
pin (lo ∷ los) (hi ∷ his) (x ∷ xs) zero (l, u, c) = (≤ℤ_refl x, ≤ℤ_refl x, c)
pin (lo ∷ los) (hi ∷ his) (x ∷ xs) (suc i) (l, u, c) = (l, u, pin los his xs i c)

pub unpin : (los his xs : List ℤ) (i : ℕ) (x : ℤ) → i < length los → i < length his → at los i ≤ℤ x → x ≤ℤ at his i →
    ChosenIn (paired (set los i x) (set his i x)) xs → ChosenIn (paired los his) xs × (i < length xs) × (at xs i ≡ x)
unpin [] his xs i x p q l u c = absurd (omega arith)
unpin (lo ∷ los) [] xs i x p q l u c = absurd (omega arith)
unpin (lo ∷ los) (hi ∷ his) [] zero x p q l u c = absurd c
unpin (lo ∷ los) (hi ∷ his) [] (suc i) x p q l u c = absurd c
unpin (lo ∷ los) (hi ∷ his) (y ∷ xs) zero x p q l u (m, v, c) =
    ((≤ℤ-trans l m, ≤ℤ-trans v u, c), omega arith, ≤ℤ-antisym v m)
unpin (lo ∷ los) (hi ∷ his) (y ∷ xs) (suc i) x p q l u (m, v, c) =
    let (d, s, e) = unpin los his xs i x (omega arith) (omega arith) l u c in
    ((m, v, d), omega arith, e)

-- where a proper range replaces one of the ranges, they stay proper, and its class replaces the class of that one
proper-set : (rs : List Range) (i : ℕ) (lo hi : ℤ) → lo ≤ℤ hi → Proper rs → Proper (set rs i (range lo hi))
proper-set [] i lo hi l c = c
proper-set (r ∷ rs) zero lo hi l (m, c) = (l, c)
proper-set (r ∷ rs) (suc i) lo hi l (m, c) = (m, proper-set rs i lo hi l c)

module _ (rs : List Range) (i : ℕ) (lo hi : ℤ) {rs' : List Range} (is : rs' ≡ set rs i (range lo hi)) where
  pub replaced-proper : lo ≤ℤ hi → Proper rs → Proper rs'
  replaced-proper l p = subst Proper (sym is) (proper-set rs i lo hi l p)

  pub replaced-class : (k : ℤ) {c : Class} → class_of k (range lo hi) ≡ c →
      map (class_of k) rs' ≡ set (map (class_of k) rs) i c
  replaced-class k e =
      ap (map (class_of k)) is ∙ map-set (class_of k) rs i (range lo hi) ∙ ap (set (map (class_of k) rs) i) e
