-- Lists of sequences as sets: membership, and sums that depend on the members only.
use Prim.Native.Nat.{ℕ, ◌+◌, ◌≤◌, ◌<◌}
use native.Mathlib.Nat.{le_antisymm}
use native.Mathlib.Omega.{arith}
use mathlib.Core.List.{List, [], ◌∷◌}
use mathlib.Core.Logic.{inl, inr}
use mathlib.Core.Path.{◌≡◌, refl, subst}
use lib.ListN.{length}
use Rattle.published.specs.Published.{Sequence, Holds, size, Each, Some, sum, ◌⊆◌, Disjoint, DisjointSequences}

-- the two conditions of `DisjointSequences`, by name
abbrev pub Within : ℕ → Sequence → Type 0
Within n s = (s.first ≤ s.last) × (s.last < n)

abbrev pub DisjointPair : Sequence → Sequence → Type 0
DisjointPair s t = (l : ℕ) → Holds l s → Holds l t → ⊥

infix 4 ◌∈◌
pub data ◌∈◌ (s : Sequence) : List Sequence → Type 0 where
  here : {S : List Sequence} → s ∈ (s ∷ S)
  there : {t : Sequence} {S : List Sequence} → s ∈ S → s ∈ (t ∷ S)

pub each : (P : Sequence → Type 0) {s : Sequence} {S : List Sequence} → Each P S → s ∈ S → P s
each P e here = e.0
each P e (there m) = each P e.1 m

pub all : (P : Sequence → Type 0) (S : List Sequence) → ((s : Sequence) → s ∈ S → P s) → Each P S
all P [] f = tt
all P (s ∷ S) f = (f s here, all P S (λ t m. f t (there m)))

pub each_to : (P Q : Sequence → Type 0) → ((s : Sequence) → P s → Q s) → (S : List Sequence) → Each P S → Each Q S
each_to P Q f S e = all Q S (λ s m. f s (each P e m))

pub each-of-none : (P : Sequence → Type 0) (S : List Sequence) → length S ≡ 0 → Each P S
each-of-none P [] e = tt
each-of-none P (s ∷ S) e = absurd (omega arith)

pub some : (P : Sequence → Type 0) {s : Sequence} {S : List Sequence} → s ∈ S → P s → Some P S
some P here p = inl p
some P (there m) p = inr (some P m p)

pub which : (P : Sequence → Type 0) (S : List Sequence) → Some P S → (s : Sequence) × (s ∈ S) × P s
which P (s ∷ S) (inl p) = (s, here, p)
which P (s ∷ S) (inr q) = let (t, m, p) = which P S q in (t, there m, p)
which P [] e = absurd e

among : {s : Sequence} {S : List Sequence} → Some (λ t. t ≡ s) S → s ∈ S
among {s} {S} e = let (t, m, p) = which (λ t. t ≡ s) S e in subst (λ t. t ∈ S) p m

subset : {s : Sequence} {S T : List Sequence} → S ⊆ T → s ∈ S → s ∈ T
subset {T = T} e m = among (each (λ s. Some (λ t. t ≡ s) T) e m)

pub into : {s : Sequence} {S T : List Sequence} → s ∈ S → ((t : Sequence) → t ∈ T → t ∈ S) → (t : Sequence) →
    t ∈ (s ∷ T) → t ∈ S
into m f t here = m
into m f t (there q) = f t q

-- two members that share an index are the same
pub share→same : {s t : Sequence} {S : List Sequence} (l : ℕ) → Disjoint S → s ∈ S → t ∈ S →
    Holds l s → Holds l t → s ≡ t
share→same l d here here hs ht = refl
share→same l d here (there m) hs ht = absurd (each (DisjointPair _) d.0 m l hs ht)
share→same l d (there m) here hs ht = absurd (each (DisjointPair _) d.0 m l ht hs)
share→same l d (there m) (there m') hs ht = share→same l d.1 m m' hs ht

-- T is S without its member s
data Without (s : Sequence) : List Sequence → List Sequence → Type 0 where
  now : {S : List Sequence} → Without s (s ∷ S) S
  later : {t : Sequence} {S T : List Sequence} → Without s S T → Without s (t ∷ S) (t ∷ T)

without : {s : Sequence} {S : List Sequence} → s ∈ S → (T : List Sequence) × Without s S T
without (here {S}) = (S, now)
without (there {t} m) = let (T, l) = without m in (t ∷ T, later l)

without-sum : (f : Sequence → ℕ) {s : Sequence} {S T : List Sequence} → Without s S T → sum f S ≡ f s + sum f T
without-sum f now = refl
without-sum f (later l) = omega (arith, without-sum f l)

-- every other member of S is left in T
left : {s t : Sequence} {S T : List Sequence} → Without s S T → t ∈ S → (s ≡ t → ⊥) → t ∈ T
left now here n = absurd (n refl)
left now (there m) n = m
left (later l) here n = here
left (later l) (there m) n = there (left l m n)

-- a sequence holds its first index, so that it is not disjoint from itself
disjoint-differ : {n : ℕ} {s t : Sequence} → Within n s → DisjointPair s t → s ≡ t → ⊥
disjoint-differ {s = s} w a e = a s.first (omega arith) (subst (λ t. Holds s.first t) e (omega arith))

-- a subset has no larger sum
sum-le : (f : Sequence → ℕ) (n : ℕ) (S T : List Sequence) → DisjointSequences n S →
    ((s : Sequence) → s ∈ S → s ∈ T) → sum f S ≤ sum f T
sum-le f n [] T q i = omega arith
sum-le f n (s ∷ S) T q i =
    let (T', l) = without (i s here) in
    let other : (t : Sequence) → t ∈ S → t ∈ T' =
    λ t m. left l (i t (there m)) (disjoint-differ q.0.0 (each (DisjointPair s) q.1.0 m)) in
    omega (arith, without-sum f l, sum-le f n S T' (q.0.1, q.1.1) other)

length-sum : (S : List Sequence) → length S ≡ sum (λ s. 1) S
length-sum [] = refl
length-sum (s ∷ S) = omega (arith, length-sum S)

-- a subset has no more members
pub length-le : (n : ℕ) (S T : List Sequence) → DisjointSequences n S → ((s : Sequence) → s ∈ S → s ∈ T) →
    length S ≤ length T
length-le n S T q i = omega (arith, length-sum S, length-sum T, sum-le (λ s. 1) n S T q i)

-- two lists of the same set have the same length and the same summed size
pub same_set : (n : ℕ) (S T : List Sequence) → DisjointSequences n S → DisjointSequences n T → S ⊆ T → T ⊆ S →
    (length S ≡ length T) × (sum size S ≡ sum size T)
same_set n S T p q i j = (
  le_antisymm (length-le n S T p (λ s m. subset i m)) (length-le n T S q (λ s m. subset j m)),
  le_antisymm (sum-le size n S T p (λ s m. subset i m)) (sum-le size n T S q (λ s m. subset j m)),
)
