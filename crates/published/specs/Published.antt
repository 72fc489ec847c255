-- The published definitions, the rule on windows, and how both relate to legal marks. Documents 000 and 001 give the
-- four definitions, 002 the first of them again. X = [x₀, .., xₙ₋₁] stands for an instantiation: a list of loads.
use Rattle.std.specs.Prelude.{ℕ, suc, ◌+◌, ◌-◌, ◌≤◌, ◌<◌, true, cond, List, [], ◌∷◌, map, ◌⊎◌, ◌↔◌, ◌≡◌, eqb, ℤ, pos, length, get_or, take, drop, ◌<ℤ◌}
use Rattle.std.specs.Int.Signed.{le_z}
use Rattle.judge.specs.Judgment.{allowed}
use Rattle.rule.specs.Ranges.{Proper, LegalFor, class_of, allows}
use Rattle.rule.specs.Rule.{rest, legal, legal_by, shaped, windows, covered}
use Rattle.rule.specs.declared.Range.{Range}
use Rattle.rule.specs.declared.Shape.{Shape}
use Rattle.settings.specs.declared.Settings.{Settings}

-- a sequence of indices, s = [i, i + 1, .., j]
pub record Sequence : Type 0 where
  pub first : ℕ
  pub last : ℕ

-- l ∈ s
abbrev pub Holds : (l : ℕ) → Sequence → Type 0
Holds l s = (s.first ≤ l) × (l ≤ s.last)

-- |s| = j - i + 1
abbrev pub size : Sequence → ℕ
size s = suc s.last - s.first

-- P holds of each s in S; P holds of some s in S; the sum of f over all s in S
abbrev pub Each : (Sequence → Type 0) → List Sequence → Type 0
Each P [] = Unit
Each P (s ∷ S) = P s × Each P S

abbrev pub Some : (Sequence → Type 0) → List Sequence → Type 0
Some P [] = ⊥
Some P (s ∷ S) = P s ⊎ Some P S

abbrev pub sum : (Sequence → ℕ) → List Sequence → ℕ
sum f [] = 0
sum f (s ∷ S) = f s + sum f S

infix 4 ◌⊆◌
abbrev pub ◌⊆◌ : List Sequence → List Sequence → Type 0
S ⊆ T = Each (λ s. Some (λ t. t ≡ s) T) S

-- no index is in two sequences of S
abbrev pub Disjoint : List Sequence → Type 0
Disjoint [] = Unit
Disjoint (s ∷ S) = Each (λ t. (l : ℕ) → Holds l s → Holds l t → ⊥) S × Disjoint S

-- A set of disjoint sequences of indices with 0 ≤ i ≤ j < n, as a list in any order. Each sequence has an index that no
-- other in the list has, so that none is listed twice: the length of the list is the size of the set (proofs/Sets.antt,
-- `same_set`).
abbrev pub DisjointSequences : (n : ℕ) → List Sequence → Type 0
DisjointSequences n S = Each (λ s. (s.first ≤ s.last) × (s.last < n)) S × Disjoint S

-- xₗ
abbrev pub load : List ℤ → ℕ → ℤ
load X l = get_or X l (pos 0)

-- how many of the loads are at most k, and how many of those in s are: |{l ∈ s, xₗ ≤ k}|
unfoldable pub unders : ℤ → List ℤ → ℕ
unders k [] = 0
unders k (x ∷ xs) = cond (le_z x k) (suc (unders k xs)) (unders k xs)

abbrev pub bridges : ℤ → List ℤ → Sequence → ℕ
bridges k X s = unders k (take (size s) (drop s.first X))

-- The four definitions; S is the set that has to exist. Conditions are numbered as printed. The side conditions printed
-- before them are left out: 1 ≤ len ≤ |X|; 0 ≤ h < len - 1 (Definition 2), 0 < h < len - 1 (Definition 6); in 002 also
-- 0 ≤ k and 0 ≤ yc ≤ |X|.

-- Definition 1 of 000, 001 and 002; in 002 condition (3) is 1 ≤ |s| ≤ len, which is the same, as every s has 1 ≤ |s|
pub record Focus (X : List ℤ) (yc len : ℕ) (k : ℤ) (S : List Sequence) : Type 0 where
  pub set : DisjointSequences (length X) S
  pub c1 : length S ≤ yc
  pub c2 : (l : ℕ) → l < length X → (k <ℤ load X l) ↔ Some (Holds l) S
  pub c3 : Each (λ s. size s ≤ len) S

-- Definition 2
pub record SpringyFocus (X : List ℤ) (yc len h : ℕ) (k : ℤ) (S : List Sequence) : Type 0 where
  pub set : DisjointSequences (length X) S
  pub c1 : length S ≤ yc
  pub c2 : (l : ℕ) → l < length X → k <ℤ load X l → Some (Holds l) S
  pub c3 : Each (λ s. (size s ≤ len) × (k <ℤ load X s.first) × (k <ℤ load X s.last)) S
  pub c4 : Each (λ s. bridges k X s ≤ h) S

-- Definition 4
pub record WeightedFocus (X : List ℤ) (yc len : ℕ) (k : ℤ) (zc : ℕ) (S : List Sequence) : Type 0 where
  pub set : DisjointSequences (length X) S
  pub c1 : length S ≤ yc
  pub c2 : (l : ℕ) → l < length X → (k <ℤ load X l) ↔ Some (Holds l) S
  pub c3 : Each (λ s. size s ≤ len) S
  pub c4 : sum size S ≤ zc

-- Definition 6
pub record WeightedSpringyFocus (X : List ℤ) (yc len h : ℕ) (k : ℤ) (zc : ℕ) (S : List Sequence) : Type 0 where
  pub set : DisjointSequences (length X) S
  pub c1 : length S ≤ yc
  pub c2 : (l : ℕ) → l < length X → k <ℤ load X l → Some (Holds l) S
  pub c3 : Each (λ s. bridges k X s ≤ h) S
  pub c4 : Each (λ s. (size s ≤ len) × (k <ℤ load X s.first) × (k <ℤ load X s.last)) S
  pub c5 : sum size S ≤ zc

-- The rule on windows (document 01, "The rule, by source"). A window begins and ends with an over slot, has at most len
-- slots, and holds at most h under slots.
pub record Window (k : ℤ) (shape : Shape) (X : List ℤ) (s : Sequence) : Type 0 where
  pub begins : k <ℤ load X s.first
  pub ends : k <ℤ load X s.last
  pub slots : size s ≤ shape.len
  pub bridges_fit : bridges k X s ≤ shape.h

-- if the window s ends before t begins, at least settle slots lie between them (document 02, T-06)
abbrev pub Apart : (settle : ℕ) (s t : Sequence) → Type 0
Apart settle s t = s.last < t.first → s.last + settle < t.first

-- A window is a run of consecutive slots; windows share no slot; every over slot lies in a window; the number of
-- windows is at most the window count, and their summed length, bridges included, at most the covered count. Between
-- any two lie at least settle slots; where settle is 0, they may touch.
pub record Obeys (k : ℤ) (shape : Shape) (most_windows most_covered : ℕ) (X : List ℤ) (S : List Sequence) : Type 0 where
  pub set : DisjointSequences (length X) S
  pub cover : (l : ℕ) → l < length X → k <ℤ load X l → Some (Holds l) S
  pub kept : Each (Window k shape X) S
  pub settled : Each (λ s. Each (Apart shape.settle s) S) S
  pub number : length S ≤ most_windows
  pub summed : sum size S ≤ most_covered

-- the windows that the marks from slot l on draw: each is a mark 1 with the marks 2 and 3 right after it
unfoldable pub sequences_of : (l : ℕ) → List ℕ → List Sequence
sequences_of l [] = []
sequences_of l (m ∷ ms) =
    cond (eqb m 1) (record { first = l; last = l + length (rest ms) } ∷ sequences_of (suc l) ms) (sequences_of (suc l) ms)

-- The four definitions are corners of the rule at settle 0: with h = 0, with a covered maximum of n, with both, or with
-- neither. No side condition is needed: every k is allowed, and so is h = 0 with len = 1.
pub record Corners (X : List ℤ) (yc len h : ℕ) (k : ℤ) (zc : ℕ) (S : List Sequence) : Type 0 where
  pub focus : Focus X yc len k S ↔ Obeys k (shaped len 0) yc (length X) X S
  pub springy : SpringyFocus X yc len h k S ↔ Obeys k (shaped len h) yc (length X) X S
  pub weighted : WeightedFocus X yc len k zc S ↔ Obeys k (shaped len 0) yc zc X S
  pub weighted_springy : WeightedSpringyFocus X yc len h k zc S ↔ Obeys k (shaped len h) yc zc X S

-- What is proved (proofs/Theorems.antt). Here too no side condition is needed: a len of 0 allows no window.
pub record Theorems : Type 0 where
  pub corners : (X : List ℤ) (yc len h : ℕ) (k : ℤ) (zc : ℕ) (S : List Sequence) → Corners X yc len h k zc S
  -- legal marks draw windows that obey the rule: as many as marks 1, with as many slots in all as marks other than 0
  pub draws : (k : ℤ) (shape : Shape) (X : List ℤ) (ms : List ℕ) → legal k shape X ms ≡ true →
      Obeys k shape (windows ms) (covered ms) X (sequences_of 0 ms)
      × (length (sequences_of 0 ms) ≡ windows ms) × (sum size (sequences_of 0 ms) ≡ covered ms)
  -- windows that obey the rule are drawn by legal marks, which draw no other window and have the same counts
  pub drawn : (k : ℤ) (shape : Shape) (w c : ℕ) (X : List ℤ) (S : List Sequence) → Obeys k shape w c X S →
      (ms : List ℕ) × (legal k shape X ms ≡ true)
      × (sequences_of 0 ms ⊆ S) × (S ⊆ sequences_of 0 ms) × (windows ms ≡ length S) × (covered ms ≡ sum size S)
  -- windows within the maximums exist exactly when there are marks to which the judge says yes, if it refuses nothing
  pub exist : (s : Settings) (X : List ℤ) →
      ((S : List Sequence) × Obeys s.k s.shape s.windows.most s.covered.most X S)
      ↔ ((ms : List ℕ) × (allowed s X ms ≡ true))
  -- marks are legal for ranges exactly when they are legal for what each slot can be: under, over or both
  pub classes : (k : ℤ) (shape : Shape) (ranges : List Range) (ms : List ℕ) → Proper ranges →
      LegalFor k shape ranges ms ↔ (legal_by allows shape (map (class_of k) ranges) ms ≡ true)
