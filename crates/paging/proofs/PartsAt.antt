-- The slot at which marks part from given ones that they come after.
use Prim.Native.Nat.{ℕ, zero, suc, ◌≤◌, ◌<◌}
use native.Mathlib.Omega.{arith}
use mathlib.Core.Bool.{Bool, true, false, cond}
use mathlib.Core.List.{List, [], ◌∷◌, ◌++◌, append_assoc}
use mathlib.Core.Logic.{◌↔◌}
use mathlib.Core.Path.{◌≡◌, refl, sym, ap, ◌∙◌}
use borrow.Author.Tests.{ltb-true, ltb-false, lt-ltb}
use lib.Dec.{ltb}
use lib.ListN.{length, take, drop, get_or}
use lib.Seq.{split_at}
use Rattle.rule.specs.Order.{◌≺◌, ended, smaller, level, Begins}
use Rattle.paging.specs.Parting.{above, parted}

-- mark m is larger than the given one at slot j, if there is one
abbrev pub Above : (given : List ℕ) (j m : ℕ) → Type 0
Above given j m = j < length given → get_or given j 0 < m

pub above-iff : (given : List ℕ) (j m : ℕ) → (above given j m ≡ true) ↔ Above given j m
unfolding above
above-iff given j m = by (ltb j (length given)) refl
  where
    by : (b : Bool) → ltb j (length given) ≡ b → (cond b (ltb (get_or given j 0) m) true ≡ true) ↔ Above given j m
    by true e = ((λ larger _. ltb-true _ _ larger), λ larger. lt-ltb _ _ (larger (ltb-true _ _ e)))
    by false e =
        let past : length given ≤ j = ltb-false _ _ e in
        ((λ _ there. absurd (omega arith)), λ _. refl)

-- marks agree with given ones before slot j, and have a larger mark there
pub record PartsAt (given ks : List ℕ) (j : ℕ) : Type 0 where
  pub within : j ≤ length given
  pub there : j < length ks
  pub same : take j ks ≡ take j given
  pub larger : Above given j (get_or ks j 0)

pub parting-of : {given ks : List ℕ} → given ≺ ks → (j : ℕ) × PartsAt given ks j
parting-of ended =
    (0, record { within = omega arith; there = omega arith; same = refl; larger = λ there. absurd (omega arith) })
parting-of (smaller e) = (0, record { within = omega arith; there = omega arith; same = refl; larger = λ _. e })
parting-of (level {m = m} l) =
    let (j, p) = parting-of l in (
      suc j,
      record {
        within = omega (arith, p.within);
        there = omega (arith, p.there);
        same = ap (λ ms. m ∷ ms) p.same;
        larger = λ there. p.larger (omega arith);
      },
    )

pub parts-begins : {given ks : List ℕ} (j : ℕ) → PartsAt given ks j → Begins (parted given j (get_or ks j 0)) ks
parts-begins {given} {ks} j p = (
  drop (suc j) ks,
  split_at ks j 0 p.there ∙ ap (λ front. front ++ get_or ks j 0 ∷ drop (suc j) ks) p.same
      ∙ sym (append_assoc (take j given) (get_or ks j 0 ∷ []) (drop (suc j) ks)),
)

-- marks that part from given ones with a larger mark come after them
pub parted-later : (given : List ℕ) (j m : ℕ) (rest : List ℕ) → j ≤ length given → Above given j m →
    given ≺ (take j given ++ m ∷ rest)
parted-later [] zero m rest within larger = ended
parted-later [] (suc j) m rest within larger = absurd (omega arith)
parted-later (g ∷ given) zero m rest within larger = smaller (larger (omega arith))
parted-later (g ∷ given) (suc j) m rest within larger =
    level (parted-later given j m rest (omega arith) (λ there. larger (omega arith)))

-- of two that part from given marks, the one that parts later, or with a smaller mark, comes first
pub parted-before : (given : List ℕ) (i j m k : ℕ) (rest other : List ℕ) → i < j → j ≤ length given →
    Above given i k → (take j given ++ m ∷ rest) ≺ (take i given ++ k ∷ other)
parted-before [] i j m k rest other e within larger = absurd (omega arith)
parted-before (g ∷ given) zero zero m k rest other e within larger = absurd (omega arith)
parted-before (g ∷ given) zero (suc j) m k rest other e within larger = smaller (larger (omega arith))
parted-before (g ∷ given) (suc i) zero m k rest other e within larger = absurd (omega arith)
parted-before (g ∷ given) (suc i) (suc j) m k rest other e within larger =
    level (parted-before given i j m k rest other (omega arith) (omega arith) (λ there. larger (omega arith)))

pub smaller_before : (front : List ℕ) (m k : ℕ) (rest other : List ℕ) → m < k →
    (front ++ m ∷ rest) ≺ (front ++ k ∷ other)
smaller_before [] m k rest other e = smaller e
smaller_before (f ∷ front) m k rest other e = level (smaller_before front m k rest other e)
