-- The order of plans (document 02, T-03): marks are compared slot by slot from slot 0, smaller mark first.
use Rattle.std.specs.Prelude.{ℕ, ◌<◌, List, [], ◌∷◌, ◌++◌, ◌⊎◌, ◌≡◌}

-- ms comes before ks: at the first slot where they differ it has the smaller mark, or has ended there
infix 4 ◌≺◌
pub data ◌≺◌ : (ms ks : List ℕ) → Type 0 where
  ended : {k : ℕ} {ks : List ℕ} → [] ≺ (k ∷ ks)
  smaller : {m k : ℕ} {ms ks : List ℕ} → m < k → (m ∷ ms) ≺ (k ∷ ks)
  level : {m : ℕ} {ms ks : List ℕ} → ms ≺ ks → (m ∷ ms) ≺ (m ∷ ks)

-- marks that begin with a front
abbrev pub Begins : (front ms : List ℕ) → Type 0
Begins front ms = (rest : List ℕ) × (ms ≡ front ++ rest)

-- the first of the marks that P holds of: all others come after it
pub record First (P : List ℕ → Type 0) (ms : List ℕ) : Type 0 where
  pub holds : P ms
  pub first : (ks : List ℕ) → P ks → (ms ≡ ks) ⊎ (ms ≺ ks)
