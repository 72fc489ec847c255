-- How the next plan is found: it parts from the given marks at the last slot at which a larger mark still has a plan,
-- and from there on it is drawn. Private functions promise this; no public contract rests on it.
use Rattle.std.specs.Prelude.{ℕ, suc, ◌≤◌, ◌<◌, min, Bool, true, false, cond, not, ◌&&◌, List, [], ◌∷◌, ◌++◌, ◌≡◌, ltb, eqb, ℤ, length, take, get_or}
use Rattle.std.proofs.Math.Option.{none}
use Rattle.judge.specs.Judgment.{allowed}
use Rattle.rule.specs.ClassCodes.{decode_all}
use Rattle.rule.specs.Ranges.{ends_for}
use Rattle.settings.specs.Refusals.{refusal}
use Rattle.settings.specs.declared.Settings.{Settings}
use Rattle.requests.specs.Request.{paired}
use Rattle.requests.specs.Solution.{classes_of, completed}
use Rattle.paging.specs.Paging.{page_limit}

-- what is known of a request that passes its checks, and of the bytes that stand for its classes
pub record Ready (s : Settings) (lowest highest : List ℤ) (codes : List ℕ) : Type 0 where
  pub accepted : refusal (length lowest) false s ≡ none
  pub width : length highest ≡ length lowest
  pub short : length lowest ≤ page_limit
  pub classes : decode_all codes ≡ classes_of s.k lowest highest

-- whether marks are a plan: whether the judge allows them for the ends of the ranges on their sides
unfoldable pub is_plan : Settings → (lowest highest : List ℤ) → List ℕ → Bool
is_plan s los his ms = allowed s (ends_for (paired los his) ms) ms

-- marks are given, and are not a plan
unfoldable pub no_plan_given : Settings → (lowest highest : List ℤ) (given : List ℕ) → Bool
no_plan_given s los his given = not (eqb (length given) 0) && not (is_plan s los his given)

-- at slot j, mark m comes after what is given: a smaller mark, or none where the given marks have ended
unfoldable pub above : (given : List ℕ) (j m : ℕ) → Bool
above given j m = cond (ltb j (length given)) (ltb (get_or given j 0) m) true

-- marks that part from the given ones at slot j, with mark m
abbrev pub parted : (given : List ℕ) (j m : ℕ) → List ℕ
parted given j m = take j given ++ m ∷ []

-- the first plan that begins so, if there is one
abbrev pub parted_plan : Settings → (lowest highest : List ℤ) (given : List ℕ) (j m : ℕ) → List ℕ
parted_plan s los his given j m = completed s (classes_of s.k los his) (parted given j m)

-- whether a plan after the given marks parts from them so
unfoldable pub parts : Settings → (lowest highest : List ℤ) (given : List ℕ) (j m : ℕ) → Bool
parts s los his given j m = above given j m && is_plan s los his (parted_plan s los his given j m)

-- the slots at which a plan of n slots can part from given marks
abbrev pub partings : (n given : ℕ) → ℕ
partings n given = min (suc given) n

-- no plan parts at a slot from j on, where slots below `end` are tried
abbrev pub NonePartsFrom : (parts : ℕ → ℕ → Bool) (j end : ℕ) → Type 0
NonePartsFrom parts j end = (i m : ℕ) → j ≤ i → i < end → m < 4 → parts i m ≡ false

-- a plan parts with mark m, and none with a smaller one
pub record FirstParting (parts : ℕ → Bool) (m : ℕ) : Type 0 where
  pub mark : m < 4
  pub here : parts m ≡ true
  pub smaller : (k : ℕ) → k < m → parts k ≡ false

-- a plan parts at slot j with mark m, none with a smaller mark, and none later
pub record LastParting (parts : ℕ → ℕ → Bool) (end j m : ℕ) : Type 0 where
  pub there : j < end
  pub mark : m < 4
  pub here : parts j m ≡ true
  pub smaller : (k : ℕ) → k < m → parts j k ≡ false
  pub later : NonePartsFrom parts (suc j) end
