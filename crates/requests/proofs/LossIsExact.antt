-- A slot loses exactly the loads of its range that are not left to the request.
use Prim.Native.Nat.{ℕ, zero, suc, ◌<◌}
use native.Mathlib.Omega.{arith}
use mathlib.Core.Bool.{Bool, true, false, cond, true≢false}
use mathlib.Core.List.{List, [], ◌∷◌, map}
use mathlib.Core.Logic.{◌↔◌, ⊎_elim}
use mathlib.Core.Path.{◌≡◌, refl, sym, ap, ◌∙◌, subst}
use lib.IntN.{ℤ, suc_ℤ}
use lib.ListN.{length, get_or, set}
use lib.Seq.{set-get_or}
use lib.Signed.{lt_z, ◌<ℤ◌, ◌≤ℤ◌}
use Rattle.facts.proofs.Integers.{lt-or-le, ≤ℤ-trans, lt→suc-le, suc-le→lt, le→lt-suc, lt→le}
use Rattle.facts.proofs.Tests.{T→true, false_of_not}
use Rattle.rule.proofs.Sides.{over→lt, lt→over, under→le, le→under, over-mono}
use Rattle.rule.specs.Ranges.{range, Class, under_only, over_only, either, class_of}
use Rattle.rule.specs.declared.Range.{Range}
use Rattle.rule.specs.Rule.{over}
use Rattle.settings.specs.declared.Settings.{Settings}
use Rattle.requests.proofs.ChosenIn.{paired_at}
use Rattle.requests.proofs.Formed.{Formed, one_side, chosen-slots, possible→fits, fits→plan, left→possible}
use Rattle.requests.proofs.Formed.{possible→left}
use Rattle.requests.specs.Promise.{Loss, nothing, under_part, over_part, lowest_after, highest_after}
use Rattle.requests.specs.Request.{Request, slots, at, paired, PlanOf, LeftAt}
use Rattle.requests.specs.Solution.{classes, possible, loss_of, loss, map_indexed}

pub map_indexed-length : (f : ℕ → ℤ → ℤ) (xs : List ℤ) → length (map_indexed f xs) ≡ length xs
map_indexed-length f [] = refl
map_indexed-length f (x ∷ xs) = ap suc (map_indexed-length (λ i. f (suc i)) xs)

pub map_indexed-at : (f : ℕ → ℤ → ℤ) (xs : List ℤ) (i : ℕ) → i < length xs → at (map_indexed f xs) i ≡ f i (at xs i)
map_indexed-at f [] i bound = absurd (omega arith)
map_indexed-at f (x ∷ xs) zero bound = refl
map_indexed-at f (x ∷ xs) (suc i) bound = map_indexed-at (λ i. f (suc i)) xs i (omega arith)

pub class-at : (k : ℤ) (los his : List ℤ) (i : ℕ) → i < length los → i < length his →
    get_or (map (class_of k) (paired los his)) i under_only ≡ class_of k (range (at los i) (at his i))
class-at k = paired_at (class_of k) under_only

-- what the class of a range says of its ends
abbrev pub Ends : ℤ → Range → Class → Type 0
Ends k r under_only = r.highest ≤ℤ k
Ends k r over_only = k <ℤ r.lowest
Ends k r either = (r.lowest ≤ℤ k) × (k <ℤ r.highest)

pub ends : (k : ℤ) (r : Range) → Ends k r (class_of k r)
unfolding class_of
ends k r = by (over k r.lowest) (over k r.highest) refl refl
  where
    by : (o u : Bool) → over k r.lowest ≡ o → over k r.highest ≡ u →
        Ends k r (cond o over_only (cond u either under_only))
    by true u p q = over→lt p
    by false true p q = (under→le p, over→lt q)
    by false false p q = under→le q

module _ (r : Request) (good : Formed r) where
  abbrev s : Settings
  s = r.settings

  abbrev cs : List Class
  cs = classes r

  -- the loads that a plan is legal for are left
  pub stays : {ms : List ℕ} (p : PlanOf r ms) (i : ℕ) → i < slots r → LeftAt r i (at p.in_rule.0 i)
  stays p i bound =
      let (xs, c, legal) = p.in_rule in
      record {
        loads = xs;
        marks = _;
        chosen = c;
        plan = p;
        in_rule = legal;
        there = omega (arith, bound, chosen-slots r good xs c);
        occurs = refl;
      }

  -- for one slot
  module _ (i : ℕ) (there : i < slots r) where
    abbrev pub lo : ℤ
    lo = at r.lowest i

    abbrev pub hi : ℤ
    hi = at r.highest i

    -- whether a plan exists with the slot on one side only: over (true) or under (false)
    abbrev on-side : Bool → Bool
    on-side b = possible s (set cs i (one_side b))

    left : {x : ℤ} → lo ≤ℤ x → x ≤ℤ hi → on-side (over s.k x) ≡ true → LeftAt r i x
    left {x} l u e = possible→left r good i x there l u e

    abbrev pub Exact : Loss → Type 0
    Exact l = (x : ℤ) → ((lowest_after s.k l lo ≤ℤ x) × (x ≤ℤ highest_after s.k l hi)) ↔ LeftAt r i x

    -- nothing is lost if each load of the range is on a side with a plan
    whole : ((x : ℤ) → lo ≤ℤ x → x ≤ℤ hi → on-side (over s.k x) ≡ true) → Exact nothing
    whole f x = ((λ (l, u). left l u (f x l u)), (λ e. let (t, l, u, p) = left→possible r good i x e in (l, u)))

    -- no load is left on a side without a plan
    none-left-on-side : (b : Bool) → on-side b ≡ false → (x : ℤ) → LeftAt r i x → (over s.k x ≡ b → ⊥)
    none-left-on-side b n x e q = let (t, l, u, p) = left→possible r good i x e in true≢false (sym p ∙ ap on-side q ∙ n)

    only_under : on-side false ≡ true → on-side true ≡ false → s.k <ℤ hi → Exact over_part
    only_under u o bound x = rw (T→true (lt_z s.k hi) bound.lt) (to, from)
      where
        to : (lo ≤ℤ x) × (x ≤ℤ s.k) → LeftAt r i x
        to (l, m) = left l (≤ℤ-trans m (lt→le bound)) (ap on-side (le→under m) ∙ u)

        from : LeftAt r i x → (lo ≤ℤ x) × (x ≤ℤ s.k)
        from e = ((left→possible r good i x e).1, under→le (false_of_not _ (none-left-on-side true o x e)))

    only-over : on-side false ≡ false → on-side true ≡ true → lo ≤ℤ s.k → Exact under_part
    only-over u o l x = rw (T→true (lt_z lo (suc_ℤ s.k)) (le→lt-suc l).lt) (to, from)
      where
        to : (suc_ℤ s.k ≤ℤ x) × (x ≤ℤ hi) → LeftAt r i x
        to (m, bound) =
            let k<x = suc-le→lt s.k m in
            left (≤ℤ-trans l (lt→le k<x)) bound (ap on-side (lt→over k<x) ∙ o)

        from : LeftAt r i x → (suc_ℤ s.k ≤ℤ x) × (x ≤ℤ hi)
        from e = (
          ⊎_elim (λ m. lt→suc-le m) (λ m. absurd (none-left-on-side false u x e (le→under m))) (lt-or-le s.k x),
          (left→possible r good i x e).2,
        )

    -- if there is a plan, some load is left at the slot
    some_left : possible s cs ≡ true → (x : ℤ) × LeftAt r i x
    some_left e =
        let (ms, f) = possible→fits r good cs e in
        let p = fits→plan r good f in
        (at p.in_rule.0 i, stays p i there)

    pub loss-exact : possible s cs ≡ true → Exact (loss s cs i)
    unfolding loss
    loss-exact e =
        by (get_or cs i under_only) refl (subst (Ends s.k (range lo hi)) (sym class) (ends s.k (range lo hi)))
      where
        class : get_or cs i under_only ≡ class_of s.k (range lo hi)
        class = class-at s.k r.lowest r.highest i there (omega (arith, there, good.width))

        -- a slot that can be on one side only has a plan on that side
        settled : (b : Bool) → get_or cs i under_only ≡ one_side b → on-side b ≡ true
        settled b q = ap (λ c. possible s (set cs i c)) (sym q) ∙ ap (possible s) (set-get_or cs i under_only) ∙ e

        either_side : on-side false ≡ true → on-side true ≡ true → (b : Bool) → on-side b ≡ true
        either_side p q true = q
        either_side p q false = p

        -- if no plan exists with the slot under, the plan that exists has it over
        other : on-side false ≡ false → on-side true ≡ true
        other p =
            let (x, m) = some_left e in
            let (t, l, u, q) = left→possible r good i x m in
            ⊎_elim (λ k<x. sym (ap on-side (lt→over k<x)) ∙ q)
            (λ x≤k. absurd (none-left-on-side false p x m (le→under x≤k)))
            (lt-or-le s.k x)

        opened : (u o : Bool) → on-side false ≡ u → on-side true ≡ o → (lo ≤ℤ s.k) × (s.k <ℤ hi) →
            Exact (cond u (cond o nothing over_part) under_part)
        opened true true p q (l, bound) = whole (λ x m u. either_side p q (over s.k x))
        opened true false p q (l, bound) = only_under p q bound
        opened false o p q (l, bound) = only-over p (other p) l

        by : (c : Class) → get_or cs i under_only ≡ c → Ends s.k (range lo hi) c → Exact (loss_of s cs i c)
        by under_only q bound = whole (λ x l u. ap on-side (le→under (≤ℤ-trans u bound)) ∙ settled false q)
        by over_only q l = whole (λ x m u. ap on-side (over-mono s.k m (lt→over l)) ∙ settled true q)
        by either q (l, bound) = opened _ _ refl refl (l, bound)
