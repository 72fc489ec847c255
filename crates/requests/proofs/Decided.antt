-- The promise decides the whole outcome: an outcome keeps it exactly when it is the computed one.
use Prim.Native.Nat.{ℕ, ◌<◌}
use native.Mathlib.Omega.{arith}
use mathlib.Core.List.{List}
use mathlib.Core.Logic.{◌↔◌}
use mathlib.Core.Option.{some-ne-none, some-injective}
use mathlib.Core.Path.{◌≡◌, refl, sym, ap, ◌∙◌, subst}
use lib.IntN.{ℤ, pos}
use lib.Seq.{ext_get_or}
use lib.Signed.{◌≤ℤ◌, ≤ℤ_refl}
use Rattle.facts.proofs.Integers.{≤ℤ-trans, ≤ℤ-antisym}
use Rattle.refusals.specs.Answer.{Answer, refuses, gives}
use Rattle.rule.proofs.LeastOver.{least-unique}
use Rattle.rule.proofs.Order.{first-unique}
use Rattle.settings.proofs.Accepted.{count_range-ext}
use Rattle.settings.specs.declared.CountRange.{CountRange}
use Rattle.requests.proofs.ChosenIn.{in-slots}
use Rattle.requests.proofs.SolutionKeeps.{solution-keeps}
use Rattle.requests.specs.Promise.{Result, no_plan, planned, Outcome, Says, Held, Unaltered, Raised, Planned}
use Rattle.requests.specs.Promise.{Answers, Keeps}
use Rattle.requests.specs.Request.{Request, slots, at}
use Rattle.requests.specs.Solution.{solution}
use Rattle.requests.specs.declared.PlanCounts.{PlanCounts}

outcome-ext : {o p : Outcome} → o.answer ≡ p.answer → o.lowest ≡ p.lowest → o.highest ≡ p.highest →
    o.marks ≡ p.marks → o ≡ p
outcome-ext a l h m = λ i. record { answer = a i; lowest = l i; highest = h i; marks = m i }

-- two outcomes with one answer are the same if neither alters anything
unaltered : {r : Request} {o p : Outcome} → o.answer ≡ p.answer → Unaltered r o → Unaltered r p → o ≡ p
unaltered e u v =
    outcome-ext e (u.lowest ∙ sym v.lowest) (u.highest ∙ sym v.highest) (u.marks ∙ sym v.marks)

module _ (r : Request) where
  raised-unique : (count : List ℕ → ℕ) (given w w' : CountRange) → Raised r count given w →
      Raised r count given w' → w ≡ w'
  raised-unique count given w w' a b =
      let v = least-unique a.least b.least in
      count_range-ext w w' (omega (arith, a.minimum, b.minimum)) (omega (arith, a.maximum, b.maximum))

  module _ (o p : Outcome) (n m : PlanCounts) (a : Planned r n o) (b : Planned r m p) (i : ℕ)
      (bound : i < slots r) where
    -- some load is in the range that comes back for slot i
    held : at o.lowest i ≤ℤ at o.highest i
    held =
        let (lo, hi) = in-slots o.lowest o.highest a.drawn.loads i
        (omega (arith, bound, a.lowest_length)) (omega (arith, bound, a.highest_length)) a.drawn.chosen in
        ≤ℤ-trans lo hi

    moves : (x : ℤ) → Held o i x → Held p i x
    moves x m = ((b.narrowed i bound).exact x).1 (((a.narrowed i bound).exact x).0 m)

    lower : at p.lowest i ≤ℤ at o.lowest i
    lower = (moves _ (≤ℤ_refl _, held)).0

    higher : at o.highest i ≤ℤ at p.highest i
    higher = (moves _ (held, ≤ℤ_refl _)).1

  module _ (o p : Outcome) (n m : PlanCounts) (e : Says o n) (f : Says p m) (a : Planned r n o)
      (b : Planned r m p) where
    same-counts : n ≡ m
    same-counts =
        let windows = raised-unique _ _ n.windows m.windows a.windows b.windows in
        let covered = raised-unique _ _ n.covered m.covered a.covered b.covered in
        let thrift = least-unique a.thrift b.thrift in
        λ i. record { windows = windows i; covered = covered i; thrift = thrift i }

    both-planned : o ≡ p
    both-planned =
        outcome-ext (e ∙ ap (λ n. gives (planned n)) same-counts ∙ sym f)
        (ext_get_or (pos 0) _ _ (a.lowest_length ∙ sym b.lowest_length)
        (λ i bound.
        let bound' : i < slots r = omega (arith, bound, a.lowest_length) in
        ≤ℤ-antisym (lower p o m n b a i bound') (lower o p n m a b i bound')))
        (ext_get_or (pos 0) _ _ (a.highest_length ∙ sym b.highest_length)
        (λ i bound.
        let bound' : i < slots r = omega (arith, bound, a.highest_length) in
        ≤ℤ-antisym (higher o p n m a b i bound') (higher p o m n b a i bound')))
        (first-unique a.first b.first)

pub decided : (r : Request) (o p : Outcome) → Keeps r o → Keeps r p → o ≡ p
decided r o p kept kept' = by o.answer p.answer refl refl kept kept'
  where
    by : (a b : Answer Result) → o.answer ≡ a → p.answer ≡ b → Answers r a o → Answers r b p → o ≡ p
    by (refuses f) (refuses g) e d (x, u) (y, v) =
        unaltered (e ∙ ap refuses (some-injective _ _ (sym x ∙ y)) ∙ sym d) u v
    by (refuses f) (gives no_plan) e d (x, u) (y, none, v) = absurd (some-ne-none _ (sym x ∙ y))
    by (refuses f) (gives (planned n)) e d (x, u) (y, q) = absurd (some-ne-none _ (sym x ∙ y))
    by (gives no_plan) (refuses g) e d (x, none, u) (y, v) = absurd (some-ne-none _ (sym y ∙ x))
    by (gives no_plan) (gives no_plan) e d (x, none, u) (y, _, v) = unaltered (e ∙ sym d) u v
    by (gives no_plan) (gives (planned n)) e d (x, none, u) (y, q) =
        let (ms, plan, _) = q.windows.least.met in
        absurd (none ms plan)
    by (gives (planned n)) (refuses g) e d (x, q) (y, v) = absurd (some-ne-none _ (sym y ∙ x))
    by (gives (planned n)) (gives no_plan) e d (x, q) (y, none, v) =
        let (ms, plan, _) = q.windows.least.met in
        absurd (none ms plan)
    by (gives (planned n)) (gives (planned m)) e d (x, q) (y, s) = both-planned r o p n m e d q s

pub keeps-iff : (r : Request) (o : Outcome) → Keeps r o ↔ (o ≡ solution r)
keeps-iff r o =
    ((λ kept. decided r o (solution r) kept (solution-keeps r)), λ e. subst (Keeps r) (sym e) (solution-keeps r))
