-- From no marks to the end the calls hand back every plan once, and they come to an end.
use Prim.Native.Nat.{ℕ, zero, suc, ◌+◌, ◌≤◌, ◌<◌}
use native.Mathlib.Omega.{arith}
use mathlib.Core.List.{List, [], ◌∷◌}
use mathlib.Core.Logic.{◌⊎◌, inl, inr}
use mathlib.Core.Path.{◌≡◌, refl, sym, subst, ◌∙◌}
use lib.ListN.{length}
use Rattle.requests.proofs.Formed.{Formed, formed-iff}
use Rattle.requests.specs.Request.{Request, request_of, slots, PlanOf}
use Rattle.rule.proofs.Order.{none_before}
use Rattle.rule.specs.Order.{◌≺◌}
use Rattle.paging.proofs.MarksRise.{value, value-rises, top, below_top}
use Rattle.paging.proofs.NextIsFirst.{plan-length, plan-small, no_further, next-first}
use Rattle.paging.proofs.PartingSearch.{search-parting}
use Rattle.paging.proofs.Passes.{passed→passes}
use Rattle.paging.specs.Pages.{Pages, end, page, Rising, ◌∈◌, here, there, Enumerates}
use Rattle.paging.specs.Paging.{page_limit, call_of, PlanAfter, NextPlan, Accepted}
use Rattle.paging.specs.Parting.{parts, partings, NonePartsFrom, LastParting}

module _ (r : Request) where
  -- the same request, with another slice lent for the result
  abbrev lending : List ℕ → Request
  lending lent = request_of r.settings r.lowest r.highest lent

  from-lent : (lent : List ℕ) {ms : List ℕ} → PlanOf (lending lent) ms → PlanOf r ms
  from-lent lent p =
      record { in_rule = p.in_rule; windows_fit = p.windows_fit; covered_fit = p.covered_fit }

  to-lent : (lent : List ℕ) {given ms : List ℕ} → PlanOf r ms → given ≺ ms → PlanAfter (lending lent) given ms
  to-lent lent p l =
      record {
        plan = record { in_rule = p.in_rule; windows_fit = p.windows_fit; covered_fit = p.covered_fit };
        later = l;
      }

  rises : {given : List ℕ} {pages : List (List ℕ)} → Pages r given pages → Rising given pages
  rises (end lent ms turned) = tt
  rises (page lent ms turned more) = (turned.1.holds.later, rises more)

  only-plans : {given ms : List ℕ} {pages : List (List ℕ)} → Pages r given pages → ms ∈ pages → PlanOf r ms
  only-plans (end {given = given} lent ms _) x5 = elim x5 [ ]
  only-plans (page lent ms turned more) here = from-lent lent turned.1.holds.plan
  only-plans (page lent ms turned more) (there at) = only-plans more at

  every-plan : {given : List ℕ} {pages : List (List ℕ)} (ks : List ℕ) → Pages r given pages → PlanOf r ks → given ≺ ks →
      ks ∈ pages
  every-plan ks (end lent ms turned) p l = absurd (turned.1 ks (to-lent lent p l))
  every-plan ks (page lent ms {rest = rest} turned more) p l =
      by (turned.1.first ks (to-lent lent p l)) (λ l. every-plan ks more p l)
    where
      by : (ms ≡ ks) ⊎ (ms ≺ ks) → (ms ≺ ks → ks ∈ rest) → ks ∈ (ms ∷ rest)
      by (inl same) later = subst (λ ms. ks ∈ (ms ∷ rest)) (sym same) here
      by (inr l) later = there (later l)

  module _ (good : Formed r) (short : slots r ≤ page_limit) where
    -- what a call may be given, and how many calls are left at the most: each number is larger than the one before
    data Left (calls : ℕ) : (given : List ℕ) → Type 0 where
      all_left : top (slots r) < calls → Left calls []
      some_left : {given : List ℕ} → PlanOf r given → top (slots r) ≤ calls + value 0 given → Left calls given

    as_long : {calls : ℕ} {given : List ℕ} → Left calls given → (length given ≡ 0 → ⊥) → length given ≡ slots r
    as_long (all_left e) some = absurd (some refl)
    as_long (some_left p e) some = plan-length r good p

    given-plan : {calls : ℕ} {given : List ℕ} → Left calls given → (given ≡ []) ⊎ PlanOf r given
    given-plan (all_left e) = inl refl
    given-plan (some_left p e) = inr p

    accepted : {calls : ℕ} {given : List ℕ} → Left calls given →
        Accepted (call_of r.settings r.lowest r.highest given r.marks)
    accepted {given = given} left =
        record {
          passes = passed→passes (record { request = r; given = given }) (record { formed = good; short = short; as_long = as_long left });
          plan = given-plan left;
        }

    none_left : {given : List ℕ} → Left 0 given → ⊥
    none_left (all_left e) = omega arith
    none_left (some_left {given} p e) =
        omega (arith, e, below_top given (slots r) (plan-small r good p) (plan-length r good p))

    one_fewer : {calls : ℕ} {given : List ℕ} (ms : List ℕ) → Left (suc calls) given → NextPlan r given ms → Left calls ms
    one_fewer ms (all_left e) next = some_left next.holds.plan (omega arith)
    one_fewer ms (some_left {given} p e) next =
        let n = next.holds.plan in
        some_left n (omega (
          arith,
          e,
          value-rises {ms = given} {ks = ms} 0 (plan-small r good p)
              (plan-length r good p ∙ sym (plan-length r good n)) next.holds.later,
        ))

    ends-from : (calls : ℕ) (given : List ℕ) → Left calls given → (pages : List (List ℕ)) × Pages r given pages
    ends-from zero given left = absurd (none_left left)
    ends-from (suc calls) given left =
        by (search-parting (parts r.settings r.lowest r.highest given) (partings (slots r) (length given)))
        (λ ms next. ends-from calls ms (one_fewer ms left next))
      where
        by : ((j m : ℕ) × LastParting (parts r.settings r.lowest r.highest given)
            (partings (slots r) (length given)) j m)
            ⊎ NonePartsFrom (parts r.settings r.lowest r.highest given) 0 (partings (slots r) (length given)) →
            ((ms : List ℕ) → NextPlan r given ms → (pages : List (List ℕ)) × Pages r ms pages) →
            (pages : List (List ℕ)) × Pages r given pages
        by (inl (j, m, last)) more =
            let next = next-first r good given j m last in
            let (pages, later) = more _ next in
            (_ ∷ pages, page r.marks _ (accepted left, next) later)
        by (inr none) more = ([], end r.marks r.marks (accepted left, no_further r good given none, refl))

pub enumerates : Enumerates
enumerates r well short =
    let good = formed-iff.0 well in
    record {
      ends = ends-from r good short (suc (top (slots r))) [] (all_left (omega arith));
      all = λ pages called. record {
        rising = rises r called;
        exact = λ ms. (
          (λ p. every-plan r ms called p (none_before ms (omega (arith, plan-length r good p, good.pass.slots.0)))),
          (λ at. only-plans r called at),
        );
      };
    }
