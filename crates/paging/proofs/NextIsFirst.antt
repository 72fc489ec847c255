-- What is drawn where the last plan parts from the given marks is the next plan, and where none parts there is none.
use Prim.Native.Nat.{ℕ, ◌+◌, ◌≤◌, ◌<◌}
use native.Mathlib.Omega.{arith}
use mathlib.Core.Bool.{Bool, true, false, true≢false}
use mathlib.Core.List.{List, [], ◌∷◌, ◌++◌, append_assoc}
use mathlib.Core.Logic.{◌↔◌, ◌⊎◌, inl, inr}
use mathlib.Core.Path.{◌≡◌, sym, ap, subst, ◌∙◌}
use lib.ListN.{length, take, get_or, length-append}
use lib.Seq.{length-take-le}
use Rattle.facts.proofs.Naturals.{trichotomy}
use Rattle.facts.proofs.Tests.{and-true→both}
use Rattle.requests.proofs.DrawnPlan.{completed-first, drawn_from-begins}
use Rattle.requests.proofs.Formed.{Formed, class-slots, covered-below-sentinel, plan→fits, fits→plan}
use Rattle.requests.proofs.PlansAreJudged.{plan-iff-ends}
use Rattle.requests.specs.Request.{Request, slots, PlanOf}
use Rattle.requests.specs.Solution.{sentinel, classes}
use Rattle.rule.proofs.LegalFrom.{legal-length}
use Rattle.rule.proofs.Order.{first-congr}
use Rattle.rule.proofs.Plan.{legal→plan, plan-marks}
use Rattle.rule.specs.Order.{◌≺◌, Begins, First}
use Rattle.rule.specs.Ranges.{Class, allows}
use Rattle.rule.specs.Rule.{nonzero}
use Rattle.settings.specs.declared.Settings.{Settings}
use Rattle.paging.proofs.PartsAt.{Above, above-iff, PartsAt, parting-of, parts-begins, parted-later}
use Rattle.paging.proofs.PartsAt.{parted-before, smaller_before}
use Rattle.paging.specs.Paging.{PlanAfter, NextPlan, NoFurther}
use Rattle.paging.specs.Parting.{is_plan, above, parted, parted_plan, parts, partings, NonePartsFrom, LastParting}

module _ (r : Request) (good : Formed r) where
  abbrev s : Settings
  s = r.settings

  abbrev cs : List Class
  cs = classes r

  -- marks are a plan exactly when the judge allows them for the ends on their sides
  pub is-plan-iff : (ms : List ℕ) → PlanOf r ms ↔ (is_plan s r.lowest r.highest ms ≡ true)
  unfolding is_plan
  is-plan-iff ms = plan-iff-ends r good ms

  pub plan-length : {ms : List ℕ} → PlanOf r ms → length ms ≡ slots r
  plan-length {ms} p = legal-length allows (nonzero s.shape) cs ms (plan→fits r good p).in_rule ∙ class-slots r good

  pub plan-small : {ms : List ℕ} → PlanOf r ms → (i : ℕ) → get_or ms i 0 < 4
  plan-small {ms} p = plan-marks _ _ _ _ (legal→plan allows s.shape cs ms (plan→fits r good p).in_rule)

  module _ (given : List ℕ) where
    abbrev tried : (j m : ℕ) → Bool
    tried = parts s r.lowest r.highest given

    abbrev drawn : (j m : ℕ) → List ℕ
    drawn = parted_plan s r.lowest r.highest given

    -- what is drawn is the first of the plans that part so, if there is one
    drawn-first : (j m : ℕ) (ks : List ℕ) → PlanOf r ks → Begins (parted given j m) ks →
        First (λ ks. PlanOf r ks × Begins (parted given j m) ks) (drawn j m)
    drawn-first j m ks p b =
        first-congr (λ ms (f, b). (fits→plan r good f, b)) (λ ms (p, b). (plan→fits r good p, b))
        (completed-first s cs (parted given j m) (covered-below-sentinel r good) ks (plan→fits r good p) b)

    none-parts : (j m : ℕ) → tried j m ≡ false → Above given j m → (ks : List ℕ) → PlanOf r ks →
        Begins (parted given j m) ks → ⊥
    unfolding parts
    none-parts j m fails larger ks p b =
        let plan = (is-plan-iff (drawn j m)).0 (drawn-first j m ks p b).holds.0 in
        true≢false (sym (rw ((above-iff given j m).1 larger, plan)) ∙ fails)

    one-parts : (j m : ℕ) → j ≤ length given → j < slots r → tried j m ≡ true →
        Above given j m × First (λ ks. PlanOf r ks × Begins (parted given j m) ks) (drawn j m)
    unfolding parts
    one-parts j m within there parted-so =
        let (larger, plan) = and-true→both (above given j m) _ parted-so in
        let front : length (parted given j m) ≡ j + 1 =
        length-append (take j given) (m ∷ []) ∙ ap (λ n. n + 1) (length-take-le j given within) in
        let b = drawn_from-begins sentinel s.shape cs (parted given j m) 0 s.windows.most s.covered.most
        (omega (arith, there, front, class-slots r good)) in
        ((above-iff given j m).0 larger, drawn-first j m (drawn j m) ((is-plan-iff (drawn j m)).1 plan) b)

    -- a plan after the given marks parts from them
    parts-somewhere : {ks : List ℕ} → PlanAfter r given ks →
        (j : ℕ) × PartsAt given ks j × (j < partings (slots r) (length given))
    parts-somewhere after =
        let (j, p) = parting-of after.later in
        (j, p, omega (arith, p.within, p.there, plan-length after.plan))

    parts-not : {ks : List ℕ} (j : ℕ) → PlanAfter r given ks → PartsAt given ks j → tried j (get_or ks j 0) ≡ false → ⊥
    parts-not {ks} j after p fails =
        none-parts j (get_or ks j 0) fails p.larger ks after.plan (parts-begins j p)

    pub no_further : NonePartsFrom tried 0 (partings (slots r) (length given)) → NoFurther r given
    no_further none ks after =
        let (j, p, there) = parts-somewhere after in
        parts-not j after p (none j (get_or ks j 0) (omega arith) there (plan-small after.plan j))

    module _ (j m : ℕ) (last : LastParting tried (partings (slots r) (length given)) j m) where
      larger-and-first : Above given j m × First (λ ks. PlanOf r ks × Begins (parted given j m) ks) (drawn j m)
      larger-and-first = one-parts j m (omega (arith, last.there)) (omega (arith, last.there)) last.here

      abbrev rest : List ℕ
      rest = larger-and-first.1.holds.1.0

      is-drawn : drawn j m ≡ take j given ++ m ∷ rest
      is-drawn = larger-and-first.1.holds.1.1 ∙ append_assoc (take j given) (m ∷ []) rest

      -- a plan that parts at the same slot
      at_slot : {ks : List ℕ} → PlanAfter r given ks → PartsAt given ks j → (drawn j m ≡ ks) ⊎ (drawn j m ≺ ks)
      at_slot {ks} after p = by (get_or ks j 0) (parts-begins j p) (parts-not j after p) (trichotomy m (get_or ks j 0))
        where
          by : (k : ℕ) → Begins (parted given j k) ks → (tried j k ≡ false → ⊥) → (m < k) ⊎ ((m ≡ k) ⊎ (k < m)) →
              (drawn j m ≡ ks) ⊎ (drawn j m ≺ ks)
          by k (other, e) parts (inl less) =
              inr (rw (is-drawn, e, append_assoc (take j given) (k ∷ []) other)
              (smaller_before (take j given) m k rest other less))
          by k b parts (inr (inl same)) =
              larger-and-first.1.first ks (after.plan, subst (λ k. Begins (parted given j k) ks) (sym same) b)
          by k b parts (inr (inr more)) = absurd (parts (last.smaller k more))

      pub next-first : NextPlan r given (drawn j m)
      next-first =
          record {
            holds = record {
              plan = larger-and-first.1.holds.0;
              later = rw is-drawn
                  (parted-later given j m rest (omega (arith, last.there)) larger-and-first.0);
            };
            first = λ ks after. let (i, p, there) = parts-somewhere after in by ks after i p there (trichotomy i j);
          }
        where
          by : (ks : List ℕ) → PlanAfter r given ks → (i : ℕ) → PartsAt given ks i →
              i < partings (slots r) (length given) → (i < j) ⊎ ((i ≡ j) ⊎ (j < i)) →
              (drawn j m ≡ ks) ⊎ (drawn j m ≺ ks)
          by ks after i p there (inl earlier) =
              let (other, e) = parts-begins i p in
              inr (rw (is-drawn, e, append_assoc (take i given) (get_or ks i 0 ∷ []) other)
              (parted-before given i j m (get_or ks i 0) rest other earlier (omega (arith, last.there)) p.larger))
          by ks after i p there (inr (inl same)) = at_slot after (subst (PartsAt given ks) same p)
          by ks after i p there (inr (inr later)) =
              absurd (parts-not i after p (last.later i (get_or ks i 0) later there (plan-small after.plan i)))
