-- What is known of a well formed request, and its plans and the loads left to it in terms of the classes of its slots.
use Prim.Native.Nat.{ℕ, suc, ◌<◌}
use native.Mathlib.Nat.{le_refl}
use native.Mathlib.Omega.{arith}
use mathlib.Core.Bool.{Bool, true, false, cond, not}
use mathlib.Core.List.{List, [], ◌∷◌, map}
use mathlib.Core.Logic.{◌↔◌}
use mathlib.Core.Option.{none, some, some-ne-none}
use mathlib.Core.Path.{◌≡◌, refl, sym, ◌∙◌, subst}
use borrow.Author.Tests.{leb-true, le-leb}
use lib.Dec.{T}
use lib.IntN.{ℤ}
use lib.ListN.{length, set, length-map}
use lib.Signed.{lt_z, ◌≤ℤ◌, lt_z_no, lt_z_yes, clash_ℤ, ≤ℤ_refl}
use Rattle.refusals.proofs.Table.{first-none-check}
use Rattle.refusals.specs.Table.{first}
use Rattle.refusals.specs.declared.Refusal.TheVariants.{Crossed}
use Rattle.settings.proofs.Accepted.{Accepted, accepted-iff, differs_false}
use Rattle.rule.proofs.Plan.{nonzero-same}
use Rattle.rule.proofs.Ranges.{chosen-length, legal_for-iff-classes}
use Rattle.facts.proofs.Tests.{or-false→both, false_of_not}
use Rattle.rule.specs.Ranges.{range, Proper, ChosenIn, LegalFor, Class, under_only, over_only, either, class_of, allows}
use Rattle.rule.specs.Rule.{over, legal, legal_by, nonzero, windows}
use Rattle.rule.specs.declared.Range.{Range}
use Rattle.settings.specs.declared.Settings.{Settings}
use Rattle.requests.proofs.ChosenIn.{paired-length, paired-set, in-slots, pin, unpin, replaced-proper}
use Rattle.requests.proofs.ChosenIn.{replaced-class}
use Rattle.requests.proofs.LeastCounts.{exists→enough, enough→exists}
use Rattle.requests.specs.Best.{Fits}
use Rattle.requests.specs.Request.{Request, slots, ranges, at, paired, crossed, request_refusal, filter_refusal}
use Rattle.requests.specs.Request.{WellFormed, PlanOf, UnlimitedPlanOf, LeftAt}
use Rattle.requests.specs.Solution.{sentinel, classes, FitsAt, possible}

-- what is known of a request that is not refused
pub record Formed (r : Request) : Type 0 where
  pub pass : Accepted (slots r) r.settings
  pub width : length r.highest ≡ slots r
  pub marked : length r.marks ≡ slots r
  pub proper : Proper (ranges r)

uncrossed→proper : (i : ℕ) (rs : List Range) → crossed i rs ≡ none → Proper rs
unfolding crossed
uncrossed→proper i [] e = tt
uncrossed→proper i (r ∷ rs) e = by (lt_z r.highest r.lowest) refl e (uncrossed→proper (suc i) rs)
  where
    by : (b : Bool) → lt_z r.highest r.lowest ≡ b → cond b (some (Crossed i)) (crossed (suc i) rs) ≡ none →
        (crossed (suc i) rs ≡ none → Proper rs) → Proper (r ∷ rs)
    by true q e f = absurd (some-ne-none _ e)
    by false q e f = (lt_z_no (subst (λ b. T (not b)) (sym q) tt), f e)

proper→uncrossed : (i : ℕ) (rs : List Range) → Proper rs → crossed i rs ≡ none
unfolding crossed
proper→uncrossed i [] p = refl
proper→uncrossed i (r ∷ rs) (l, p) =
    rw (false_of_not (lt_z r.highest r.lowest) (λ e. clash_ℤ (lt_z_yes (subst T (sym e) tt)) l))
    (proper→uncrossed (suc i) rs p)

-- what is known where no check of a request refuses it
pub passes→accepted : (s : Settings) (los his : List ℤ) {different : Bool} →
    request_refusal s los his different ≡ none →
    Accepted (length los) s × (length his ≡ length los) × (different ≡ false) × Proper (paired los his)
unfolding request_refusal
passes→accepted s los his e =
    let (checked, e) = first-none-check _ _ e in
    let (same-lengths, pass) = accepted-iff.0 checked in
    let (width, same) = or-false→both _ _ same-lengths in
    (pass, (differs_false _ _).0 width, same, uncrossed→proper 0 _ (first-none-check _ _ e).0)

well_formed→formed : (r : Request) → WellFormed r → Formed r
unfolding filter_refusal
well_formed→formed r e =
    let (pass, width, marked, proper) = passes→accepted r.settings r.lowest r.highest e in
    record { pass = pass; width = width; marked = (differs_false _ _).0 marked; proper = proper }

formed→well_formed : (r : Request) → Formed r → WellFormed r
unfolding filter_refusal request_refusal first
formed→well_formed r f =
    rw (
      (differs_false (slots r) (length r.highest)).1 f.width,
      (differs_false (slots r) (length r.marks)).1 f.marked,
      accepted-iff.1 (refl, f.pass),
      proper→uncrossed 0 (ranges r) f.proper,
    )

pub formed-iff : {r : Request} → WellFormed r ↔ Formed r
formed-iff {r} = (well_formed→formed r, formed→well_formed r)

-- the class of a slot that is on one side of the threshold only: over (true) or under (false)
abbrev pub one_side : Bool → Class
one_side true = over_only
one_side false = under_only

module _ (r : Request) where
  abbrev s : Settings
  s = r.settings

  module _ (formed : Formed r) where
    legal-by : (rs : List Range) (ms : List ℕ) → Proper rs →
        LegalFor s.k s.shape rs ms ↔ (legal_by allows (nonzero s.shape) (map (class_of s.k) rs) ms ≡ true)
    legal-by rs ms p =
        rw (nonzero-same s.shape formed.pass.length.0) (legal_for-iff-classes s.k s.shape rs ms p)

    pub chosen-slots : (xs : List ℤ) → ChosenIn (ranges r) xs → length xs ≡ slots r
    chosen-slots xs c = chosen-length (ranges r) xs c ∙ paired-length r.lowest r.highest (sym formed.width)

    pub class-slots : length (classes r) ≡ slots r
    class-slots =
        length-map (ranges r) (class_of s.k) ∙ paired-length r.lowest r.highest (sym formed.width)

    -- without refusals 26 and 21, the covered maximum is below the sentinel
    pub covered-below-sentinel : s.covered.most < sentinel
    covered-below-sentinel = omega (arith, formed.pass.covered.1, formed.pass.slots.1)

    pub possible→fits : (cs : List Class) → possible s cs ≡ true → (ms : List ℕ) × FitsAt s cs ms
    unfolding possible
    possible→fits cs e = enough→exists sentinel s.shape cs _ _ covered-below-sentinel (leb-true _ _ e)

    pub fits→possible : {cs : List Class} {ms : List ℕ} → FitsAt s cs ms → possible s cs ≡ true
    unfolding possible
    fits→possible {cs} f = le-leb _ _ (exists→enough sentinel s.shape cs _ _ f)

    pub plan→fits : {ms : List ℕ} → PlanOf r ms → FitsAt s (classes r) ms
    plan→fits {ms} p =
        record {
          in_rule = (legal-by (ranges r) ms formed.proper).0 p.in_rule;
          few = p.windows_fit;
          short = p.covered_fit;
        }

    pub fits→plan : {ms : List ℕ} → FitsAt s (classes r) ms → PlanOf r ms
    fits→plan {ms} f =
        record {
          in_rule = (legal-by (ranges r) ms formed.proper).1 f.in_rule;
          windows_fit = f.few;
          covered_fit = f.short;
        }

    -- the loads left at slot i are those of its range with which a plan exists
    module _ (i : ℕ) (x : ℤ) where
      -- the ranges with slot i pinned to x
      abbrev pinned : List Range
      pinned = paired (set r.lowest i x) (set r.highest i x)

      abbrev pub pinned_classes : List Class
      pinned_classes = set (classes r) i (one_side (over s.k x))

      pin-is : pinned ≡ set (ranges r) i (range x x)
      pin-is = paired-set r.lowest r.highest i x x

      pin-class : class_of s.k (range x x) ≡ one_side (over s.k x)
      unfolding class_of
      pin-class = by (over s.k x)
        where
          by : (b : Bool) → cond b over_only (cond b either under_only) ≡ one_side b
          by true = refl
          by false = refl

      fits-pinned : (ms : List ℕ) → LegalFor s.k s.shape pinned ms ↔
          (legal_by allows (nonzero s.shape) pinned_classes ms ≡ true)
      fits-pinned ms =
          rw (← replaced-class (ranges r) i x x pin-is s.k pin-class)
          (legal-by pinned ms (replaced-proper (ranges r) i x x pin-is (≤ℤ_refl x) formed.proper))

      pub left→possible : LeftAt r i x →
          (i < slots r) × (at r.lowest i ≤ℤ x) × (x ≤ℤ at r.highest i) × (possible s pinned_classes ≡ true)
      left→possible l =
          let there : i < slots r = omega (arith, l.there, chosen-slots l.loads l.chosen) in
          let (lo, hi) =
          in-slots r.lowest r.highest l.loads i there (omega (arith, there, formed.width)) l.chosen in
          let chosen : ChosenIn pinned l.loads =
          subst (λ x. ChosenIn (paired (set r.lowest i x) (set r.highest i x)) l.loads) l.occurs
          (pin r.lowest r.highest l.loads i l.chosen) in
          let f : FitsAt s pinned_classes l.marks = record {
            in_rule = (fits-pinned l.marks).0 (l.loads, chosen, l.in_rule);
            few = l.plan.windows_fit;
            short = l.plan.covered_fit;
          } in (
            there,
            subst (λ x. at r.lowest i ≤ℤ x) l.occurs lo,
            subst (λ x. x ≤ℤ at r.highest i) l.occurs hi,
            fits→possible f,
          )

      pub possible→left : i < slots r → at r.lowest i ≤ℤ x → x ≤ℤ at r.highest i →
          possible s pinned_classes ≡ true →
          LeftAt r i x
      possible→left p lo hi e =
          let (ms, f) = possible→fits pinned_classes e in
          let (xs, c, legal) = (fits-pinned ms).1 f.in_rule in
          let (chosen, there, occurs) =
          unpin r.lowest r.highest xs i x p (omega (arith, p, formed.width)) lo hi c in
          record {
            loads = xs;
            marks = ms;
            chosen = chosen;
            plan = record { in_rule = (xs, chosen, legal); windows_fit = f.few; covered_fit = f.short };
            in_rule = legal;
            there = there;
            occurs = occurs;
          }

    -- plans in terms of classes, with the window maximum ignored
    pub unlimited→fits : {ms : List ℕ} → UnlimitedPlanOf r ms →
        Fits s.shape (classes r) (windows ms) s.covered.most ms
    unlimited→fits {ms} p =
        record {
          in_rule = (legal-by (ranges r) ms formed.proper).0 p.in_rule;
          few = le_refl _;
          short = p.covered_fit;
        }

    pub fits→unlimited : (w : ℕ) {ms : List ℕ} → Fits s.shape (classes r) w s.covered.most ms →
        UnlimitedPlanOf r ms
    fits→unlimited w {ms} f =
        record { in_rule = (legal-by (ranges r) ms formed.proper).1 f.in_rule; covered_fit = f.short }
