-- The least counts of slots given by their classes, thrift, and when a plan exists, as they follow from `best`.
use Prim.Native.Nat.{ℕ, zero, suc, ◌+◌, ◌≤◌, ◌<◌}
use native.Mathlib.Nat.{le_antisymm, le_refl, eq-or-lt_of_le, lt_of_not-le}
use native.Mathlib.Omega.{arith}
use mathlib.Core.Bool.{Bool, true, false, cond}
use mathlib.Core.List.{List}
use mathlib.Core.Logic.{◌⊎◌, inl, inr, ⊎_elim}
use mathlib.Core.Path.{◌≡◌, refl, sym, subst}
use borrow.Author.Tests.{leb-true, leb-false}
use lib.Dec.{leb}
use Rattle.facts.proofs.Tests.{cond_cases, cond-at-most}
use Rattle.rule.specs.Ranges.{Class}
use Rattle.rule.specs.Rule.{windows, covered, LeastOver, ThriftOver}
use Rattle.rule.specs.declared.Shape.{Shape}
use Rattle.requests.proofs.BestIsLeast.{best-le, best-le-covered, best-met}
use Rattle.requests.specs.Best.{Fits, best, fewest}
use Rattle.requests.specs.Solution.{sentinel, LegalMarks, CountsAreLeast}
use Rattle.settings.specs.declared.Settings.{Settings}

module _ (T : ℕ) (shape : Shape) (cs : List Class) where
  -- v is the first of the window counts from w on for which `best` is at most c
  record First (c w v : ℕ) : Type 0 where
    enough : best T shape cs v ≤ c
    first : (u : ℕ) → w ≤ u → best T shape cs u ≤ c → v ≤ u

  fewest-first : (c w d : ℕ) → best T shape cs (w + d) ≤ c → First c w (fewest T shape cs c w d)
  unfolding fewest
  fewest-first c w zero e = record { enough = subst (λ v. best T shape cs v ≤ c) (omega arith) e; first = λ u p q. p }
  fewest-first c w (suc d) e = by (leb (best T shape cs w) c) refl (fewest-first c (suc w) d)
    where
      by : (b : Bool) → leb (best T shape cs w) c ≡ b →
          (best T shape cs (suc w + d) ≤ c → First c (suc w) (fewest T shape cs c (suc w) d)) →
          First c w (cond b w (fewest T shape cs c (suc w) d))
      by true q f = record { enough = leb-true _ _ q; first = λ u p q. p }
      by false q f =
          let s = f (subst (λ v. best T shape cs v ≤ c) (omega arith) e) in
          let above_max : c < best T shape cs w = leb-false _ _ q in
          record {
            enough = s.enough;
            first = λ u p r.
                ⊎_elim (λ i. absurd (omega (arith, above_max, subst (λ v. best T shape cs v ≤ c) (sym i) r)))
                (λ l. s.first u l r)
                (eq-or-lt_of_le p);
          }

  -- v is what `fewest` finds if `best` is above c for the counts before v, and at most c for v unless v is the last
  pub fewest-is : (c d w v : ℕ) → w ≤ v → v ≤ w + d → ((u : ℕ) → w ≤ u → u < v → c < best T shape cs u) →
      (v < w + d → best T shape cs v ≤ c) → v ≡ fewest T shape cs c w d
  unfolding fewest
  fewest-is c zero w v p q f g = omega arith
  fewest-is c (suc d) w v p q f g = by (leb (best T shape cs w) c) refl (eq-or-lt_of_le p) (fewest-is c d (suc w) v)
    where
      by : (b : Bool) → leb (best T shape cs w) c ≡ b → (w ≡ v) ⊎ (w < v) →
          (suc w ≤ v → v ≤ suc w + d → ((u : ℕ) → suc w ≤ u → u < v → c < best T shape cs u) →
          (v < suc w + d → best T shape cs v ≤ c) → v ≡ fewest T shape cs c (suc w) d) →
          v ≡ cond b w (fewest T shape cs c (suc w) d)
      by true e (inl same) later = sym same
      by true e (inr l) later =
          let within-max : best T shape cs w ≤ c = leb-true _ _ e in
          absurd (omega (arith, within-max, f w (le_refl w) l))
      by false e (inl same) later =
          let above_max : c < best T shape cs w = leb-false _ _ e in
          absurd (omega (arith, above_max, subst (λ u. best T shape cs u ≤ c) (sym same) (g (omega arith))))
      by false e (inr l) later = later l (omega arith) (λ u a b. f u (omega arith) b) (λ a. g (omega arith))

  pub fewest-le : (c w d : ℕ) → fewest T shape cs c w d ≤ w + d
  unfolding fewest
  fewest-le c w zero = omega arith
  fewest-le c w (suc d) =
      cond-at-most (leb (best T shape cs w) c) _ _ (omega arith) (omega (arith, fewest-le c (suc w) d))

  -- with one count more at the end, `fewest` finds the same, unless it finds that one
  pub fewest-longer : (c w d : ℕ) →
      (fewest T shape cs c w (suc d) ≡ fewest T shape cs c w d) ⊎ (fewest T shape cs c w (suc d) ≡ w + suc d)
  unfolding fewest
  fewest-longer c w zero =
      cond_cases (λ v. (v ≡ w) ⊎ (v ≡ w + 1)) (leb (best T shape cs w) c) (inl refl) (inr (omega arith))
  fewest-longer c w (suc d) = by (leb (best T shape cs w) c) (fewest-longer c (suc w) d)
    where
      by : (b : Bool) {x y : ℕ} → (x ≡ y) ⊎ (x ≡ suc w + suc d) →
          (cond b w x ≡ cond b w y) ⊎ (cond b w x ≡ w + suc (suc d))
      by true e = inl refl
      by false (inl e) = inl e
      by false (inr e) = inr (omega arith)

  module _ (w c : ℕ) where
    pub exists→enough : {ms : List ℕ} → Fits shape cs w c ms → best T shape cs w ≤ c
    exists→enough f = omega (arith, best-le-covered T shape f, f.short)

    module _ (below-T : c < T) (enough : best T shape cs w ≤ c) where
      pub enough→exists : (ms : List ℕ) × Fits shape cs w c ms
      enough→exists =
          let (ms, f) = best-met T shape cs w (omega arith) in
          (ms, record { in_rule = f.in_rule; few = f.few; short = omega (arith, f.short) })

      pub least_covered : LeastOver (Fits shape cs w c) covered (best T shape cs w)
      least_covered =
          let (ms, f) = best-met T shape cs w (omega arith) in
          let low = best-le-covered T shape f in
          record {
            met = (
              ms,
              record { in_rule = f.in_rule; few = f.few; short = omega (arith, f.short) },
              le_antisymm f.short low,
            );
            least = λ ms g. best-le-covered T shape g;
          }

      abbrev v : ℕ
      v = fewest T shape cs c 0 w

      first : First c 0 v
      first = fewest-first c 0 w (subst (λ v. best T shape cs v ≤ c) (omega arith) enough)

      few-windows : {ms : List ℕ} → Fits shape cs w c ms → v ≤ windows ms
      few-windows {ms} f =
          let g : Fits shape cs (windows ms) c ms =
          record { in_rule = f.in_rule; few = le_refl _; short = f.short } in
          first.first (windows ms) (omega arith) (omega (arith, best-le-covered T shape g, f.short))

      -- some marks have the fewest windows, and of these the least covered count
      fewest-met : (ms : List ℕ) × Fits shape cs w c ms × (windows ms ≡ v) × (covered ms ≡ best T shape cs v)
      fewest-met =
          let within : v ≤ w = first.first w (omega arith) enough in
          let (ms, g) = best-met T shape cs v (omega (arith, first.enough)) in
          let fits : Fits shape cs w c ms =
          record {
            in_rule = g.in_rule;
            few = omega (arith, within, g.few);
            short = omega (arith, g.short, first.enough);
          } in
          (ms, fits, le_antisymm g.few (few-windows fits), le_antisymm g.short (best-le-covered T shape g))

      pub least_windows : LeastOver (Fits shape cs w c) windows v
      least_windows = let (ms, f, few, _) = fewest-met in record { met = (ms, f, few); least = λ ms f. few-windows f }

      pub thrift : ThriftOver (Fits shape cs w c) (best T shape cs v)
      thrift =
          let (ms, f, few, short) = fewest-met in
          record {
            met = (ms, record { holds = f; fewest = λ ks g. omega (arith, few, few-windows g) }, short);
            least = λ ks g.
                best-le-covered T shape
                (record {
                  in_rule = g.holds.in_rule;
                  few = omega (arith, few, g.fewest ms f);
                  short = g.holds.short;
                });
          }

-- what these counts are, for all settings and classes
module _ (s : Settings) (cs : List Class) where
  abbrev w : ℕ
  w = s.windows.most

  abbrev c : ℕ
  c = s.covered.most

  covers : (ms : List ℕ) → LegalMarks s cs ms → windows ms ≤ w → best sentinel s.shape cs w ≤ covered ms
  covers ms e few = best-le-covered sentinel s.shape (record { in_rule = e; few = few; short = le_refl _ })

  pub counts_are_least : CountsAreLeast s cs
  counts_are_least =
      record {
        covers = covers;
        covered = λ below.
            let (ms, f) = best-met sentinel s.shape cs w below in
            record {
              met = (ms, (f.in_rule, f.few), le_antisymm f.short (covers ms f.in_rule f.few));
              least = λ ms (e, few). covers ms e few;
            };
        windows =
            λ below ms f. least_windows sentinel s.shape cs w c below (exists→enough sentinel s.shape cs w c f);
        none = λ below no.
            sym
            (fewest-is sentinel s.shape cs c w 0 w (omega arith) (omega arith)
            (λ u _ less. lt_of_not-le λ enough.
            let (ms, f) = enough→exists sentinel s.shape cs u c below enough in
            no ms (record { in_rule = f.in_rule; few = omega (arith, f.few, less); short = f.short }))
            (λ less. absurd (omega arith)));
        thrift = λ below ms f. thrift sentinel s.shape cs w c below (exists→enough sentinel s.shape cs w c f);
        at_sentinel = λ above.
            sym
            (fewest-is sentinel s.shape cs c w 0 0 (omega arith) (omega arith) (λ u _ less. absurd (omega arith))
            (λ _. omega (arith, best-le sentinel s.shape cs 0, above)));
      }
