-- How far windows reach, from the first slot on, for the loop of `fast::reach::reaches`; and what the code for a row
-- needs to know of reaches.
use Prim.Native.Nat.{ℕ, suc, ◌+◌, ◌-◌, ◌≤◌, ◌<◌}
use native.Mathlib.Nat.{le_refl, eq-or-lt_of_le}
use native.Mathlib.Numerals.{add-one}
use native.Mathlib.Omega.{arith}
use mathlib.Core.List.{List, ◌∷◌}
use mathlib.Core.Logic.{◌⊎◌, inl, inr}
use mathlib.Core.Path.{◌≡◌, refl, ap, ◌∙◌}
use lib.ListN.{length, drop, get_or, set, replicate, drop_of_length-le, length-drop, length-map, length-set}
use lib.ListN.{length-replicate, get_or-replicate}
use lib.Seq.{drop-cons, get_or-set_other}
use Rattle.facts.proofs.Lists.{written-before}
use Rattle.rule.specs.ClassCodes.{decode, decode_all}
use Rattle.rule.specs.Ranges.{Class, under_only}
use Rattle.settings.specs.Refusals.{limit, places}
use Rattle.sides.proofs.Reach.{fits_in, fit-later}
use Rattle.sides.specs.Reach.{low, fit}
use Rattle.fast.proofs.FromSlot.{from-slot, from_end}
use Rattle.fast.proofs.SpanLoop.{first_counted}
use Rattle.fast.specs.Rows.{Reaches, Bounded}
use Rattle.fast.specs.Spans.{Covers}
use Rattle.fast.specs.declared.reach.Span.{Span}
use Rattle.fast.specs.declared.slots.Slots.{Slots}

module _ (most h : ℕ) (classes : List ℕ) where
  abbrev cs : List Class
  cs = decode_all classes

  -- the reaches of the slots before slot x, and a span from there on
  pub record ReachesBefore (reach : List ℕ) (span : Span) (x : ℕ) : Type 0 where
    pub inside : x ≤ length classes
    pub wide : length reach ≡ places
    pub last : get_or reach (length classes) 0 ≡ 0
    pub counts : (j : ℕ) → j < x → get_or reach j 0 ≡ fit (drop j cs) most h
    pub covers : Covers most h (drop x cs) span

  pub reaches-start : length classes ≤ limit →
      ReachesBefore (replicate places 0) (record { slots = 0; bridges = 0 }) 0
  reaches-start e =
      record {
        inside = omega arith;
        wide = length-replicate {A = ℕ} places 0;
        last = get_or-replicate places (length classes) 0 0 (omega arith);
        counts = λ j l. absurd (omega arith);
        covers = record { inside = omega arith; within = omega arith; counted = refl; enough = omega arith };
      }

  pub reaches_step : (reach : List ℕ) (x : ℕ) (span span₁ span₂ : Span) → length classes ≤ limit →
      x < length classes → ReachesBefore reach span x → Covers most h (drop x cs) span₁ →
      span₁.slots ≡ fit (drop x cs) most h →
      (Covers most h (decode (get_or classes x 0) ∷ drop (x + 1) cs) span₁ → Covers most h (drop (x + 1) cs) span₂) →
      ReachesBefore (set reach x span₁.slots) span₂ (x + 1)
  reaches_step reach x span span₁ span₂ e l g covers is tail =
      record {
        inside = omega arith;
        wide = length-set reach x span₁.slots ∙ g.wide;
        last = get_or-set_other reach x (length classes) span₁.slots 0 (omega arith) ∙ g.last;
        counts = written-before (λ j y. y ≡ fit (drop j cs) most h) reach x span₁.slots 0
            (omega (arith, l, e, g.wide)) g.counts is;
        covers = tail (rw (from-slot classes x l) at covers);
      }

  -- the bridges of the first slot are among those of its span
  pub reaches-first : {reach : List ℕ} {span : Span} {x : ℕ} (span₁ : Span) → ReachesBefore reach span x →
      x < length classes → Covers most h (drop x cs) span₁ → 1 ≤ span₁.slots →
      low (decode (get_or classes x 0)) ≤ span₁.bridges
  reaches-first {x = x} span₁ g l covers = first_counted (rw (from-slot classes x l) at covers)

  pub reaches_end : {reach : List ℕ} {span : Span} {x : ℕ} (len : ℕ) → most ≡ suc (len - 1) → length classes ≤ x →
      ReachesBefore reach span x → Reaches len h cs reach
  unfolding fit
  reaches_end {reach} len is l g = record { counts = λ i e. rw (← is) (by i (eq-or-lt_of_le e)) }
    where
      slots : length cs ≡ length classes
      slots = length-map classes decode

      by : (i : ℕ) → (i ≡ length cs) ⊎ (i < length cs) → get_or reach i 0 ≡ fit (drop i cs) most h
      by i (inl e) = rw (e ∙ slots, from_end classes) g.last
      by i (inr e) = g.counts i (omega (arith, e, slots, l))

pub bounded : {len h : ℕ} {cs : List Class} {reach : List ℕ} → Reaches len h cs reach → Bounded reach (length cs)
unfolding fit
bounded {len} {h} {cs} r =
    record {
      last =
          r.counts (length cs) (le_refl _)
          ∙ ap (λ l. fit l (suc (len - 1)) h) (drop_of_length-le cs {i = length cs} (le_refl _));
      within = λ i l. omega (arith, r.counts i l, fits_in (drop i cs) (suc (len - 1)) h, length-drop i cs);
      later = λ i l.
          let here = r.counts i (omega arith) ∙ ap (λ l. fit l (suc (len - 1)) h) (drop-cons cs i under_only l) in
          let next = r.counts (i + 1) (omega arith) ∙ ap (λ k. fit (drop k cs) (suc (len - 1)) h) (add-one i) in
          omega (arith, here, next, fit-later (get_or cs i under_only) (drop (suc i) cs) (suc (len - 1)) h);
    }

-- the reaches end within the slots
pub within : (slots : Slots) (x : ℕ) → x ≤ length slots.classes.now →
    x + get_or slots.reach x 0 ≤ length slots.classes.now
within slots x l =
    let as_many = length-map slots.classes.now decode in
    omega (arith, as_many, (bounded slots.reaches).within x (omega (arith, as_many)))
