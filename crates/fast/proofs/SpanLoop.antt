-- Spans, with slots more at their end and without their first slot, for `fast::reach::extend` and `without_first`.
use Prim.Native.Nat.{ℕ, suc, ◌+◌, ◌-◌, ◌≤◌, ◌<◌}
use native.Mathlib.Numerals.{add-one}
use native.Mathlib.Omega.{arith}
use mathlib.Core.List.{List, ◌∷◌}
use mathlib.Core.Path.{◌≡◌, refl, sym, ap, ◌∙◌}
use lib.ListN.{length, take, drop, get_or, length-drop, length-map}
use lib.Seq.{get_or-drop}
use Rattle.rule.specs.ClassCodes.{decode, decode_all}
use Rattle.rule.specs.Ranges.{Class, under_only}
use Rattle.sides.proofs.Reach.{last-low, fit_is}
use Rattle.sides.specs.Reach.{low, lows, fit}
use Rattle.fast.proofs.FromSlot.{class-at}
use Rattle.fast.specs.Spans.{Covers}
use Rattle.fast.specs.declared.reach.Span.{Span}

module _ {r b : ℕ} {c : Class} {cs : List Class} {span : Span} (covers : Covers r b (c ∷ cs) span) where
  counted-tail : (k : ℕ) → span.slots ≡ suc k → span.bridges ≡ low c + lows (take k cs)
  counted-tail k e = covers.counted ∙ ap (λ n. lows (take n (c ∷ cs))) e

  -- the bridges of a span that is not empty are those of its first slot and of the others
  pub first_counted : 1 ≤ span.slots → low c ≤ span.bridges
  first_counted e = omega (arith, counted-tail (span.slots - 1) (omega arith))

  pub covers-tail : (k z : ℕ) → span.slots ≡ suc k → z ≡ span.bridges - low c →
      Covers r b cs (record { slots = k; bridges = z })
  covers-tail k z e is =
      record {
        inside = omega (arith, e, covers.inside);
        within = omega (arith, e, covers.within);
        counted = omega (arith, is, counted-tail k e);
        enough = omega (arith, is, covers.enough);
      }

  pub covers-empty : span.slots ≡ 0 → Covers r b cs span
  covers-empty e =
      record {
        inside = omega (arith, e);
        within = covers.within;
        counted = rw e (covers.counted ∙ ap (λ n. lows (take n (c ∷ cs))) e);
        enough = covers.enough;
      }

module _ (len h : ℕ) (classes : List ℕ) (x : ℕ) where
  abbrev from : List Class
  from = drop x (decode_all classes)

  -- a span that goes from slot x up to slot i
  pub record SpanTo (k z i : ℕ) : Type 0 where
    pub place : i ≡ x + k
    pub covers : Covers len h from (record { slots = k; bridges = z })

  module _ {k z i : ℕ} (s : SpanTo k z i) where
    next_low : i < length classes → lows (take (suc k) from) ≡ z + low (decode (get_or classes i 0))
    next_low l =
        let class : get_or from k under_only ≡ decode (get_or classes i 0) =
        get_or-drop x (decode_all classes) k under_only ∙ rw (← s.place) (class-at classes i) in
        let there : k < length from =
        omega (arith, l, s.place, length-drop x (decode_all classes), length-map classes decode) in
        last-low from k there ∙ rw (class, ← s.covers.counted) refl

    pub span-step : (more : ℕ) → i < length classes → k < len → more ≡ low (decode (get_or classes i 0)) →
        more ≤ h - z → SpanTo (k + 1) (z + more) (i + 1)
    span-step more l e is f =
        record {
          place = omega (arith, s.place);
          covers = record {
            inside = omega (arith, l, s.place, length-drop x (decode_all classes), length-map classes decode);
            within = omega arith;
            counted = rw (ap (λ n. take n from) (add-one k)) (omega (arith, is, next_low l));
            enough = omega (arith, s.covers.enough);
          };
        }

    -- as many slots as a window can cover
    span-end : (suc k ≤ len → suc k ≤ length from → h < lows (take (suc k) from)) → k ≡ fit from len h
    span-end stop =
        let c = s.covers in
        sym (fit_is from k len h c.within (omega (arith, c.counted, c.enough)) c.inside stop)

    pub span-full : k ≡ len → k ≡ fit from len h
    span-full e = span-end (λ p q. absurd (omega arith))

    pub span-stopped : (more : ℕ) → i < length classes → more ≡ low (decode (get_or classes i 0)) → h - z < more →
        k ≡ fit from len h
    span-stopped more l is f = span-end (λ p q. omega (arith, is, f, next_low l))

    pub span_last : length classes ≤ i → k ≡ fit from len h
    span_last l =
        span-end λ p q.
        absurd (omega (arith, q, l, s.place, length-drop x (decode_all classes), length-map classes decode))
