-- What is kept from slot to slot of the least count over ends within reach, for `fast::row::refill` and `step`.
use Prim.Native.Nat.{ℕ, suc, ◌+◌, ◌-◌, ◌≤◌, ◌<◌, min}
use native.Mathlib.Nat.{le_refl}
use native.Mathlib.Numerals.{add-one}
use native.Mathlib.Omega.{arith}
use mathlib.Core.List.{List}
use mathlib.Core.Path.{◌≡◌, refl, ap, ◌∙◌}
use lib.ListN.{length, take, drop, get_or, set, length-drop, length-set}
use lib.Seq.{get_or-set_same, get_or-drop}
use Rattle.facts.proofs.Lists.{uncons, written-before}
use Rattle.requests.specs.Solution.{sentinel}
use Rattle.settings.specs.Refusals.{limit, places}
use Rattle.fast.proofs.Nearest.{nearest-cons, nearest-snoc, nearest-split}
use Rattle.fast.specs.Minima.{nearest, Minima, Serves, Stepped, least_kept}
use Rattle.fast.specs.declared.row.Near.{Near}

minima-none : (vs minima : List ℕ) → 0 < length minima → Minima vs 0 (set minima 0 sentinel)
minima-none vs minima e =
    record {
      least = λ k l.
          let none : k ≡ 0 = omega arith in
          rw none (get_or-set_same minima 0 sentinel 0 e);
    }

module _ (ends : List ℕ) (x : ℕ) where
  -- the minima of up to k ends from slot x on
  pub record MinimaTo (minima : List ℕ) (k : ℕ) : Type 0 where
    pub wide : length minima ≡ places
    pub filled : Minima (drop x ends) k minima

  pub minima-start : (minima : List ℕ) → length minima ≡ places → MinimaTo (set minima 0 sentinel) 0
  minima-start minima e =
      record { wide = length-set minima 0 sentinel ∙ e; filled = minima-none (drop x ends) minima (omega (arith, e)) }

  pub minima-step : (minima : List ℕ) (k v : ℕ) → length ends ≡ places → x + k < limit → MinimaTo minima k →
      v ≡ min (get_or minima k 0) (min sentinel (k + 1 + get_or ends (x + k) 0)) →
      MinimaTo (set minima (k + 1) v) (k + 1)
  minima-step minima k v e l m is =
      record {
        wide = length-set minima (k + 1) v ∙ m.wide;
        filled = record {
          least = λ j q.
              written-before (λ j y. y ≡ nearest 1 (take j (drop x ends))) minima (k + 1) v 0
              (omega (arith, l, m.wide)) (λ j q. m.filled.least j (omega arith)) here j (omega arith);
        };
      }
    where
      here : v ≡ nearest 1 (take (k + 1) (drop x ends))
      here =
          let last = nearest-snoc 1 k (drop x ends) (omega (arith, l, e, length-drop x ends)) in
          rw (is, m.filled.least k (le_refl k), ← (get_or-drop x ends k 0), ap (λ n. take n (drop x ends)) (add-one k))
          (omega (arith, last))

  pub minima-end : {minima : List ℕ} {k top : ℕ} → top ≤ k → MinimaTo minima k → Minima (drop x ends) top minima
  minima-end e m = record { least = λ j l. m.filled.least j (omega arith) }

one_more : {f g : ℕ} (d top : ℕ) → f ≤ suc g → g ≤ d + top → f ≤ d + 1 + top
one_more d top e l = omega arith

module _ {ends minima : List ℕ} {x f : ℕ} where
  -- a slot's own end is one near end more
  pub stepped-near : (near : Near) (v : ℕ) → x < length ends →
      v ≡ min (min sentinel (1 + get_or ends x 0)) (min sentinel (1 + near.least)) →
      Stepped ends x f near (record { ends = near.ends + 1; least = v }) minima minima
  stepped-near near v o is g e s =
      let first = uncons ends x 0 o in
      record {
        top = s.top;
        within = one_more near.ends s.top e s.within;
        known = rw first (omega (arith, s.known));
        near_least = rw (first, add-one near.ends, is, s.near_least) (nearest-cons near.ends _ _);
        later_least = rw (first, add-one near.ends) s.later_least;
      }

  pub serves-anew : Minima (drop x ends) f minima → Serves ends x f (record { ends = 0; least = sentinel }) minima
  serves-anew m =
      record {
        top = f;
        within = omega arith;
        known = omega arith;
        near_least = refl;
        later_least = m;
      }

  pub serves-least : {near : Near} → near.ends ≤ f → Serves ends x f near minima →
      least_kept f near minima ≡ nearest 1 (take f (drop x ends))
  serves-least {near} l s =
      rw (
        nearest-split near.ends f (drop x ends) l s.known,
        s.near_least,
        s.later_least.least (f - near.ends) (omega (arith, s.within)),
      )
      refl
