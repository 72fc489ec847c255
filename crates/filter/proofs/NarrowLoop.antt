-- What a slot loses, and what is left of its range, for the functions of `filter::narrow`.
use Prim.Native.Nat.{ℕ, ◌+◌, ◌≤◌, ◌<◌}
use native.Mathlib.Omega.{arith}
use mathlib.Core.Bool.{Bool, true, false, cond, not}
use mathlib.Core.List.{List}
use mathlib.Core.Logic.{◌⊎◌, inl, inr}
use mathlib.Core.Path.{◌≡◌, refl, sym, ap, ◌∙◌, subst}
use borrow.Author.Tests.{eqb-false, not-true, not-false}
use lib.Dec.{eqb}
use lib.IntN.{ℤ, pos, suc_ℤ, ◌+ℤ◌, +ℤ_one}
use lib.ListN.{length, take, get_or, set, length-set}
use lib.Seq.{take-set-lt, length-take-le, map-set, ext_get_or, get_or-set_other}
use lib.Signed.{lt_z, ◌≤ℤ◌, ◌<ℤ◌}
use Rattle.facts.proofs.Integers.{le→lt-suc}
use Rattle.facts.proofs.Tests.{T→true}
use Rattle.rule.proofs.ClassCodes.{decode-0, decode-1, decode-other, decode_all-at}
use Rattle.rule.specs.ClassCodes.{decode, decode_all}
use Rattle.rule.specs.Ranges.{range, Class, under_only, over_only, either, class_of}
use Rattle.rule.specs.declared.Range.{Range}
use Rattle.settings.specs.declared.Settings.{Settings}
use Rattle.facts.proofs.Lists.{written-before}
use Rattle.requests.proofs.LossIsExact.{map_indexed-length, map_indexed-at, class-at, Ends, ends}
use Rattle.filter.specs.OpenIfLost.{OpenIfLost}
use Rattle.requests.specs.declared.Loss.{Loss}
use Rattle.requests.specs.declared.Loss.TheVariants.{Nothing as nothing, Under as under_part, Over as over_part}
use Rattle.requests.specs.Promise.{lowest_after, highest_after}
use Rattle.requests.specs.Request.{at}
use Rattle.requests.specs.Solution.{classes_of, possible, loss_of, loss, map_indexed}

module _ {k : ℤ} where
  -- the ends of an open slot's range, without the part that it loses
  pub next-end : {lo : ℤ} → lo ≤ℤ k → k +ℤ pos 1 ≡ lowest_after k under_part lo
  next-end {lo} l = rw (T→true (lt_z lo (suc_ℤ k)) (le→lt-suc l).lt) (+ℤ_one k)

  pub last_end : {hi : ℤ} → k <ℤ hi → k ≡ highest_after k over_part hi
  last_end {hi} l = rw (T→true (lt_z k hi) l.lt) refl

-- the classes with slot i settled to the class of byte m
module _ (codes : List ℕ) (n i m : ℕ) where
  pub settled : i < n → decode_all (take n (set codes i m)) ≡ set (decode_all (take n codes)) i (decode m)
  settled e = ap decode_all (take-set-lt n codes i m e) ∙ map-set decode (take n codes) i m

  pub settled-length : n ≤ length codes → length (take n (set codes i m)) ≡ n
  settled-length e = length-take-le n (set codes i m) (omega (arith, e, length-set codes i m))

-- what slot i loses, by its byte
module _ (s : Settings) (codes : List ℕ) (n i : ℕ) (there : i < n) where
  abbrev cs : List Class
  cs = decode_all (take n codes)

  abbrev byte : ℕ
  byte = get_or codes i 0

  pub settled-loss : (byte ≡ 0) ⊎ (byte ≡ 1) → nothing ≡ loss s cs i
  unfolding loss
  settled-loss (inl e) = rw (decode_all-at codes n i there, decode-0 byte e) refl
  settled-loss (inr e) = rw (decode_all-at codes n i there, decode-1 byte e) refl

  -- an open slot, by whether a plan is left with the slot settled on each side
  module _ (e : byte ≡ 0 → ⊥) (f : eqb byte 1 ≡ false) {u : Bool} (under : u ≡ possible s (set cs i (decode 0))) where
    by-sides : cond u (cond (possible s (set cs i (decode 1))) nothing over_part) under_part ≡ loss s cs i
    unfolding loss decode
    by-sides = rw (decode_all-at codes n i there, decode-other byte e (eqb-false byte 1 f), ← under) refl

    pub under-lost : not u ≡ true → under_part ≡ loss s cs i
    under-lost p = rw (not-true u p) at by-sides

    module _ (p : not u ≡ false) {o : Bool} (over : o ≡ possible s (set cs i (decode 1))) where
      pub over-lost : not o ≡ true → over_part ≡ loss s cs i
      over-lost q = rw (not-false u p, ← over, not-true o q) at by-sides

      pub none-lost : not o ≡ false → nothing ≡ loss s cs i
      none-lost q = rw (not-false u p, ← over, not-false o q) at by-sides

pub ruleset losses = (under-lost, over-lost, none-lost, arith)

-- the loss is a part, and not nothing; a slot that loses a part is open
abbrev Lost : Loss → Type 0
Lost nothing = ⊥
Lost under_part = Unit
Lost over_part = Unit

module _ (s : Settings) (los his : List ℤ) {cs : List Class} (is : cs ≡ classes_of s.k los his) (i : ℕ) where
  abbrev slot : Range
  slot = range (at los i) (at his i)

  open_at : (c : Class) → Ends s.k slot c → Lost (loss_of s cs i c) → Ends s.k slot either
  open_at under_only e l = absurd l
  open_at over_only e l = absurd l
  open_at either e l = e

  loses-at : (p : Loss) → (Lost p → Ends s.k slot either) → OpenIfLost s.k p (at los i) (at his i)
  loses-at nothing f = tt
  loses-at under_part f = f tt
  loses-at over_part f = f tt

  pub loses : (p : Loss) → p ≡ loss s cs i → i < length los → length his ≡ length los →
      OpenIfLost s.k p (at los i) (at his i)
  unfolding loss
  loses p e there wide =
      loses-at p (λ l. open_at (class_of s.k slot) (ends s.k slot) (subst Lost (e ∙ ap (loss_of s cs i) class) l))
    where
      class : get_or cs i under_only ≡ class_of s.k slot
      class = ap (λ cs. get_or cs i under_only) is ∙ class-at s.k los his i there (omega arith)

-- the loads ys are the loads xs, cut before slot i and not yet cut from there on
pub record CutBefore (f : ℕ → ℤ → ℤ) (xs ys : List ℤ) (i : ℕ) : Type 0 where
  pub wide : length ys ≡ length xs
  pub done : (j : ℕ) → j < i → at ys j ≡ f j (at xs j)
  pub rest : (j : ℕ) → i ≤ j → at ys j ≡ at xs j

module _ {f : ℕ → ℤ → ℤ} {xs : List ℤ} where
  pub cut-start : CutBefore f xs xs 0
  cut-start = record { wide = refl; done = λ j l. absurd (omega arith); rest = λ j l. refl }

  module _ (ys : List ℤ) (i : ℕ) (a : CutBefore f xs ys i) where
    pub cut_step : (v : ℤ) → i < length xs → v ≡ f i (at xs i) → CutBefore f xs (set ys i v) (i + 1)
    cut_step v e is =
        record {
          wide = length-set ys i v ∙ a.wide;
          done = written-before (λ j y. y ≡ f j (at xs j)) ys i v (pos 0) (omega (arith, a.wide)) a.done is;
          rest = λ j l. get_or-set_other ys i j v (pos 0) (omega (arith, l)) ∙ a.rest j (omega arith);
        }

    pub cut-end : length xs ≤ i → ys ≡ map_indexed f xs
    cut-end e =
        ext_get_or (pos 0) ys (map_indexed f xs) (a.wide ∙ sym (map_indexed-length f xs))
        (λ j l.
        let there : j < length xs = omega (arith, l, a.wide) in
        a.done j (omega arith) ∙ sym (map_indexed-at f xs j there))
