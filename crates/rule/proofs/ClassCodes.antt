-- Classes as bytes: what the tests of a byte say of its class.
use Prim.Native.Nat.{ℕ, ◌<◌}
use mathlib.Core.Bool.{Bool, true, false, cond}
use mathlib.Core.List.{List}
use mathlib.Core.Path.{◌≡◌, refl, ap, ◌∙◌}
use borrow.Author.Tests.{eq-eqb, ne_eqb}
use lib.Dec.{eqb}
use lib.ListN.{take, get_or, get_or-map}
use lib.Seq.{get_or-take}
use Rattle.facts.proofs.Tests.{rules}
use Rattle.rule.specs.Ranges.{Class, under_only, over_only, either, allows}
use Rattle.rule.specs.Rule.{goes_with}
use Rattle.rule.specs.ClassCodes.{code, decode, decode_all}

-- the byte of a class decodes to that class
pub decode-code : (c : Class) → decode (code c) ≡ c
unfolding decode
decode-code under_only = refl
decode-code over_only = refl
decode-code either = refl

module _ (m : ℕ) where
  pub decode-0 : m ≡ 0 → decode m ≡ under_only
  unfolding decode
  decode-0 e = rw (eq-eqb m 0 e)

  pub decode-1 : m ≡ 1 → decode m ≡ over_only
  unfolding decode
  decode-1 e = rw e refl

  pub decode-other : (m ≡ 0 → ⊥) → (m ≡ 1 → ⊥) → decode m ≡ either
  unfolding decode
  decode-other e f = rw (ne_eqb m 0 e, ne_eqb m 1 f) refl

  -- a slot that is not under only can be over
  pub can-be-over : (m ≡ 0 → ⊥) → allows (decode m) 2 ≡ true
  unfolding decode allows goes_with
  can-be-over e = rw (ne_eqb m 0 e) (by (eqb m 1))
    where
      by : (b : Bool) → allows (cond b over_only either) 2 ≡ true
      by true = refl
      by false = refl

  pub cannot-be-over : m ≡ 0 → allows (decode m) 2 ≡ false
  unfolding allows goes_with
  cannot-be-over e = rw (decode-0 e) refl

  -- a slot that is not over only can be uncovered
  pub can-be-uncovered : (m ≡ 1 → ⊥) → allows (decode m) 0 ≡ true
  unfolding decode allows goes_with
  can-be-uncovered e = rw (ne_eqb m 1 e) (by (eqb m 0))
    where
      by : (b : Bool) → allows (cond b under_only either) 0 ≡ true
      by true = refl
      by false = refl

  pub cannot-be-uncovered : m ≡ 1 → allows (decode m) 0 ≡ false
  unfolding allows goes_with
  cannot-be-uncovered e = rw (decode-1 e) refl

-- the class of a slot, from its byte
pub decode_all-at : (codes : List ℕ) (n i : ℕ) → i < n →
    get_or (decode_all (take n codes)) i under_only ≡ decode (get_or codes i 0)
unfolding decode
decode_all-at codes n i e = get_or-map decode (take n codes) i 0 ∙ ap decode (get_or-take n codes i 0 e)

pub ruleset class-codes = (can-be-over, cannot-be-over, can-be-uncovered, cannot-be-uncovered, rules)
