-- What `classify` and `complete` give for a well formed request.
use Prim.Native.Nat.{ℕ, ◌≤◌}
use native.Mathlib.Omega.{arith}
use mathlib.Core.List.{List}
use mathlib.Core.Path.{◌≡◌, sym, ap, ◌∙◌}
use lib.ListN.{length, take}
use lib.Seq.{sets, length-take-le}
use Rattle.drawing.proofs.Codes.{codes-wide, codes-decoded}
use Rattle.drawing.specs.Codes.{codes_of}
use Rattle.facts.proofs.Lists.{sets-all}
use Rattle.requests.proofs.DrawnPlan.{drawn_from-length}
use Rattle.requests.proofs.Formed.{formed-iff, class-slots}
use Rattle.requests.specs.Request.{Request, slots, WellFormed}
use Rattle.requests.specs.Solution.{sentinel, classes, completed}
use Rattle.rule.specs.ClassCodes.{decode_all}
use Rattle.settings.specs.Refusals.{limit}

module _ (r : Request) (well : WellFormed r) where
  short : slots r ≤ limit
  short = (formed-iff.0 well).pass.slots.1

  -- the bytes that `classify` gave, of which other functions are lent as many as there are slots
  module _ (codes : List ℕ) (is : codes ≡ codes_of (classes r)) where
    pub wide : length codes ≡ limit
    wide = ap length is ∙ codes-wide (classes r)

    pub whole : length (take (slots r) codes) ≡ slots r
    whole = length-take-le (slots r) codes (omega (arith, short, wide))

    pub whole-short : length (take (slots r) codes) ≤ limit
    whole-short = omega (arith, whole, short)

    pub by_codes : decode_all (take (slots r) codes) ≡ classes r
    by_codes =
        let n = class-slots r (formed-iff.0 well) in
        rw (is, ← n) (codes-decoded (classes r) (omega (arith, n, short)))

  -- there are as many marks as slots, so that what is drawn is all that they hold
  pub all-drawn : (front : List ℕ) → let plan = completed r.settings (classes r) front in sets r.marks 0 plan ≡ plan
  all-drawn front =
      let s = r.settings in
      let good = formed-iff.0 well in
      let drawn = drawn_from-length sentinel s.shape (classes r) front 0 s.windows.most s.covered.most in
      sets-all (completed s (classes r) front) r.marks (drawn ∙ class-slots r good ∙ sym good.marked)
