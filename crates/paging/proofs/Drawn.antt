-- The first plan that begins with a front, drawn into a slice that has as many places as the request has slots.
use Prim.Native.Nat.{ℕ}
use native.Mathlib.Omega.{arith}
use mathlib.Core.List.{List}
use mathlib.Core.Path.{◌≡◌, sym, ap, ◌∙◌}
use lib.IntN.{ℤ}
use lib.ListN.{length, take, length-map}
use lib.Seq.{sets, take_all}
use Rattle.facts.proofs.Lists.{sets-all}
use Rattle.requests.proofs.ChosenIn.{paired-length}
use Rattle.requests.proofs.DrawnPlan.{drawn_from-length}
use Rattle.requests.specs.Request.{paired}
use Rattle.requests.specs.Solution.{sentinel, classes_of, completed}
use Rattle.rule.specs.ClassCodes.{decode, decode_all}
use Rattle.rule.specs.Ranges.{class_of}
use Rattle.settings.specs.Refusals.{limit}
use Rattle.settings.specs.declared.Settings.{Settings}
use Rattle.paging.specs.Parting.{Ready}

module _ {s : Settings} {los his : List ℤ} {codes : List ℕ} (ready : Ready s los his codes) where
  class-slots : length (classes_of s.k los his) ≡ length los
  class-slots = length-map (paired los his) (class_of s.k) ∙ paired-length los his (sym ready.width)

  -- there is a byte for each slot
  all_slots : take limit codes ≡ codes
  all_slots =
      let slots : length codes ≡ length los = sym (length-map codes decode) ∙ ap length ready.classes ∙ class-slots in
      take_all limit codes (omega (arith, ready.short))

  pub drawn-all : (front before : List ℕ) {marks : List ℕ} → length before ≡ length los →
      marks ≡ sets before 0 (completed s (decode_all (take limit codes)) front) →
      marks ≡ completed s (classes_of s.k los his) front
  drawn-all front before same is =
      let drawn = drawn_from-length sentinel s.shape (classes_of s.k los his) front 0 s.windows.most s.covered.most in
      rw (all_slots, ready.classes) at is ∙ sets-all (completed s (classes_of s.k los his) front) before (drawn ∙ class-slots ∙ sym same)
