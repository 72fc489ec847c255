-- What is known of a call that meets no refusal but 35.
use Prim.Native.Nat.{ℕ, ◌≤◌}
use mathlib.Core.Bool.{Bool, true, false, not, ◌&&◌, ◌||◌}
use mathlib.Core.List.{List}
use mathlib.Core.Option.{none}
use mathlib.Core.Path.{◌≡◌, refl}
use borrow.Author.Tests.{ltb-false, le-ltb, eqb-false, ne_eqb}
use lib.Dec.{eqb}
use lib.ListN.{length, take}
use Rattle.drawing.proofs.OfRequest.{by_codes}
use Rattle.drawing.specs.Codes.{codes_of}
use Rattle.facts.proofs.Tests.{or-false→both}
use Rattle.refusals.proofs.Table.{first-none-row, first-none-check}
use Rattle.refusals.specs.Table.{row, first}
use Rattle.requests.proofs.Formed.{Formed, formed-iff, passes→accepted}
use Rattle.requests.specs.Request.{Request, slots, request_refusal, filter_refusal}
use Rattle.requests.specs.Solution.{classes}
use Rattle.settings.proofs.Accepted.{accepted-iff, differs_false}
use Rattle.settings.specs.Refusals.{differs, refusal, lengths_refusal}
use Rattle.paging.specs.Paging.{page_limit, Call, too_many_slots, marks_differ, checks_refusal, checked, Accepted}
use Rattle.paging.specs.Parting.{Ready}

pub record Passed (q : Call) : Type 0 where
  pub formed : Formed q.request
  pub short : slots q.request ≤ page_limit
  pub as_long : (length q.given ≡ 0 → ⊥) → length q.given ≡ slots q.request

-- the empty slice is exempt
exempt : (n given : ℕ) → (not (eqb given 0) && differs n given) ≡ false → (given ≡ 0 → ⊥) → given ≡ n
exempt n given e some = (differs_false n given).0 (rw (ne_eqb given 0 some) at e)

pub passes→passed : (q : Call) → checked q ≡ none → Passed q
unfolding checks_refusal too_many_slots marks_differ
passes→passed q e =
    let r = q.request in
    let (_, e) = first-none-check _ _ e in
    let (few, e) = first-none-row _ _ _ e in
    let (pass, _) = first-none-check _ _ e in
    let (accepted, width, same, proper) = passes→accepted r.settings r.lowest r.highest pass in
    let (given, marked) = or-false→both _ _ same in
    record {
      formed = record {
        pass = accepted;
        width = width;
        marked = (differs_false _ _).0 marked;
        proper = proper;
      };
      short = ltb-false page_limit (slots r) few;
      as_long = exempt (slots r) (length q.given) given;
    }

exempted : (n given : ℕ) → ((given ≡ 0 → ⊥) → given ≡ n) → (not (eqb given 0) && differs n given) ≡ false
exempted n given as_long = by (eqb given 0) refl
  where
    by : (b : Bool) → eqb given 0 ≡ b → (not b && differs n given) ≡ false
    by true zero = refl
    by false some = (differs_false n given).1 (as_long (eqb-false given 0 some))

-- no check of lengths refuses what no check of a request does
lengths-pass : (r : Request) (different : Bool) → request_refusal r.settings r.lowest r.highest different ≡ none →
    lengths_refusal (slots r) (differs (slots r) (length r.highest) || different) ≡ none
unfolding request_refusal refusal
lengths-pass r different e = (first-none-check _ _ (first-none-check _ _ e).0).0

pub accepted→passed : {q : Call} → Accepted q → Passed q
accepted→passed {q} a = passes→passed q a.passes

pub passed→passes : (q : Call) → Passed q → checked q ≡ none
unfolding checks_refusal too_many_slots marks_differ first row filter_refusal
passed→passes q p =
    let r = q.request in
    let n = slots r in
    let well = formed-iff.1 p.formed in
    let marked = (differs_false n (length r.marks)).1 p.formed.marked in
    rw (
      exempted n (length q.given) p.as_long,
      lengths-pass r (differs n (length r.marks)) well,
      le-ltb page_limit n p.short,
      well,
    )

-- the bytes that `classify` gives stand for the classes
pub passed→ready : (q : Call) → Passed q → (codes : List ℕ) → codes ≡ codes_of (classes q.request) →
    let r = q.request in
    Ready r.settings r.lowest r.highest (take (slots r) codes)
passed→ready q p codes is =
    let r = q.request in
    record {
      accepted = accepted-iff.1 (refl, p.formed.pass);
      width = p.formed.width;
      short = p.short;
      classes = by_codes r (formed-iff.1 p.formed) codes is;
    }
