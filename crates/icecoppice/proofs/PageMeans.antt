-- What a caller can tell from the numbers of a page.
use Prim.Native.Nat.{ℕ}
use mathlib.Core.List.{List}
use mathlib.Core.Path.{◌≡◌, refl, ap, ◌∙◌}
use Rattle.refusals.proofs.Injective.{eleven-le-number}
use Rattle.refusals.specs.Answer.{Answer, refuses, gives}
use Rattle.paging.proofs.Decided.{decided}
use Rattle.paging.specs.Paging.{Call, Result, Turns}
use Rattle.paging.specs.declared.Page.TheVariants.{Next as next, End as no_further}
use Rattle.icecoppice.specs.PageNumbers.{page_numbers, TurnsInNumbers, PageMeans}
use Rattle.icecoppice.specs.declared.pages.PageNumbers.{PageNumbers}

pub page-means : {q : Call} {numbers : PageNumbers} {ms : List ℕ} → TurnsInNumbers q numbers ms →
    PageMeans q numbers ms
page-means {q} {numbers} {ms} a =
    record {
      refusal = λ f e.
          let (is, unaltered) = same (refuses f) q.request.marks (e, refl) in
          (is, rw is (eleven-le-number f), unaltered);
      next_plan = λ accepted ks first. same (gives next) ks (accepted, first);
      end = λ accepted none. same (gives no_further) q.request.marks (accepted, none, refl);
    }
  where
    same : (b : Answer Result) (ks : List ℕ) → Turns q b ks → (numbers ≡ page_numbers b) × (ms ≡ ks)
    same b ks turned =
        let (answer, marks) = decided q a.answer b ms ks a.kept turned in
        (a.is ∙ ap page_numbers answer, marks)
