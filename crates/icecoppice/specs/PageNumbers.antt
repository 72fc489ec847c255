-- The answers of the paging for C, in numbers, and what these promise.
use Rattle.std.specs.Prelude.{ℕ, ◌≤◌, List, ◌≡◌}
use Rattle.refusals.specs.Answer.{Answer, refuses, gives}
use Rattle.refusals.specs.Numbers.{number, slot}
use Rattle.refusals.specs.declared.Refusal.{Refusal}
use Rattle.paging.specs.Paging.{Call, RefusedWith, Accepted, NextPlan, NoFurther, Result, Turns}
use Rattle.paging.specs.declared.Page.TheVariants.{Next as next, End as no_further}
use Rattle.icecoppice.specs.declared.pages.PageNumbers.{PageNumbers}

-- the code is 0 for a next plan, 1 for no further one, else the refusal's number; 31 also has its slot
abbrev pub page_numbers : Answer Result → PageNumbers
page_numbers (refuses r) = record { code = number r; slot = slot r }
page_numbers (gives next) = record { code = 0; slot = 0 }
page_numbers (gives no_further) = record { code = 1; slot = 0 }

-- The numbers are those of an answer that keeps the promise, with what the lent slice holds then. What a caller can tell
-- from them is `PageMeans` (proofs/PageMeans.antt).
pub record TurnsInNumbers (q : Call) (numbers : PageNumbers) (ms : List ℕ) : Type 0 where
  pub answer : Answer Result
  pub is : numbers ≡ page_numbers answer
  pub kept : Turns q answer ms

-- What a caller can tell from the numbers and the slice. Exactly one of the three cases applies, and no two of them
-- share a code.
pub record PageMeans (q : Call) (numbers : PageNumbers) (ms : List ℕ) : Type 0 where
  pub refusal : (f : Refusal) → RefusedWith q f →
      (numbers ≡ page_numbers (refuses f)) × (11 ≤ numbers.code) × (ms ≡ q.request.marks)
  pub next_plan : Accepted q → (ks : List ℕ) → NextPlan q.request q.given ks →
      (numbers ≡ page_numbers (gives next)) × (ms ≡ ks)
  pub end : Accepted q → NoFurther q.request q.given →
      (numbers ≡ page_numbers (gives no_further)) × (ms ≡ q.request.marks)
