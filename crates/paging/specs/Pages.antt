-- Every plan there is: "from empty to the end, each legal plan within both maximums appears once and no other string
-- does" (document 02, T-05).
use Rattle.std.specs.Prelude.{ℕ, ◌≤◌, List, [], ◌∷◌, ◌↔◌}
use Rattle.refusals.specs.Answer.{gives}
use Rattle.rule.specs.Order.{◌≺◌}
use Rattle.requests.specs.Request.{Request, slots, WellFormed, PlanOf}
use Rattle.paging.specs.Paging.{page_limit, call_of, next, no_further, Turns}

-- What calls hand back one after another, from given marks to the end: each call is given what the one before handed
-- back. The slice that is lent to a call may hold anything.
pub data Pages (r : Request) : (given : List ℕ) → List (List ℕ) → Type 0 where
  end : {given : List ℕ} (lent ms : List ℕ) →
      Turns (call_of r.settings r.lowest r.highest given lent) (gives no_further) ms → Pages r given []
  page : {given : List ℕ} (lent ms : List ℕ) {rest : List (List ℕ)} →
      Turns (call_of r.settings r.lowest r.highest given lent) (gives next) ms → Pages r ms rest →
      Pages r given (ms ∷ rest)

-- a list that rises strictly, from given marks on: no string is in it twice
abbrev pub Rising : (given : List ℕ) → List (List ℕ) → Type 0
Rising given [] = Unit
Rising given (ms ∷ rest) = (given ≺ ms) × Rising ms rest

infix 4 ◌∈◌
pub data ◌∈◌ (ms : List ℕ) : List (List ℕ) → Type 0 where
  here : {rest : List (List ℕ)} → ms ∈ (ms ∷ rest)
  there : {ks : List ℕ} {rest : List (List ℕ)} → ms ∈ rest → ms ∈ (ks ∷ rest)

-- the plans of a request, each once, and no other string
pub record EachOnce (r : Request) (pages : List (List ℕ)) : Type 0 where
  pub rising : Rising [] pages
  pub exact : (ms : List ℕ) → PlanOf r ms ↔ (ms ∈ pages)

-- the calls come to an end, and what they hand back are the plans
pub record Enumerated (r : Request) : Type 0 where
  pub ends : (pages : List (List ℕ)) × Pages r [] pages
  pub all : (pages : List (List ℕ)) → Pages r [] pages → EachOnce r pages

abbrev pub Enumerates : Type 0
Enumerates = (r : Request) → WellFormed r → slots r ≤ page_limit → Enumerated r
