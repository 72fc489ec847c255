-- What is printed for a file (document 01, "What the plan printer writes").
use Rattle.std.specs.Prelude.{ℕ, ◌≤◌, List, ◌≡◌, ℤ, pos, length, take, replicate}
use Rattle.refusals.specs.Answer.{Answer, refuses, gives}
use Rattle.card.specs.Reading.{reading}
use Rattle.card.specs.declared.Header.{Header}
use Rattle.buffer.specs.Written.{Written}
use Rattle.listing.specs.Text.{text}
use Rattle.requests.specs.Promise.{Outcome, Keeps}
use Rattle.requests.specs.Request.{request_of}
use Rattle.settings.specs.Refusals.{limit}

-- how many bytes of standard input are held at most
abbrev pub held_bytes : ℕ
held_bytes = 4097

-- the buffer holds the whole text of an outcome of which P holds, and `end` is where the text ends
pub record Printed (P : Outcome → Type 0) (before after : List ℕ) (end : ℕ) : Type 0 where
  pub outcome : Outcome
  pub holds : P outcome
  pub written : Written (text outcome) 0 before after end
  pub fits : length (text outcome) ≤ length before

-- the outcome is a refusal of the reader, or what the filter hands back for what was read into the first n places of
-- the slices
abbrev pub OfReading : Answer Header → (lowest highest : List ℤ) (marks : List ℕ) → Outcome → Type 0
OfReading (refuses r) los his ms o = o.answer ≡ refuses r
OfReading (gives header) los his ms o =
    Keeps (request_of header.settings (take header.n los) (take header.n his) (take header.n ms)) o

abbrev pub OfFile : (file : List ℕ) (lowest highest : List ℤ) (marks : List ℕ) → Outcome → Type 0
OfFile file los his ms = let r = reading file los his in OfReading r.answer r.lowest r.highest ms

-- the slices that the printer lends
abbrev pub loads : List ℤ
loads = replicate limit (pos 0)

abbrev pub marks : List ℕ
marks = replicate limit 0
