-- The text of an answer, in bytes of ASCII (document 01, "What the plan printer writes").
use Prim.Native.Char.{code}
use Rattle.std.specs.Prelude.{ℕ, zero, suc, ◌+◌, ◌-◌, ◌*◌, ◌/◌, ◌%◌, ◌≤◌, cond, List, [], ◌∷◌, ◌++◌, ◌≡◌, eqb, ltb, ℤ, pos, negsuc, get_or}
use Prim.Native.String.{String}
use Prim.Native.String as string
use Rattle.refusals.specs.Answer.{Answer, refuses, gives}
use Rattle.refusals.specs.Numbers.{number, slot}
use Rattle.refusals.specs.declared.Refusal.{Refusal}
use Rattle.settings.specs.Refusals.{limit}
use Rattle.settings.specs.declared.CountRange.{CountRange}
use Rattle.requests.specs.Promise.{Result, no_plan, planned, Outcome}

-- the bytes of a text of ASCII
abbrev pub ascii : String → List ℕ
ascii string.[] = []
ascii (string.◌∷◌ c s) = code c ∷ ascii s

-- Numbers are decimal, without leading zeros: one digit, or the digits of n / 10 and one more. There n / 10 is
-- smaller than n, so n turns are enough. The digit 0 is the byte 48.
unfoldable pub digits : (turns n : ℕ) → List ℕ
digits zero n = (48 + n) ∷ []
digits (suc turns) n = cond (ltb n 10) ((48 + n) ∷ []) (digits turns (n / 10) ++ ((48 + n % 10) ∷ []))

unfoldable pub decimal : ℕ → List ℕ
decimal n = digits n n

-- the number that digits say; `before` is what the digits before them say
abbrev pub value : (before : ℕ) (ds : List ℕ) → ℕ
value n [] = n
value n (d ∷ ds) = value (n * 10 + (d - 48)) ds

abbrev pub Digits : List ℕ → Type 0
Digits [] = Unit
Digits (d ∷ ds) = (48 ≤ d) × (d ≤ 57) × Digits ds

-- What `decimal` gives (proofs/Decimals.antt).
pub record Decimal (n : ℕ) : Type 0 where
  pub only_digits : Digits (decimal n)
  pub says : value 0 (decimal n) ≡ n
  pub no_leading_zero : 1 ≤ n → 49 ≤ get_or (decimal n) 0 48

-- a negative number has a minus sign before its digits
unfoldable pub signed : ℤ → List ℕ
signed (pos n) = decimal n
signed (negsuc n) = ascii "-" ++ decimal (suc n)

-- one space stands between fields, and each line ends with a line feed
unfoldable pub line : List (List ℕ) → List ℕ
line [] = ascii "\n"
line (field ∷ []) = field ++ ascii "\n"
line (field ∷ next ∷ fields) = field ++ (ascii " " ++ line (next ∷ fields))

-- the line of a count range: its word, its least, its most
unfoldable pub counts_line : (word : List ℕ) → CountRange → List ℕ
counts_line word range = line (word ∷ decimal range.least ∷ decimal range.most ∷ [])

-- the line of the thrift (document 02, T-02)
unfoldable pub thrift_line : ℕ → List ℕ
thrift_line thrift = line (ascii "thrift" ∷ decimal thrift ∷ [])

-- the line of a slot: its number, lowest load, highest load and mark
unfoldable pub slot_line : (i : ℕ) (lowest highest : ℤ) (mark : ℕ) → List ℕ
slot_line i lo hi m = line (decimal i ∷ signed lo ∷ signed hi ∷ decimal m ∷ [])

-- the lines of the slots from number i on. The filter hands back lists of one length; of other lists the shortest
-- decides how many lines there are
unfoldable pub slot_lines : (i : ℕ) (lowest highest : List ℤ) (marks : List ℕ) → List ℕ
slot_lines i [] his ms = []
slot_lines i (lo ∷ los) [] ms = []
slot_lines i (lo ∷ los) (hi ∷ his) [] = []
slot_lines i (lo ∷ los) (hi ∷ his) (m ∷ ms) = slot_line i lo hi m ++ slot_lines (suc i) los his ms

-- on a refusal, `refused` and the refusal's number, and for 31 also `slot` and the slot's number
unfoldable pub refusal_line : Refusal → List ℕ
refusal_line r =
    cond
    (eqb (number r) 31)
    (line (ascii "refused" ∷ decimal (number r) ∷ ascii "slot" ∷ decimal (slot r) ∷ []))
    (line (ascii "refused" ∷ decimal (number r) ∷ []))

-- on "planned", the lines of both count ranges and of the thrift, then those of the slots
unfoldable pub answer_text : Answer Result → (lowest highest : List ℤ) (marks : List ℕ) → List ℕ
answer_text (refuses r) los his ms = refusal_line r
answer_text (gives no_plan) los his ms = line (ascii "no plan" ∷ [])
answer_text (gives (planned n)) los his ms =
    counts_line (ascii "windows") n.windows
    ++ (counts_line (ascii "covered") n.covered ++ (thrift_line n.thrift ++ slot_lines 0 los his ms))

-- the whole text
unfoldable pub text : Outcome → List ℕ
text o = answer_text o.answer o.lowest o.highest o.marks

-- A bound on the length of a slot's line: a number of 3 digits, two loads of 11 bytes, a mark of 3 digits, and a byte
-- after each.
abbrev pub max_line_length : ℕ
max_line_length = 32

-- A bound on the length of an answer's text with at most `limit` slots: three lines of counts of 5 digits, and the
-- lines of the slots.
abbrev pub max_length : ℕ
max_length = 53 + max_line_length * limit
