-- How long a text can be, by the types of its numbers: at most `max_length`.
use Prim.Native.Nat.{ℕ, suc, ◌+◌, ◌*◌, ◌≤◌, ◌<◌, ◌^◌}
use native.Mathlib.Omega.{arith}
use mathlib.Core.List.{List, [], ◌∷◌, ◌++◌}
use mathlib.Core.Path.{◌≡◌}
use lib.IntN.{ℤ, pos, negsuc}
use lib.ListN.{length, length-append}
use mir.Syntax.{w32}
use mir.Val.{SFits}
use Rattle.settings.specs.declared.CountRange.{CountRange}
use Rattle.refusals.specs.Answer.{gives}
use Rattle.requests.specs.Promise.{no_plan, planned}
use Rattle.requests.specs.declared.PlanCounts.{PlanCounts}
use Rattle.settings.specs.Refusals.{limit}
use Rattle.listing.proofs.Decimals.{digits-at-most}
use Rattle.listing.specs.Text.{ascii, decimal, signed, line, counts_line, thrift_line, slot_line, slot_lines}
use Rattle.listing.specs.Text.{answer_text, max_line_length, max_length}

-- each field takes one byte more, which ends it
abbrev fields_length : List (List ℕ) → ℕ
fields_length [] = 0
fields_length (field ∷ fields) = length field + 1 + fields_length fields

line-length : (field : List ℕ) (fields : List (List ℕ)) → length (line (field ∷ fields)) ≡ fields_length (field ∷ fields)
unfolding line
line-length field [] = omega (arith, length-append field (10 ∷ []))
line-length field (next ∷ fields) =
    omega (arith, length-append field (32 ∷ line (next ∷ fields)), line-length next fields)

signed-short : (z : ℤ) → SFits w32 z → length (signed z) ≤ 11
unfolding signed
signed-short (pos n) f = let bounded : n < 2147483648 = f.sfits in omega (arith, digits-at-most n 9 (omega arith))
signed-short (negsuc n) f =
    let bounded : n < 2147483648 = f.sfits in
    omega (arith, digits-at-most (suc n) 9 (omega arith))

pub slot_line-short : (i : ℕ) (lo hi : ℤ) (m : ℕ) → i < limit → SFits w32 lo → SFits w32 hi → m < 256 →
    length (slot_line i lo hi m) ≤ max_line_length
unfolding slot_line
slot_line-short i lo hi m bound f g mark =
    omega (
      arith,
      line-length (decimal i) (signed lo ∷ signed hi ∷ decimal m ∷ []),
      digits-at-most i 2 (omega arith),
      signed-short lo f,
      signed-short hi g,
      digits-at-most m 2 (omega arith),
    )

counts_line-short : (word : List ℕ) (range : CountRange) → length word ≤ 7 → range.least < 65536 → range.most < 65536 →
    length (counts_line word range) ≤ 20
unfolding counts_line
counts_line-short word range bound f g =
    omega (
      arith,
      line-length word (decimal range.least ∷ decimal range.most ∷ []),
      digits-at-most range.least 4 (omega arith),
      digits-at-most range.most 4 (omega arith),
    )

-- the line of a word and one number
count-short : (word : List ℕ) (n : ℕ) → n < 65536 → length (line (word ∷ decimal n ∷ [])) ≤ length word + 7
count-short word n bound = omega (arith, line-length word (decimal n ∷ []), digits-at-most n 4 (omega arith))

pub refusal_line-short : (code : ℕ) → code < 65536 → length (line (ascii "refused" ∷ decimal code ∷ [])) ≤ max_length
refusal_line-short code bound = omega (arith, count-short (ascii "refused") code bound)

pub crossed_line-short : (code i : ℕ) → code < 65536 → i < 2 ^ 64 →
    length (line (ascii "refused" ∷ decimal code ∷ ascii "slot" ∷ decimal i ∷ [])) ≤ max_length
crossed_line-short code i bound g =
    omega (
      arith,
      line-length (ascii "refused") (decimal code ∷ ascii "slot" ∷ decimal i ∷ []),
      digits-at-most code 4 (omega arith),
      digits-at-most i 19 (omega arith),
    )

pub no-plan-short : length (answer_text (gives no_plan) [] [] []) ≤ max_length
unfolding answer_text
no-plan-short = omega (arith, line-length (ascii "no plan") [])

-- both counts of a range fit into 16 bits
abbrev Fits16 : CountRange → Type 0
Fits16 range = (range.least < 65536) × (range.most < 65536)

pub planned-short : (n : PlanCounts) (los his : List ℤ) (ms : List ℕ) → Fits16 n.windows → Fits16 n.covered →
    n.thrift < 65536 → length (slot_lines 0 los his ms) ≤ max_line_length * limit →
    length (answer_text (gives (planned n)) los his ms) ≤ max_length
unfolding answer_text thrift_line
planned-short n los his ms (wl, wm) (cl, cm) t bound =
    let thrift = thrift_line n.thrift in
    omega (
      arith,
      length-append (counts_line (ascii "windows") n.windows)
          (counts_line (ascii "covered") n.covered ++ (thrift ++ slot_lines 0 los his ms)),
      length-append (counts_line (ascii "covered") n.covered) (thrift ++ slot_lines 0 los his ms),
      length-append thrift (slot_lines 0 los his ms),
      counts_line-short (ascii "windows") n.windows (omega arith) wl wm,
      counts_line-short (ascii "covered") n.covered (omega arith) cl cm,
      count-short (ascii "thrift") n.thrift t,
    )
