-- What `open` gives for a file, before its records are read, and what `range_at` gives for a place (document 01,
-- "Form 1, on the card" and "Where each refusal is checked").
use Rattle.std.specs.Prelude.{ℕ, ◌+◌, ◌-◌, cond, List, leb, pos, length}
use Rattle.refusals.specs.Answer.{Answer, answer}
use Rattle.rule.specs.Ranges.{range}
use Rattle.rule.specs.declared.Range.{Range}
use Rattle.form1.specs.Form1.{signed_at, trailer, distance, slots, settings, file_refusal}
use Rattle.form1.specs.declared.Contents.{Contents}

-- what the trailer says; the distance counts back from the trailer's start to the first record
abbrev pub contents : List ℕ → Contents
contents file = record { settings = settings file; n = slots file; start = trailer file - distance file }

-- the first of the refusals 11 to 16 that applies, or else these contents; the settings are not checked here
unfoldable pub opening : List ℕ → Answer Contents
opening file = answer (file_refusal file) (contents file)

-- the record at a place, its lowest and highest load; 0 and 0 where the file has no 8 bytes there, which document 01
-- leaves open
unfoldable pub range_at : (place : ℕ) → List ℕ → Range
range_at place file =
    cond (leb (place + 8) (length file)) (range (signed_at place file) (signed_at (place + 4) file))
    (range (pos 0) (pos 0))
