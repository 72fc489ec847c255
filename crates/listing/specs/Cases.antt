-- Texts of answers, compared with what documents 01 and 02 print: case A, "no plan", refusals, and the least and the
-- greatest load of 32 bits. They are computed in proofs/Cases.antt.
use Rattle.std.specs.Prelude.{[], ◌∷◌, ◌≡◌, pos, negsuc}
use Rattle.refusals.specs.Answer.{gives}
use Rattle.refusals.specs.declared.Refusal.TheVariants.{FirstLength, Crossed}
use Rattle.requests.specs.Cases.{◌‥◌, loads, counts}
use Rattle.requests.specs.Promise.{no_plan, planned}
use Rattle.listing.specs.Text.{ascii, slot_line, refusal_line, answer_text, text}

pub record Cases : Type 0 where
  pub case_a : text
      (record {
        answer = gives (planned (counts (1 ‥ 1) (3 ‥ 4) 3));
        lowest = loads (1 ∷ 1 ∷ 5 ∷ 0 ∷ []);
        highest = loads (3 ∷ 4 ∷ 5 ∷ 0 ∷ []);
        marks = 1 ∷ 2 ∷ 2 ∷ 0 ∷ [];
      })
      ≡ ascii "windows 1 1\ncovered 3 4\nthrift 3\n0 1 3 1\n1 1 4 2\n2 5 5 2\n3 0 0 0\n"
  pub ends_of_the_loads : slot_line 63 (negsuc 2147483647) (pos 2147483647) 255 ≡ ascii "63 -2147483648 2147483647 255\n"
  pub of_no_plan : answer_text (gives no_plan) [] [] [] ≡ ascii "no plan\n"
  pub refusal_21 : refusal_line FirstLength ≡ ascii "refused 21\n"
  pub refusal_31 : refusal_line (Crossed 12) ≡ ascii "refused 31 slot 12\n"
