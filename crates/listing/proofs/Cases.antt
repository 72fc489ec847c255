-- What specs/Cases.antt states, computed.
use native.Mathlib.Omega.{arith}
use mathlib.Core.Path.{◌≡◌, refl}
use lib.IntN.{pos, negsuc}
use Rattle.listing.proofs.Decimals.{turns-enough}
use Rattle.listing.specs.Cases.{Cases}
use Rattle.listing.specs.Text.{ascii, digits, decimal, signed, line, counts_line, thrift_line, slot_line}
use Rattle.listing.specs.Text.{slot_lines, refusal_line, answer_text, text}

-- `decimal` is not unfolded here: it would count down from numbers as large as these
ends_of_the_loads : slot_line 63 (negsuc 2147483647) (pos 2147483647) 255 ≡ ascii "63 -2147483648 2147483647 255\n"
unfolding digits signed line slot_line
ends_of_the_loads =
    rw (
      turns-enough 63 1 (omega arith),
      turns-enough 2147483648 9 (omega arith),
      turns-enough 2147483647 9 (omega arith),
      turns-enough 255 2 (omega arith),
    ) refl

pub cases : Cases
unfolding digits decimal signed line counts_line thrift_line slot_line slot_lines refusal_line answer_text text
cases =
    record {
      case_a = refl;
      ends_of_the_loads = ends_of_the_loads;
      of_no_plan = refl;
      refusal_21 = refl;
      refusal_31 = refl;
    }
