-- `exhaustive::paged::strings` meets its contract: strings of bytes are those of at most 3 slots.
use native.Mathlib.Nat.{le_trans}
use native.Mathlib.Omega.{arith}
use Prim.Native.Nat.{◌≤◌, ◌^◌}
use Rattle.std.proofs.Math.Nat.{pow-le-pow_right}
use Rattle.exhaustive.proofs.paged.strings.Goals as goal

pub returns : goal.returns
returns c =
    let few : 6 ^ 3 ≤ 65536 = omega arith in
    le_trans c.byte_strings.ensures (le_trans (pow-le-pow_right (omega arith) c.if-request-gt3.false) few)
