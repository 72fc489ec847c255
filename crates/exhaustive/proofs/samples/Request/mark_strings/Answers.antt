-- `exhaustive::samples::Request::mark_strings` meets its contract: a request has at most 8 slots.
use native.Mathlib.Nat.{le_trans}
use native.Mathlib.Omega.{arith}
use Rattle.std.proofs.Math.Nat.{pow-le-pow_right}
use Rattle.exhaustive.proofs.samples.Request.mark_strings.Goals as goal

pub returns : goal.returns
returns c = le_trans c.strings.ensures (pow-le-pow_right (omega arith) c.args.self.now.small)
