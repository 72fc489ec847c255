-- `buffer::put_bytes` meets its contract: what fits is stored at once (`Written`).
use Prim.Native.Nat.{◌+◌, ◌-◌}
use native.Mathlib.Nat.{le_refl}
use native.Mathlib.Omega.{arith}
use mathlib.Core.Path.{◌≡◌}
use lib.ListN.{length}
use lib.Seq.{drop-drop, take_all}
use Rattle.buffer.proofs.Written.{written-fitting}
use Rattle.buffer.proofs.put_bytes.Goals as goal

pub returns-then-bytes-room : goal.returns-then-bytes-room
returns-then-bytes-room c =
    let bytes = c.args.bytes.now in
    let start = c.min-start.result in
    let n = length bytes in
    let long : start + n - start ≡ n = omega arith in
    rw (c.copy_from_slice.ensures.after, long, drop-drop n start c.args.out.now)
    (rw (take_all n bytes (le_refl n)) at (written-fitting {bytes = bytes} {n = n} c.min-start.ensures (omega arith)))

pub returns : goal.returns
returns c =
    let out = c.args.out.now in
    let start = c.min-start.result in
    let n = length out - start in
    let whole : start + n ≡ length out = omega arith in
    rw (c.copy_from_slice-2.ensures.after, drop-drop n start out, whole)
    (rw whole at (written-fitting {bytes = c.args.bytes.now} {n = n} c.min-start.ensures (omega arith)))
