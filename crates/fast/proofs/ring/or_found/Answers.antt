-- `fast::ring::or_found` meets its contract: by its test.
use native.Mathlib.Omega.{arith}
use mathlib.Core.Path.{refl}
use borrow.Author.Tests.{le-leb, lt-leb}
use Rattle.fast.proofs.ring.or_found.Goals as goal

pub returns-then-found-most : goal.returns-then-found-most
returns-then-found-most c =
    let args = c.args in
    rw (le-leb args.found.thrift args.most (omega arith)) refl

pub returns : goal.returns
returns c =
    let args = c.args in
    rw (lt-leb args.found.thrift args.most (omega arith)) refl
