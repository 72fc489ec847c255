-- `fast::sweep::further` meets its contract: sums that are at most `most` are below the sentinel.
use native.Mathlib.Omega.{arith}
use Rattle.fast.proofs.sweep.further.Goals as goal

pub returns : goal.returns
returns c = λ less reaches starts row n reach count behind.
    let met = c.furthest.ensures in
    record {
      no_nearer = met.no_nearer;
      met = λ more.
          let (order, within, short) = met.met more in
          record { order = order; reaches = omega (arith, reach); short = omega (arith, count) };
      furthest = λ e together fits.
          met.furthest e fits.order (omega (arith, fits.reaches, reach)) (omega (arith, fits.short, count));
    }
