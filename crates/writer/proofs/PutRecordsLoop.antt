-- Records put one after another (the loop of `writer::put_records`).
use Prim.Native.Nat.{ℕ, ◌≤◌}
use native.Mathlib.Omega.{arith}
use mathlib.Core.List.{List, [], ◌∷◌, flat_map}
use mathlib.Core.Path.{◌≡◌, refl}
use lib.IntN.{ℤ}
use lib.ListN.{length}
use Rattle.buffer.proofs.Written.{LeftToWrite, left-start, left_step, written-nil, written-length}
use Rattle.buffer.specs.Written.{Written}
use Rattle.rule.specs.Ranges.{range}
use Rattle.form1.specs.Layout.{record_bytes}
use Rattle.requests.specs.Request.{paired}

-- the bytes of all records
abbrev records : (los his : List ℤ) → List ℕ
records los his = flat_map record_bytes (paired los his)

-- the records of the loads in los' and his' are left to write
pub record RecordsLeft (los his : List ℤ) (before : List ℕ) (los' his' : List ℤ) (out : List ℕ) (next : ℕ) : Type 0 where
  pub inside : next ≤ length out
  pub left : LeftToWrite (records los his) 0 before (records los' his') out next

pub none-low : (los his : List ℤ) → length los ≡ 0 → paired los his ≡ []
none-low [] his e = refl
none-low (lo ∷ los) his e = absurd (omega arith)

pub none-high : (los his : List ℤ) → length his ≡ 0 → paired los his ≡ []
none-high [] his e = refl
none-high (lo ∷ los) [] e = refl
none-high (lo ∷ los) (hi ∷ his) e = absurd (omega arith)

module _ {los his : List ℤ} {before : List ℕ} where
  pub records-start : RecordsLeft los his before los his before 0
  records-start = record { inside = omega arith; left = left-start }

  pub records-step : {lo hi : ℤ} {los' his' : List ℤ} {out after : List ℕ} {next end : ℕ} →
      RecordsLeft los his before (lo ∷ los') (hi ∷ his') out next →
      Written (record_bytes (range lo hi)) next out after end →
      RecordsLeft los his before los' his' after end
  unfolding flat_map
  records-step l w = record { inside = omega (arith, w.ends, written-length w); left = left_step l.left w }

  pub records-end : {los' his' : List ℤ} {out : List ℕ} {next : ℕ} → RecordsLeft los his before los' his' out next →
      paired los' his' ≡ [] → Written (records los his) 0 before out next
  unfolding flat_map
  records-end l e = (rw e at l.left).whole _ _ (written-nil l.inside)
