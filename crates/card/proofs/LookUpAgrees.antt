-- The look-up at a slot gives what the reader puts there (`LookUpAgrees`).
use Prim.Native.Nat.{ℕ, ◌≤◌}
use mathlib.Core.List.{List}
use mathlib.Core.Path.{◌≡◌}
use borrow.Author.Tests.{lt-leb}
use lib.IntN.{ℤ}
use Rattle.refusals.specs.Answer.{gives}
use Rattle.form1.proofs.Tabulate.{filled_at}
use Rattle.form1.proofs.WholeFile.{pass→whole}
use Rattle.form1.proofs.Rows.{gives-asked}
use Rattle.form1.specs.Form1.{slots, range_of}
use Rattle.card.proofs.ReaderAnswers.{taken}
use Rattle.card.specs.Reading.{Header, reading}
use Rattle.card.specs.LookUp.{no_slot, looking, LookUpAgrees}

-- the reader takes no more than 64 slots
pub few-slots : (file : List ℕ) (los his : List ℤ) {header : Header} →
    (reading file los his).answer ≡ gives header → header.n ≤ 64
unfolding reading
few-slots file los his e = let (pass, n, _) = taken file los his e in rw (← n) (pass→whole file pass).some_slots.1

pub look-up-agrees : LookUpAgrees
unfolding reading looking no_slot
look-up-agrees file los his i header e bound =
    let (pass, n, _) = taken file los his e in
    let low = filled_at (λ slot. (range_of slot file).lowest) los header.n i bound in
    let high = filled_at (λ slot. (range_of slot file).highest) his header.n i bound in
    rw (e, low, high)
    (gives-asked file _ _ pass (lt-leb (slots file) i (rw n bound)))
