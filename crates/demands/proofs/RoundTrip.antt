-- The writer and the reader undo each other (`ReadsBack`, `WritesBack`), and no file of the request is shorter than the
-- one stored (`Shortest`).
use Prim.Native.Nat.{ℕ, ◌+◌, ◌≤◌, ◌<◌}
use native.Mathlib.Omega.{arith}
use mathlib.Core.List.{List, [], ◌++◌, append_assoc, append_cancel_right, map-id}
use mathlib.Core.Path.{◌≡◌, refl, sym, ap, ◌∙◌}
use lib.IntN.{ℤ, pos}
use lib.ListN.{length, drop, get_or, length-append, drop_of_length-le}
use Rattle.refusals.specs.Answer.{gives}
use Rattle.rule.specs.Ranges.{range}
use Rattle.rule.specs.declared.Range.{Range}
use Rattle.settings.specs.declared.Settings.{Settings}
use Rattle.form1.proofs.OnlyEncoded.{only_encoded}
use Rattle.form1.proofs.ReadBack.{read_back, accepted→fit}
use Rattle.form1.proofs.Tabulate.{length-tabulate, tabulate-at, tabulate-is}
use Rattle.form1.specs.Form1.{slots, range_of, note, tabulate, stored_settle, settings as Form1·settings}
use Rattle.form1.specs.Layout.{encode, Bytes, ReadAs}
use Rattle.requests.proofs.ChosenIn.{paired-length, paired_at}
use Rattle.requests.proofs.Formed.{passes→accepted}
use Rattle.requests.specs.Request.{at, paired}
use Rattle.card.proofs.ReaderAnswers.{takes, taken, records-put}
use Rattle.card.specs.Reading.{read_answer, reading}
use Rattle.card.specs.declared.Header.{Header}
use Rattle.writer.proofs.WriterAnswers.{file-length, stored→buffer, stored→file, stores_accepted}
use Rattle.writer.specs.Writing.{file_of}
use Rattle.demands.specs.RoundTrip.{TakenAs, ReadsBack, WritesBack, Shortest}

abbrev zeros : Range
zeros = range (pos 0) (pos 0)

range_at : (los his : List ℤ) (i : ℕ) → i < length los → length his ≡ length los →
    get_or (paired los his) i zeros ≡ range (at los i) (at his i)
range_at los his i bound wide =
    rw (map-id (paired los his)) at (paired_at (λ r. r) zeros los his i bound (omega arith))

module _ (file : List ℕ) (s : Settings) (los his lent-los lent-his : List ℤ) where
  abbrev header : Header
  header = record { settings = s; n = length los }

  -- a file that is read as the ranges of a request, and with its settings, is taken as this request
  read→taken : length his ≡ length los → ReadAs file (paired los his) s →
      length los ≤ length lent-los → length los ≤ length lent-his → TakenAs file s los his lent-los lent-his
  read→taken wide r low high =
      let count : length (paired los his) ≡ length los = paired-length los his (sym wide) in
      let n : slots file ≡ length los = r.all_slots ∙ count in
      let same : (i : ℕ) → i < length los → range (at los i) (at his i) ≡ range_of i file =
      λ i bound. sym (r.same_ranges i zeros (rw count bound) ∙ range_at los his i bound wide) in
      let lowest = tabulate-is (length los) (λ i. (range_of i file).lowest) (pos 0) los refl
      (λ i bound. ap (λ r. r.lowest) (same i bound)) in
      let highest = tabulate-is (length los) (λ i. (range_of i file).highest) (pos 0) his wide
      (λ i bound. ap (λ r. r.highest) (same i bound)) in
      sym
      (records-put file lent-los lent-his header
      (takes file lent-los lent-his r.passes (rw n low) (rw n high)
      ∙ λ i. gives (record { settings = r.same_settings i; n = n i }))
      (rw lowest refl)
      (rw highest refl))

  module _ (t : TakenAs file s los his lent-los lent-his) where
    answered : read_answer lent-los lent-his file ≡ gives header
    unfolding reading
    answered = ap (λ o. o.answer) t

    lows : tabulate (length los) (λ i. (range_of i file).lowest) ≡ los
    unfolding reading
    lows = append_cancel_right _ _ (drop (length los) lent-los) (rw answered at (ap (λ o. o.lowest) t))

    highs : tabulate (length los) (λ i. (range_of i file).highest) ≡ his
    unfolding reading
    highs = append_cancel_right _ _ (drop (length los) lent-his) (rw answered at (ap (λ o. o.highest) t))

    all : tabulate (length los) (λ i. range_of i file) ≡ paired los his
    all =
        let wide : length his ≡ length los = ap length (sym highs) ∙ length-tabulate (length los) _ in
        tabulate-is (length los) _ zeros (paired los his) (paired-length los his (sym wide)) (λ i bound.
        let low = ap (λ l. at l i) (sym lows) ∙ tabulate-at (length los) i _ (pos 0) bound in
        let high = ap (λ l. at l i) (sym highs) ∙ tabulate-at (length los) i _ (pos 0) bound in
        range_at los his i bound wide ∙ λ j. range (low j) (high j))

    read-settle : s.shape.settle ≡ stored_settle
    unfolding Form1·settings
    read-settle = sym (ap (λ (s : Settings). s.shape.settle) (taken file lent-los lent-his answered).2)

    -- a file that is taken as a request is a note with the request's own file after it
    encoded : Bytes file → file ≡ note file ++ file_of s los his
    unfolding encode
    encoded bytes =
        let (pass, n, same) = taken file lent-los lent-his answered in
        let records : tabulate (slots file) (λ i. range_of i file) ≡ paired los his = rw n all in
        only_encoded file bytes pass ∙ (λ i. encode (note file) (records i) (same i)) ∙ append_assoc (note file) _ _

pub reads_back : ReadsBack
reads_back s los his buffer size k fits e lent-los lent-his low high =
    let (checked, settle, _, is) = stored→file s los his buffer e in
    let (pass, wide, _, _) = passes→accepted s los his checked in
    let count : length (paired los his) ≡ length los = paired-length los his (sym wide) in
    let long : length (file_of s los his) ≤ 4096 = omega (arith, file-length s los his wide, pass.slots) in
    let fit = accepted→fit (length los) s (omega (arith, pass.slots)) k settle pass in
    rw is
    (read→taken (file_of s los his) s los his lent-los lent-his wide
    (read_back [] (paired los his) s (omega (arith, pass.slots)) (omega (arith, pass.slots)) long fits fit)
    low high)

pub writes_back : WritesBack
writes_back file s los his lent-los lent-his bytes t bare ms buffer marked formed room =
    let is : file ≡ file_of s los his
    = encoded file s los his lent-los lent-his t bytes ∙ ap (λ front. front ++ file_of s los his) bare in
    let settle = read-settle file s los his lent-los lent-his t in
    let answer = (stores_accepted s los his buffer ms marked).1 (formed, settle, rw (← is) room) in
    rw is (λ i. record { answer = answer i; buffer = stored→buffer s los his buffer answer i })

pub shortest : Shortest
shortest s los his buffer size e file lent-los lent-his bytes t =
    let (_, _, file-size, is) = stored→file s los his buffer e in
    let whole = encoded file s los his lent-los lent-his t bytes in
    let long : length file ≡ length (note file) + length (file_of s los his)
    = ap length whole ∙ length-append (note file) (file_of s los his) in (
      omega arith,
      λ same.
          let bare : note file ≡ [] = drop_of_length-le (note file) {i = 0} (omega arith) in
          whole ∙ ap (λ front. front ++ file_of s los his) bare ∙ sym is,
    )
