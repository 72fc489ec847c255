-- Bytes written into a lent buffer from a place on: as many of them as fit; the rest of the buffer is as it was. What
-- comes back is the place after what was written.
use Rattle.std.specs.Prelude.{ℕ, ◌+◌, min, List, ◌≡◌, length}
use Rattle.std.proofs.lemmas.List.Edits.{sets}

pub record Written (bytes : List ℕ) (place : ℕ) (before after : List ℕ) (end : ℕ) : Type 0 where
  pub stored : after ≡ sets before place bytes
  pub ends : end ≡ min (place + length bytes) (length before)
