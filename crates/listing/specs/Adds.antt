-- What a private function writes to a text in the making.
use Rattle.std.specs.Prelude.{ℕ, List, ◌≡◌}
use Rattle.buffer.specs.Written.{Written}
use Rattle.listing.specs.declared.put.Text.{Text}

-- these bytes were written to the buffer, which is still the same one
pub record Adds (bytes : List ℕ) (before after : Text) : Type 0 where
  pub same : after.out.ghost_name ≡ before.out.ghost_name
  pub written : Written bytes before.place before.out.now after.out.now after.place
