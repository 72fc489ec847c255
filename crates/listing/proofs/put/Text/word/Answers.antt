-- `listing::put::Text::word` meets its contract: the word, then one byte (`Fields`).
use Rattle.listing.proofs.Fields.{adds-append}
use Rattle.listing.proofs.put.Text.word.Goals as goal

pub returns : goal.returns
returns c = search adds-append
