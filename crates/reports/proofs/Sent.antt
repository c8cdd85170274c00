-- What a text is that is sent piece by piece.
use Rattle.pending_text.proofs.SendingFacts.{added-none, added-pushed, part-of-room}
pub use Rattle.pending_text.proofs.Joins.{text}
pub use Rattle.pending_text.proofs.SendingFacts.{pieces, starts}

-- a line that may be left out
pub ruleset told = (added-none, added-pushed, part-of-room)
