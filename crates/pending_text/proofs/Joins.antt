-- Joined texts, and how long they are.
use Rattle.std.proofs.Common.{append_assoc, length-append}

-- what a text is that is pushed piece by piece, and its length
pub ruleset text = (append_assoc, length-append)
