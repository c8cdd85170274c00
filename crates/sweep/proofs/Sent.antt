-- What a text is that is sent piece by piece.
pub use Rattle.pending_text.proofs.Joins.{text}
