use Rattle.std.proofs.Common.{length, ◌≡◌}
use Rattle.row_reader.specs.Trimmed.{drop_blanks}
use Rattle.row_reader.proofs.blanks.after_blanks.Given as goal

abbrev pub invariant-loop-first : goal.invariant-loop-first
invariant-loop-first l = drop_blanks l.rest ≡ drop_blanks l.field

abbrev pub decreases-loop-first : goal.decreases-loop-first
decreases-loop-first l = length l.rest
