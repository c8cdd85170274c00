use Rattle.std.proofs.Common.{◌≡◌, ◌++◌, map}
use Rattle.phase_claims.specs.declared.part.Part.TheVariants as part
use Rattle.phase_claims.proofs.start.parts_at_start.Given as goal

abbrev pub invariant-loop-cell : goal.invariant-loop-cell
invariant-loop-cell l = l.parts.items ≡ map part.Cell l.yielded

abbrev pub invariant-loop-letter : goal.invariant-loop-letter
invariant-loop-letter l =
    l.parts.items ≡ map part.Cell l.fn.cells.items ++ map part.Mail l.yielded
