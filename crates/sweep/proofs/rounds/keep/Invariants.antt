use Rattle.sweep.specs.Rounds.{AreKept}
use Rattle.sweep.proofs.rounds.keep.Given as goal

abbrev pub invariant-loop-one : goal.invariant-loop-one
invariant-loop-one l =
    goal.iterator-loop-one.can_next l.one-iterator × goal.iterator-loop-one.is_finite l.one-iterator
    × AreKept l.fn.kept.items l.yielded l.kept.items
