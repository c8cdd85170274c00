use Rattle.std.proofs.Common.{◌≡◌, map, take}
use Rattle.worked_cases.specs.Seen.{journey_seen}
use Rattle.worked_cases.proofs.seen.journeys.Given as goal

abbrev pub invariant-loop-i : goal.invariant-loop-i
invariant-loop-i l = l.journeys.items ≡ map journey_seen (take l.i l.seen)
