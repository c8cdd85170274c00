use Rattle.std.proofs.Common.{◌≡◌, length, map, take}
use Rattle.worked_cases.specs.Seen.{journey_seen}
use Rattle.worked_cases.proofs.seen.are_seen.Given as goal

abbrev pub invariant-loop-i : goal.invariant-loop-i
invariant-loop-i l = record {
  many : length l.journeys ≡ length l.seen;
  same : take l.i l.journeys ≡ map journey_seen (take l.i l.seen);
}
