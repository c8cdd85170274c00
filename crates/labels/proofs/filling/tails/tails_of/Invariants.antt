use Rattle.std.proofs.Common.{◌≤◌, map}
use Rattle.labels.specs.Filling.Tails.{most_tail}
use Rattle.labels.specs.ToZone.{zone_numbers}
use Rattle.labels.proofs.OfFilling.TailFacts.{AreTailsTo}
use Rattle.labels.proofs.filling.tails.tails_of.Given as goal

abbrev pub invariant-loop-zone : goal.invariant-loop-zone
invariant-loop-zone l =
    AreTailsTo l.steps l.timed.router.now l.most (map (λ tail. tail.items) l.tails.items) (zone_numbers l.zones) l.zone-index
    × (l.most ≤ most_tail)
