use Rattle.std.proofs.Common.{◌≡◌, ◌+◌, ◌*◌, length, drop}
use Rattle.dta_model.specs.Lent.{plan_of}
use Rattle.dta_model.specs.declared.loading.TheConstants.{MOST_HORIZON}
use Rattle.link_times.specs.Journeys.{moves_along}
use Rattle.link_times.specs.Sums.{AreLeft, AreWithin}
use Rattle.link_times.proofs.adding.add_journey.Given as goal

abbrev pub invariant-loop-place : goal.invariant-loop-place
invariant-loop-place l = (length l.sums ≡ length l.initial.sums) × (length l.counts ≡ length l.sums)
    × AreLeft (plan_of l.buckets.loading) l.buckets.steps l.buckets.count (moves_along l.vehicle l.route l.entries l.journey.arrival) (drop l.place (moves_along l.vehicle l.route l.entries l.journey.arrival)) l.initial.sums l.initial.counts l.sums l.counts
    × AreWithin (l.vehicle * MOST_HORIZON + l.place) l.sums l.counts
