use Rattle.std.proofs.Common.{◌≡◌, ◌*◌, length}
use Rattle.dta_model.specs.Lent.{plan_of}
use Rattle.dta_model.specs.declared.loading.TheConstants.{MOST_HORIZON}
use Rattle.link_times.specs.Sums.{AreSums, AreWithin}
use Rattle.link_times.proofs.adding.add_journeys.Given as goal

abbrev pub invariant-loop-vehicle : goal.invariant-loop-vehicle
invariant-loop-vehicle l = (length l.sums ≡ length l.initial.sums) × (length l.counts ≡ length l.sums)
    × AreSums (plan_of l.buckets.loading) l.buckets.steps l.buckets.count l.vehicle l.sums l.counts
    × AreWithin (l.vehicle * MOST_HORIZON) l.sums l.counts
