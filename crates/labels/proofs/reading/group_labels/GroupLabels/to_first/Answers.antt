use Rattle.std.proofs.Common.{◌≡◌, ◌<◌, ◌-◌, length, subst, sym, All, arith, take}
use Rattle.net_core.specs.Network.{zones}
use Rattle.trip_costs.specs.WalkCosts.{steps_in}
use Rattle.labels.specs.Reading.Serves.{AreAllLeft}
use Rattle.labels.specs.ToZone.{zone_numbers}
use Rattle.net_core.proofs.ZonesFacts.{length-zones-le}
use Rattle.labels.proofs.Basics.{All_range}
use Rattle.labels.proofs.reading.group_labels.GroupLabels.to_first.Goals as goal

pub table_of-requires-clause-zones : goal.table_of-requires-clause-zones
table_of-requires-clause-zones c = λ k d h. (
    let small = c.requires.zones k d h in
    let fewer = length-zones-le c.args.net.now.nodes in
    let few = c.link_count.ensures.sound.nodes.few in
    omega (arith, small, fewer, few))

pub invariant_of-result : goal.invariant_of-result
invariant_of-result c =
    let same = c.in_ok-zones.ensures.items in
    let n = c.in_ok-filled.filled.count in
    let left = c.in_ok-filled.ensures.left in
    let whole : n - 0 ≡ n = omega arith in record {
      net = c.link_count.ensures.sound;
      timed = c.in_ok-filled.ensures.timed;
      table = c.requires.table;
      inside = subst (λ zs. All (λ z. z.0 < length (zones c.args.net.now.nodes)) zs) (sym same)
          (subst (λ k. All (λ z. z.0 < length (zones c.args.net.now.nodes)) (take k c.args.zones.now)) whole
          (All_range (λ z. z.0 < length (zones c.args.net.now.nodes)) c.args.zones.now 0 n (omega arith) left.few c.requires.zones));
      router = c.in_ok-router.ensures;
      firsts = c.in_ok-firsts.ensures;
      left = subst (λ zs. AreAllLeft (steps_in c.args.costs) c.in_ok-router.router c.in_ok-filled.filled.table (zone_numbers zs)) (sym same) left.left;
    }
