use Rattle.trip_costs.specs.Timings.{Links}
use Rattle.std.proofs.Common.{◌≡◌, ◌≢◌, ◌<◌, arith, length, rules, subst, sym}
use Rattle.std.specs.Prelude.{slice_index, vec_len}
use Rattle.net_core.specs.Network.{zones}
use Rattle.dta_model.specs.LinkTimes.{time_at}
use Rattle.labels.specs.Named.{zone_named}
use Rattle.labels.specs.ToZone.{TellsLeast}
use Rattle.skims.proofs.EntryFacts.{all-many, from-many, least-at, to-many}
use Rattle.skims.proofs.leasts.LeastTimes.get.Goals as goal

pub index-requires : goal.index-requires
index-requires c =
    let l = c.self.inside in
    let many = all-many (Links (time_at l.times.now)) l.net.now l.starts.now l.to_each.items c.self.invariant in
    let long : vec_len l.to_each ≡ length l.to_each.items = search rules in
    let within : c.args.destination < length (zones l.net.now.nodes) =
    subst (λ v. c.args.destination < length (zones v.net.nodes)) (sym c.self.view_is) c.requires.destination in
    omega (arith, many, long, within)

pub index-requires-2 : goal.index-requires-2
index-requires-2 c =
    let l = c.self.inside in
    let to = c.index.result.now in
    let within : c.args.destination < length (zones l.net.now.nodes) =
    subst (λ v. c.args.destination < length (zones v.net.nodes)) (sym c.self.view_is) c.requires.destination in
    let begun : c.args.start < length l.starts.now =
    subst (λ v. c.args.start < length v.starts) (sym c.self.view_is) c.requires.start in
    let many = to-many (Links (time_at l.times.now)) l.net.now l.starts.now l.to_each.items c.self.invariant c.args.destination to within c.index.ensures in
    let long : vec_len to ≡ length to.items = search rules in
    omega (arith, many, long, begun)

pub index-requires-3 : goal.index-requires-3
index-requires-3 c =
    let l = c.self.inside in
    let to = c.index.result.now in
    let from = c.index-2.result.now in
    let begin : c.args.origin < length (zones l.net.now.nodes) =
    subst (λ v. c.args.origin < length (zones v.net.nodes)) (sym c.self.view_is) c.requires.origin in
    let within : c.args.destination < length (zones l.net.now.nodes) =
    subst (λ v. c.args.destination < length (zones v.net.nodes)) (sym c.self.view_is) c.requires.destination in
    let begun : c.args.start < length l.starts.now =
    subst (λ v. c.args.start < length v.starts) (sym c.self.view_is) c.requires.start in
    let many = from-many (Links (time_at l.times.now)) l.net.now l.starts.now l.to_each.items c.self.invariant c.args.destination c.args.start to from within begun c.index.ensures c.index-2.ensures in
    let long : vec_len from ≡ length from.items = search rules in
    omega (arith, many, long, begin)

pub returns : goal.returns
returns c =
    let l = c.self.inside in
    let o = c.args.origin in
    let d = c.args.destination in
    let i = c.args.start in
    let begin : o < length (zones l.net.now.nodes) =
    subst (λ v. o < length (zones v.net.nodes)) (sym c.self.view_is) c.requires.origin in
    let within : d < length (zones l.net.now.nodes) =
    subst (λ v. d < length (zones v.net.nodes)) (sym c.self.view_is) c.requires.destination in
    let begun : i < length l.starts.now =
    subst (λ v. i < length v.starts) (sym c.self.view_is) c.requires.start in
    subst (λ v. zone_named v.net o ≢ zone_named v.net d
    → TellsLeast (Links (time_at v.times)) v.net (zone_named v.net o) (zone_named v.net d) (slice_index v.starts i) c.index-3.result.now) c.self.view_is
    (least-at (Links (time_at l.times.now)) l.net.now l.starts.now l.to_each.items c.self.invariant o d i c.index.result.now c.index-2.result.now c.index-3.result.now begin within begun c.index.ensures c.index-2.ensures c.index-3.ensures)
