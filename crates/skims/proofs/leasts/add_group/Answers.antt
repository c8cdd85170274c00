use Rattle.trip_costs.specs.Timings.{Links}
use Rattle.trip_costs.specs.Costs.{OfLinks, timing_of}
use Rattle.std.proofs.Common.{◌≡◌, ◌+◌, ◌<◌, ◌≤◌, ap, arith, length, sym, subst, take, ◌∙◌}
use Rattle.std.specs.Prelude.{slice_index, All}
use Rattle.std.proofs.lemmas.List.{length-map}
use Rattle.net_core.specs.Network.{zones}
use Rattle.dta_model.specs.LinkTimes.{time_at}
use Rattle.labels.specs.Named.{zone_named}
use Rattle.labels.specs.ToZone.{destination}
use Rattle.labels.specs.declared.reading.group_labels.TheConstants.{MOST_GROUP}
use Rattle.skims.specs.Leasts.{AreBetween, AreTo}
use Rattle.skims.proofs.ZoneFacts.{labels-of, number-at, numbers-below, numbers-many}
use Rattle.skims.proofs.ZipFacts.{zip-more}
use Rattle.skims.proofs.leasts.add_group.Goals as goal

pub to_zones-requires-clause-few : goal.to_zones-requires-clause-few
to_zones-requires-clause-few c =
    let many = numbers-many c.in_ok-group.group.items c.args.first c.min-count.result c.in_ok-group.ensures in
    subst (λ zs. length zs ≤ MOST_GROUP) (sym c.deref.ensures.value)
    (subst (λ n. n ≤ MOST_GROUP) (sym many) (let m = c.min-count.ensures in omega (arith, m)))

pub to_zones-requires-clause-zones : goal.to_zones-requires-clause-zones
to_zones-requires-clause-zones c =
    subst (λ zs. All (λ z. z.0 < length (zones c.args.net.now.nodes)) zs) (sym c.deref.ensures.value)
    (numbers-below c.in_ok-group.group.items c.args.first c.min-count.result (length (zones c.args.net.now.nodes)) c.in_ok-group.ensures
    (let m = c.min-count.ensures in let z = c.zone_count-zones.ensures in let f = c.requires.first in omega (arith, m, z, f)))

pub leasts_by_start-requires-clause-place : goal.leasts_by_start-requires-clause-place
leasts_by_start-requires-clause-place c =
    let group = c.in_ok-group.group.items in
    let place = c.loop-place.place in
    let is = labels-of c.args.net.now (OfLinks c.args.times.now) c.in_ok-labels.labels c.deref.result.now group c.in_ok-labels.ensures c.deref.ensures.value in
    let many = numbers-many group c.args.first c.min-count.result c.in_ok-group.ensures in
    subst (λ l. place < length l.zones) (sym is)
    (subst (λ n. place < n) (sym (length-map group (λ z. z.0) ∙ many)) c.loop-place-test.true)

pub leasts_by_start-requires-clause-zone : goal.leasts_by_start-requires-clause-zone
leasts_by_start-requires-clause-zone c =
    let group = c.in_ok-group.group.items in
    let place = c.loop-place.place in
    let is = labels-of c.args.net.now (OfLinks c.args.times.now) c.in_ok-labels.labels c.deref.result.now group c.in_ok-labels.ensures c.deref.ensures.value in
    ap (λ l. slice_index l.zones place) is
    ∙ number-at group c.args.first c.min-count.result place c.in_ok-group.ensures c.loop-place-test.true

pub loop-place-preserved : goal.loop-place-preserved
loop-place-preserved c =
    let net = c.args.net.now in
    let costs = Links (time_at c.args.times.now) in
    let starts = c.args.starts.now in
    let first = c.args.first in
    let place = c.loop-place.place in
    let group = c.in_ok-group.group.items in
    let told = c.in_ok-leasts_by_start.field-0 in
    let is = labels-of net (OfLinks c.args.times.now) c.in_ok-labels.labels c.deref.result.now group c.in_ok-labels.ensures c.deref.ensures.value in
    let here : first + place < length (zones net.nodes) =
    let test = c.loop-place-test.true in let m = c.min-count.ensures in let z = c.zone_count-zones.ensures in let f = c.requires.first in omega (arith, test, m, z, f) in
    let next : first + place + 1 ≡ first + (place + 1) = omega arith in
    let are = subst (λ l. AreTo (timing_of l.costs) l.net starts (destination l place) told.items) is c.in_ok-leasts_by_start.ensures in
    let to : AreTo costs net starts (zone_named net (first + place)) told.items =
    subst (λ z. AreTo costs net starts (zone_named net z) told.items)
    (number-at group first c.min-count.result place c.in_ok-group.ensures c.loop-place-test.true) are in
    subst (λ n. AreBetween costs net starts (take n (zones net.nodes)) c.push.new.self.items) next
    (subst (λ ls. AreBetween costs net starts (take (first + place + 1) (zones net.nodes)) ls) (sym c.in_ok-push.ensures.items)
    (zip-more (λ d to. AreTo costs net starts d to.items) (zones net.nodes) c.loop-place.to_each.items (first + place) 0 told here c.loop-place.invariant to))
