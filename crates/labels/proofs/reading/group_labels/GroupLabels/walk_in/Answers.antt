use Rattle.std.proofs.Common.{◌<◌, All, length, subst, sym, get_or, []}
use Rattle.std.specs.Prelude.{IfOk}
use Rattle.net_core.specs.Network.{zones}
use Rattle.trip_costs.specs.WalkCosts.{steps_in, table_in, timing}
use Rattle.labels.specs.Reading.FirstLinks.{AreFirsts}
use Rattle.labels.specs.Named.{zone_named}
use Rattle.labels.specs.States.Routers.{begins_from}
use Rattle.labels.specs.Reading.Serves.{Serves}
use Rattle.labels.specs.Reading.GroupsTo.{group_of}
use Rattle.trip_costs.specs.Timings.{Links, Trips}
use Rattle.trip_costs.specs.Costs.{timing_of, costs_of}
use Rattle.dta_model.specs.LinkTimes.{time_at}
use Rattle.labels.specs.Filling.Tables.{rests}
use Rattle.labels.specs.ToZone.{destination, zone_numbers, TellsFound}
use Rattle.labels.proofs.OfStates.ByZoneFacts.{are_firsts, firsts_rise, firsts_within}
use Rattle.labels.proofs.OfStates.OnwardFacts.{IsRising}
use Rattle.labels.proofs.OfReading.ServeFacts.{ChosenPaths, FewestPaths, chosen_told, fewest_told}
use Rattle.labels.proofs.OfReading.GroupFacts.{fit_at, serves_at, zone_is}
use Rattle.labels.proofs.reading.group_labels.GroupLabels.walk_in.Goals as goal

pub walk_of-requires-clause-serves : goal.walk_of-requires-clause-serves
walk_of-requires-clause-serves c =
    let l = c.self.inside in
    let j = c.args.place in
    let within : j < length (zone_numbers l.zones.items) = subst (λ v. j < length v.zones) (sym c.self.view_is) c.requires.place in
    subst (λ z. Serves l.net.now z (steps_in l.costs) (rests l.labels j) l.router) (zone_is l c.self.invariant j within c.index.result.now c.index.ensures)
    (serves_at l c.self.invariant j within)

pub walk_of-requires-clause-fit : goal.walk_of-requires-clause-fit
walk_of-requires-clause-fit c =
    let l = c.self.inside in
    let j = c.args.place in
    let within : j < length (zone_numbers l.zones.items) = subst (λ v. j < length v.zones) (sym c.self.view_is) c.requires.place in
    fit_at l c.self.invariant j within

pub walk_of-requires-clause-firsts : goal.walk_of-requires-clause-firsts
walk_of-requires-clause-firsts c =
    let l = c.self.inside in
    let i = c.self.invariant in
    let small = subst (λ v. c.args.origin.0 < length (zones v.net.nodes)) (sym c.self.view_is) c.requires.origin in
    subst (λ ls. All (λ k. k < length (table_in l.costs).free) ls) c.get-firsts.ensures
    (subst (λ n. All (λ k. k < n) (get_or l.firsts c.args.origin.0 [])) (sym i.table) (firsts_within l.net.now i.net c.args.origin.0 small l.firsts i.firsts))

pub walk_of-requires-clause-rising : goal.walk_of-requires-clause-rising
walk_of-requires-clause-rising c =
    let l = c.self.inside in
    let i = c.self.invariant in
    let small = subst (λ v. c.args.origin.0 < length (zones v.net.nodes)) (sym c.self.view_is) c.requires.origin in
    subst (λ ls. IsRising ls) c.get-firsts.ensures (firsts_rise l.net.now i.net c.args.origin.0 small l.firsts i.firsts)

pub returns-in-Links : goal.returns-in-Links
returns-in-Links c =
    let l = c.self.inside in
    let i = c.self.invariant in
    let j = c.args.place in
    let net = l.net.now in
    let o = c.args.origin.0 in
    let within : j < length (zone_numbers l.zones.items) = subst (λ v. j < length v.zones) (sym c.self.view_is) c.requires.place in
    let small = subst (λ v. o < length (zones v.net.nodes)) (sym c.self.view_is) c.requires.origin in
    let are = subst (λ ls. AreFirsts (begins_from net o) ls) c.get-firsts.ensures (are_firsts net i.net o small l.firsts i.firsts) in
    let zone = zone_is l i j within c.index.result.now c.index.ensures in
    let told = subst (λ k. IfOk c.walk_of.result (ChosenPaths k net c.index.result.now.0 o c.args.step)) c.in-Links.is (c.walk_of.ensures (begins_from net o) are) in
    subst (λ v. IfOk c.walk_of.result (TellsFound (timing_of v.costs) v.net (zone_named v.net o) (destination v j) c.args.step)) c.self.view_is
    (subst (λ k. IfOk c.walk_of.result (TellsFound (timing k) net (zone_named net o) (destination (group_of l) j) c.args.step)) (sym c.in-Links.is)
    (subst (λ z. IfOk c.walk_of.result (TellsFound (Links (time_at c.in-Links.field-0.now)) net (zone_named net o) (zone_named net z) c.args.step)) (sym zone)
    (chosen_told net c.in-Links.field-0 c.index.result.now.0 o c.args.step c.walk_of.result told)))

pub fewest_walk_of-requires-clause-serves : goal.fewest_walk_of-requires-clause-serves
fewest_walk_of-requires-clause-serves c =
    let l = c.self.inside in
    let j = c.args.place in
    let within : j < length (zone_numbers l.zones.items) = subst (λ v. j < length v.zones) (sym c.self.view_is) c.requires.place in
    subst (λ z. Serves l.net.now z (steps_in l.costs) (rests l.labels j) l.router) (zone_is l c.self.invariant j within c.index.result.now c.index.ensures)
    (serves_at l c.self.invariant j within)

pub fewest_walk_of-requires-clause-fit : goal.fewest_walk_of-requires-clause-fit
fewest_walk_of-requires-clause-fit c =
    let l = c.self.inside in
    let j = c.args.place in
    let within : j < length (zone_numbers l.zones.items) = subst (λ v. j < length v.zones) (sym c.self.view_is) c.requires.place in
    fit_at l c.self.invariant j within

pub fewest_walk_of-requires-clause-firsts : goal.fewest_walk_of-requires-clause-firsts
fewest_walk_of-requires-clause-firsts c =
    let l = c.self.inside in
    let i = c.self.invariant in
    let small = subst (λ v. c.args.origin.0 < length (zones v.net.nodes)) (sym c.self.view_is) c.requires.origin in
    subst (λ ls. All (λ k. k < length (table_in l.costs).free) ls) c.get-firsts.ensures
    (subst (λ n. All (λ k. k < n) (get_or l.firsts c.args.origin.0 [])) (sym i.table) (firsts_within l.net.now i.net c.args.origin.0 small l.firsts i.firsts))

pub fewest_walk_of-requires-clause-rising : goal.fewest_walk_of-requires-clause-rising
fewest_walk_of-requires-clause-rising c =
    let l = c.self.inside in
    let i = c.self.invariant in
    let small = subst (λ v. c.args.origin.0 < length (zones v.net.nodes)) (sym c.self.view_is) c.requires.origin in
    subst (λ ls. IsRising ls) c.get-firsts.ensures (firsts_rise l.net.now i.net c.args.origin.0 small l.firsts i.firsts)

pub returns-in-Trips : goal.returns-in-Trips
returns-in-Trips c =
    let l = c.self.inside in
    let i = c.self.invariant in
    let j = c.args.place in
    let net = l.net.now in
    let o = c.args.origin.0 in
    let trips = c.in-Trips.field-0.now in
    let within : j < length (zone_numbers l.zones.items) = subst (λ v. j < length v.zones) (sym c.self.view_is) c.requires.place in
    let small = subst (λ v. o < length (zones v.net.nodes)) (sym c.self.view_is) c.requires.origin in
    let are = subst (λ ls. AreFirsts (begins_from net o) ls) c.get-firsts.ensures (are_firsts net i.net o small l.firsts i.firsts) in
    let zone = zone_is l i j within c.index.result.now c.index.ensures in
    let told = subst (λ k. IfOk c.fewest_walk_of.result (FewestPaths k net c.index.result.now.0 o c.args.step)) c.in-Trips.is (c.fewest_walk_of.ensures (begins_from net o) are) in
    subst (λ v. IfOk c.fewest_walk_of.result (TellsFound (timing_of v.costs) v.net (zone_named v.net o) (destination v j) c.args.step)) c.self.view_is
    (subst (λ k. IfOk c.fewest_walk_of.result (TellsFound (timing k) net (zone_named net o) (destination (group_of l) j) c.args.step)) (sym c.in-Trips.is)
    (subst (λ z. IfOk c.fewest_walk_of.result (TellsFound (Trips (costs_of trips)) net (zone_named net o) (zone_named net z) c.args.step)) (sym zone)
    (fewest_told net c.in-Trips.field-0 c.index.result.now.0 o c.args.step c.fewest_walk_of.result told)))
