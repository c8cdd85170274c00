use Rattle.std.proofs.Common.{◌<◌, Some, None, All, length, subst, sym, get_or, []}
use Rattle.net_core.specs.Network.{zones}
use Rattle.trip_costs.specs.WalkCosts.{enter_in, steps_in, table_in, timing}
use Rattle.trip_costs.specs.Costs.{timing_of}
use Rattle.trip_costs.proofs.Timed.{later_by}
use Rattle.labels.specs.Reading.FirstLinks.{AreFirsts, first_label}
use Rattle.labels.specs.Reading.Serves.{label_in, BestSoFar}
use Rattle.labels.specs.Filling.Tables.{rests}
use Rattle.labels.specs.Named.{zone_named}
use Rattle.labels.specs.States.Routers.{begins_from}
use Rattle.labels.specs.ToZone.{destination, zone_numbers, TellsLeast}
use Rattle.labels.proofs.OfStates.ByZoneFacts.{are_firsts, firsts_within}
use Rattle.labels.proofs.OfReading.Leasts.{least_of, none_of}
use Rattle.labels.proofs.OfReading.ServeFacts.{least_told}
use Rattle.labels.proofs.OfReading.GroupFacts.{fit_at, serves_at}
use Rattle.labels.proofs.reading.group_labels.GroupLabels.least.Goals as goal

pub best_of-requires-clause-firsts : goal.best_of-requires-clause-firsts
best_of-requires-clause-firsts c =
    let l = c.self.inside in
    let i = c.self.invariant in
    let small = subst (λ v. c.args.origin.0 < length (zones v.net.nodes)) (sym c.self.view_is) c.requires.origin in
    subst (λ ls. All (λ k. k < length (table_in l.costs).free) ls) c.get-firsts.ensures
    (subst (λ n. All (λ k. k < n) (get_or l.firsts c.args.origin.0 [])) (sym i.table) (firsts_within l.net.now i.net c.args.origin.0 small l.firsts i.firsts))

pub best_of-requires-clause-fit : goal.best_of-requires-clause-fit
best_of-requires-clause-fit c =
    let l = c.self.inside in
    let j = c.args.place in
    let within : j < length (zone_numbers l.zones.items) = subst (λ v. j < length v.zones) (sym c.self.view_is) c.requires.place in
    fit_at l c.self.invariant j within

pub returns-in-Some : goal.returns-in-Some
returns-in-Some c =
    let l = c.self.inside in
    let i = c.self.invariant in
    let j = c.args.place in
    let net = l.net.now in
    let o = c.args.origin.0 in
    let f = c.in-Some.first in
    let within : j < length (zone_numbers l.zones.items) = subst (λ v. j < length v.zones) (sym c.self.view_is) c.requires.place in
    let small = subst (λ v. o < length (zones v.net.nodes)) (sym c.self.view_is) c.requires.origin in
    let are = subst (λ ls. AreFirsts (begins_from net o) ls) c.get-firsts.ensures (are_firsts net i.net o small l.firsts i.firsts) in
    let best = subst (λ x. BestSoFar (first_label (enter_in l.costs) (label_in (steps_in l.costs) (rests l.labels j) l.router) c.args.step) c.get-firsts.result.now (length c.get-firsts.result.now) x) c.in-Some.is c.best_of.ensures in
    subst (λ v. TellsLeast (timing_of v.costs) v.net (zone_named v.net o) (destination v j) c.args.step (Some f.time)) c.self.view_is
    (least_told net (timing l.costs) (later_by l.costs) (get_or (zone_numbers l.zones.items) j 0) o c.args.step (Some f.time)
    (least_of net (get_or (zone_numbers l.zones.items) j 0) (steps_in l.costs) _ l.router (serves_at l i j within) (enter_in l.costs) (begins_from net o) c.get-firsts.result.now are c.args.step f.link f.time best))

pub returns-in-None : goal.returns-in-None
returns-in-None c =
    let l = c.self.inside in
    let i = c.self.invariant in
    let j = c.args.place in
    let net = l.net.now in
    let o = c.args.origin.0 in
    let within : j < length (zone_numbers l.zones.items) = subst (λ v. j < length v.zones) (sym c.self.view_is) c.requires.place in
    let small = subst (λ v. o < length (zones v.net.nodes)) (sym c.self.view_is) c.requires.origin in
    let are = subst (λ ls. AreFirsts (begins_from net o) ls) c.get-firsts.ensures (are_firsts net i.net o small l.firsts i.firsts) in
    let best = subst (λ x. BestSoFar (first_label (enter_in l.costs) (label_in (steps_in l.costs) (rests l.labels j) l.router) c.args.step) c.get-firsts.result.now (length c.get-firsts.result.now) x) c.in-None.is c.best_of.ensures in
    subst (λ v. TellsLeast (timing_of v.costs) v.net (zone_named v.net o) (destination v j) c.args.step None) c.self.view_is
    (least_told net (timing l.costs) (later_by l.costs) (get_or (zone_numbers l.zones.items) j 0) o c.args.step None
    (none_of net (get_or (zone_numbers l.zones.items) j 0) (steps_in l.costs) _ l.router (serves_at l i j within) (enter_in l.costs) (begins_from net o) c.get-firsts.result.now are c.args.step best))
