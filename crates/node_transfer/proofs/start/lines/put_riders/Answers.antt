use Rattle.net_core.specs.Network.{numbers_below}
use Rattle.std.specs.Prelude.{All}
use Rattle.std.proofs.Common.{◌∙◌, ◌<◌, ap, arith, sym, subst, length, get_or}
use Rattle.dta_model.specs.Lent.{plan_of}
use Rattle.dta_model.specs.Plans.{link_numbers}
use Rattle.dta_model.specs.declared.trip.Trip.{Trip}
use Rattle.link_queues.specs.Riders.{setting_out}
use Rattle.link_queues.specs.declared.line.TheConstants.{MOST_RIDERS}
use Rattle.node_transfer.specs.Inside.StartLines.{put_last}
use Rattle.node_transfer.proofs.OfStart.Opened.{few_below, lines_length, no_rider_next, riders_next, route_links}
use Rattle.node_transfer.proofs.start.lines.put_riders.Goals as goal
use Rattle.node_transfer.proofs.start.lines.put_riders.Goals.{in-Some+in_ok-put_rider, in_default}

pub put_rider-requires-clause-links : goal.put_rider-requires-clause-links
put_rider-requires-clause-links c =
    let p = plan_of c.args.loading.now in
    subst (λ k. All (λ l. l < k) (link_numbers c.in-Some.route.now)) (sym (ap (λ ls. length ls) c.loop-v.invariant ∙ lines_length p c.loop-v.v)) (route_links p c.loop-v.v c.in-Some.route.now c.requires.sound c.in-Some.ensures)

pub put_rider-requires-clause-fits : goal.put_rider-requires-clause-fits
put_rider-requires-clause-fits c =
    let p = plan_of c.args.loading.now in
    let here = c.loop-v-test.true in
    let few = c.requires.sound.trips.few in
    subst (λ ls. All (λ line. length line < MOST_RIDERS) ls) (sym c.loop-v.invariant) (few_below p c.loop-v.v (omega (arith, here, few)) (numbers_below (length p.net.links)))

pub loop-v-preserved : goal.loop-v-preserved
loop-v-preserved c =
    let p = plan_of c.args.loading.now in
    let d : Trip = record { number = 0; origin = 0; destination = 0; departure = 0 } in
    elim c.match-get.branch [
      | in-Some+in_ok-put_rider w ↦
          w.lines-is ∙ w.in_ok-put_rider.ensures
          ∙ ap (λ ls. put_last (setting_out c.loop-v.v (get_or c.args.loading.now.trips.now c.loop-v.v d).departure (link_numbers w.in-Some.route.now)) ls) c.loop-v.invariant
          ∙ riders_next p c.loop-v.v w.in-Some.route.now d c.requires.sound c.loop-v-test.true w.in-Some.ensures
      | in_default w ↦ w.lines-is ∙ c.loop-v.invariant ∙ no_rider_next p c.loop-v.v w.in_default.ensures
    ]
