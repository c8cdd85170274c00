use Rattle.std.proofs.Common.{◌<◌, ◌^◌, arith}
use Rattle.assignment.specs.Lent.{settings_in, traffic_in}
use Rattle.assignment.proofs.AssignmentFacts.{few-arrived, few-running, few-waiting}
use Rattle.assignment.proofs.summary.summary_of.Goals as goal

pub overflow_cast-result-2 : goal.overflow_cast-result-2
overflow_cast-result-2 c =
    let a = c.args.assignment.now in
    let last = c.args.assigned.now in
    let few = few-arrived (settings_in a) (traffic_in a) last.routes last.end c.requires.last.end_is in
    let most = c.requires.is.traffic.trips.in_order.few in
    let fits : last.end.arrived < 2 ^ 32 = omega (arith, few, most) in omega arith

pub overflow_cast-result-3 : goal.overflow_cast-result-3
overflow_cast-result-3 c =
    let a = c.args.assignment.now in
    let last = c.args.assigned.now in
    let few = few-running (settings_in a) (traffic_in a) last.routes last.end c.requires.last.end_is in
    let most = c.requires.is.traffic.trips.in_order.few in
    let fits : last.end.running < 2 ^ 32 = omega (arith, few, most) in omega arith

pub overflow_cast-result-4 : goal.overflow_cast-result-4
overflow_cast-result-4 c =
    let a = c.args.assignment.now in
    let last = c.args.assigned.now in
    let few = few-waiting (settings_in a) (traffic_in a) last.routes last.end c.requires.last.end_is in
    let most = c.requires.is.traffic.trips.in_order.few in
    let fits : last.end.waiting < 2 ^ 32 = omega (arith, few, most) in omega arith
