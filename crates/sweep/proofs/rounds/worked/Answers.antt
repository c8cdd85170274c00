use Rattle.std.proofs.Common.{List, arith, subst, sym}
use Rattle.dta_model.specs.declared.trip.Trip.{Trip}
use Rattle.start_table.specs.Starts.{AreStartRows}
use Rattle.assignment.proofs.AssignmentFacts.{no-start-rows}
use Rattle.assignment.specs.Traffic.{AreTripsBelow}
use Rattle.sweep.proofs.ScenarioFacts.{scenario-over}
use Rattle.sweep.proofs.rounds.worked.Goals as goal

pub assign-requires-clause-is : goal.assign-requires-clause-is
assign-requires-clause-is g c κs within = record {
  settings = c.requires.settings;
  traffic = record {
    net = c.link_count-sound.ensures.sound;
    trips = subst (λ (trips : List Trip). AreTripsBelow c.args.settings.now.horizon trips) (sym c.as_slice.ensures.value) c.in_ok-trips.ensures.below;
    start = subst AreStartRows (sym c.new-start.ensures) no-start-rows;
  };
  workers = (omega arith, omega arith);
}

pub returns : goal.returns
returns g c =
    scenario-over c.args.settings.now c.args.net.now c.args.cells.now c.args.scale c.as_slice.result.now c.in_ok-trips.trips.items c.new-start.result c.in_ok-scenario.scenario
    c.as_slice.ensures.value c.in_ok-trips.ensures.trips c.new-start.ensures c.in_ok-scenario.ensures.scale c.in_ok-scenario.ensures.texts
