-- The scenarios of the reference are those of the sweep.
use Rattle.std.proofs.Common.{ℕ, ◌<◌, List, [], ◌∷◌, length, map, refl, arith}
use Rattle.sweep.specs.Texts.{sweep_texts, traffic_at}
use Rattle.std.specs.Prelude.{All, get_or}
use Rattle.std.proofs.lemmas.List.Elements.{All-head, All-tail, All-weaker}
use Rattle.dta_model.specs.Release.{HaveWindows, trips_of, vehicles_before}
use Rattle.dta_model.specs.declared.trip.DemandCell.{DemandCell}
use Rattle.dta_model.specs.declared.trip.Trip.{Trip}
use Rattle.vehicle_release.specs.Limits.{IsWithin}
use Rattle.vehicle_release.proofs.WholeFacts.{all_within, are_early, are_rising, are_trips}
use Rattle.dta_words.specs.Ranges.{AreSettings}
use Rattle.dta_words.specs.declared.command.Settings.{Settings}
use Rattle.scaled_demand.specs.Scales.{AreAllWithin, scaled}
use Rattle.scaled_demand.proofs.LimitFacts.{scaled_windows}
use Rattle.sweep.specs.Scenarios.{AreScenarios, IsScenario}
use Rattle.assignment.specs.Traffic.{AreTripsBelow, IsTraffic}
use Rattle.jobs.specs.Jobs.{IsJob, IsSweepJob, JobRows}
use Rattle.commands.specs.Outputs.{AreSwept}
use Rattle.assignment.proofs.AssignmentFacts.{no-start-rows}
use Rattle.reference.specs.Sweeps.{scenario_over, scenarios_of}
use Rattle.reference.specs.Texts.{AreSoundlyLoaded}
use Rattle.reference.proofs.AssignedFacts.{its-all, soundly-loaded}

-- the trips of a demand that is within the limit
pub trips-below : (s : Settings) → AreSettings s → (cells : List DemandCell) → HaveWindows s.period cells → IsWithin cells → AreTripsBelow s.horizon (trips_of cells)
trips-below s settings cells windows within =
    let trips = trips_of cells in
    let most = settings.period.1 in record {
      in_order = are_trips cells (vehicles_before cells (length cells)) trips windows.some refl (all_within cells within) refl;
      rising = are_rising cells trips windows.some refl;
      early = All-weaker (λ (trip : Trip). trip.departure < s.period) (λ (trip : Trip). trip.departure < s.horizon) (λ trip h. omega (arith, h, most)) trips
          (are_early cells s.period trips windows refl);
    }

module _ (s : Settings) (job : JobRows) (settings : AreSettings s) (good : IsJob s job) where
  -- the traffic of a scenario is that of a loading
  traffic-is : (scale : ℕ) → HaveWindows s.period job.demand_cells → IsWithin (scaled scale job.demand_cells)
      → IsTraffic s.horizon (traffic_at job.net job.demand_cells scale)
  traffic-is scale windows within = record {
    net = good.net;
    trips = trips-below s settings (scaled scale job.demand_cells) (scaled_windows s.period scale job.demand_cells windows) within;
    start = no-start-rows;
  }

  scenario-is : (scale : ℕ) → HaveWindows s.period job.demand_cells → IsWithin (scaled scale job.demand_cells)
      → IsScenario s job.net job.demand_cells scale (scenario_over s scale (traffic_at job.net job.demand_cells scale))
  scenario-is scale windows within = record {
    scale_is = refl;
    texts = record {
      all = its-all s (traffic_at job.net job.demand_cells scale) settings (traffic-is scale windows within);
      agent = refl;
      link_time = refl;
      origin_wait = refl;
      gap = refl;
      report = refl;
    };
  }

  scenarios-are : (scales : List ℕ) → HaveWindows s.period job.demand_cells → AreAllWithin job.demand_cells scales
      → AreScenarios s job.net job.demand_cells scales (map (λ scale. scenario_over s scale (traffic_at job.net job.demand_cells scale)) scales)
  scenarios-are [] windows within = tt
  scenarios-are (scale ∷ scales) windows within = (
    scenario-is scale windows (All-head (λ n. IsWithin (scaled n job.demand_cells)) scale scales within),
    scenarios-are scales windows (All-tail (λ n. IsWithin (scaled n job.demand_cells)) scale scales within),
  )

  pub swept : IsSweepJob s job → AreSwept s job (sweep_texts (scenarios_of s job))
  unfolding scenarios_of
  swept sweep = record {
    scenarios = scenarios_of s job;
    sweep = scenarios-are s.scales sweep.cells.windows sweep.within;
    texts_are = refl;
  }

  -- each of its loadings is sound
  pub swept-soundly : IsSweepJob s job → All (λ scale. AreSoundlyLoaded s (traffic_at job.net job.demand_cells scale)) s.scales
  swept-soundly sweep k d h =
      let scale = get_or s.scales k d in
      soundly-loaded s (traffic_at job.net job.demand_cells scale) settings (traffic-is scale sweep.cells.windows (sweep.within k d h))
