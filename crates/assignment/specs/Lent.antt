-- What an assignment lends, as plain data.
use Rattle.std.specs.Prelude.{◌≤◌}
use Rattle.dta_model.specs.declared.plan.Plan.{Plan}
use Rattle.dta_words.specs.Ranges.{AreSettings}
use Rattle.dta_words.specs.declared.command.Settings.{Settings}
use Rattle.assignment.specs.Assignment.{Traffic, VehicleRoutes, plan_of}
use Rattle.assignment.specs.Traffic.{IsTraffic}
use Rattle.assignment.specs.declared.lent.Assignment.{Assignment}

-- its settings, and what it assigns
abbrev pub settings_in : Assignment → Settings
settings_in a = a.settings.now

abbrev pub traffic_in : Assignment → Traffic
traffic_in a = record { net = a.net.now; trips = a.trips.now; start = a.start.now }

-- its loading over the routes of an iteration
abbrev pub plan_in : Assignment → VehicleRoutes → Plan
plan_in a routes = plan_of (settings_in a) (traffic_in a) routes

-- the settings are within their ranges, the traffic is that of a loading, and 1 to 16 workers
-- search routes
pub record IsAssignment (a : Assignment) : Type 0 where
  pub settings : AreSettings (settings_in a)
  pub traffic : IsTraffic (settings_in a).horizon (traffic_in a)
  pub workers : (1 ≤ a.workers) × (a.workers ≤ 16)
