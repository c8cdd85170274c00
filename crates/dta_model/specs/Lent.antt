-- The plan of a loading.
use Rattle.dta_model.specs.declared.loading.Loading.{Loading}
use Rattle.dta_model.specs.declared.plan.Plan.{Plan}

-- what it lends, as plain data
abbrev pub plan_of : Loading → Plan
plan_of loading = record {
  net = loading.net.now;
  queue = loading.queue;
  delta = loading.delta;
  horizon = loading.horizon;
  trips = loading.trips.now;
  routes = loading.routes.now;
}
