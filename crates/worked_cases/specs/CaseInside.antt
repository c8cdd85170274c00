-- What a case keeps: the parts of a sound loading.
use Rattle.std.specs.Prelude.{◌≡◌, true}
use Rattle.dta_model.specs.declared.plan.Plan.{Plan}
use Rattle.worked_cases.specs.Checked.{is_sound}
use Rattle.worked_cases.specs.declared.case.Case.TheInside.{Inside}

abbrev pub plan_in : Inside → Plan
plan_in case = record {
  net = case.net;
  queue = case.queue;
  delta = 6;
  horizon = case.horizon;
  trips = case.trips.items;
  routes = case.routes;
}

abbrev pub IsCase : Inside → Type 0
IsCase case = is_sound (plan_in case) ≡ true
