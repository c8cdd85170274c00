-- A loading in which nothing binds: one vehicle on two links in a line, each of two steps and with
-- room for two vehicles in a step.
use Rattle.std.specs.Prelude.{◌≡◌, ℕ, [], ◌∷◌, Some, refl}
use Rattle.net_core.specs.declared.rows.LinkRow.{LinkRow}
use Rattle.net_core.specs.declared.rows.NetRows.{NetRows}
use Rattle.dta_model.specs.Examples.{both, in_a_line, link}
use Rattle.dta_model.specs.Loading.{arrival_of, entries_of, trace_after}
use Rattle.dta_model.specs.OnLiterals.{loadings_on_literals}
use Rattle.dta_model.specs.declared.plan.Plan.{Plan}
use Rattle.dta_model.specs.declared.queue.Queue.TheVariants as queue

abbrev pub wide : ℕ → ℕ → LinkRow
wide id to = link id id to 2 125 1200000000

abbrev pub wide_line : NetRows
wide_line = in_a_line (wide 0 1) (wide 1 2) []

unfoldable pub one_vehicle : Plan
one_vehicle = record {
  net = wide_line;
  queue = queue.Point;
  delta = 6;
  horizon = 6;
  trips = record { number = 0; origin = 1; destination = 3; departure = 1 } ∷ [];
  routes = both;
}

-- it departs in step 1, and takes two steps for each link
one_vehicle-entries : entries_of (trace_after one_vehicle 6) 0 ≡ 1 ∷ 3 ∷ []
unfolding loadings_on_literals one_vehicle
one_vehicle-entries = refl

one_vehicle-arrival : arrival_of (trace_after one_vehicle 6) 0 ≡ Some 5
unfolding loadings_on_literals one_vehicle
one_vehicle-arrival = refl
