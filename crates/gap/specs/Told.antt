-- Least times that are told, as numbers to be summed.
use Rattle.std.specs.Prelude.{ℕ, List, Option, None, Some, false, is_some, map, slice_get}
use Rattle.net_core.specs.declared.rows.LinkNo.{LinkNo}
use Rattle.time_routes.specs.declared.vehicles.Ask.{Ask}

-- the least time of each vehicle that has a route is asked for
abbrev pub asks_for : List (Option (List LinkNo)) → List Ask
asks_for routes = map (λ route. record { least = is_some route; walk = false }) routes

-- what is told of a vehicle with a route, and 0 without one
abbrev pub least_in : Option (List LinkNo) → Option ℕ → ℕ
least_in None told = 0
least_in (Some route) None = 0
least_in (Some route) (Some time) = time

abbrev pub least_at_place : Option (Option (List LinkNo)) → Option (Option ℕ) → ℕ
least_at_place None told = 0
least_at_place (Some route) None = 0
least_at_place (Some route) (Some told) = least_in route told

-- that of the vehicle at a place of the list
abbrev pub least_at : List (Option (List LinkNo)) → List (Option ℕ) → ℕ → ℕ
least_at routes told v = least_at_place (slice_get routes v) (slice_get told v)
