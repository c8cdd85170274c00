-- Vehicles on their way, each with all that it takes along.
use Rattle.std.specs.Prelude.{ℕ, List, [], ◌∷◌, ◌++◌, drop, length, map, Option, Some}
use Rattle.dta_model.specs.Loading.{entries_of, arrival_of}
use Rattle.dta_model.specs.Plans.{route_of, departure_of}
use Rattle.dta_model.specs.Trace.{Move}
use Rattle.dta_model.specs.declared.plan.Plan.{Plan}

-- a vehicle's number, the step of its departure, the links that are still ahead of it, the steps in
-- which it entered those before them, and the step of its arrival
pub record RiderState : Type 0 where
  pub number : ℕ
  pub departure : ℕ
  pub ahead : List ℕ
  pub entries : List ℕ
  pub arrival : Option ℕ

-- a rider with these links ahead after one more move, in a step: onto the first of them, or out
-- where there is none
abbrev pub moved_over : List ℕ → RiderState → ℕ → RiderState
moved_over [] r step = record r { arrival = Some step }
moved_over (b ∷ ahead) r step = record r { ahead = ahead; entries = r.entries ++ step ∷ [] }

abbrev pub moved : RiderState → ℕ → RiderState
moved r step = moved_over r.ahead r step

-- a vehicle as a trace makes it, and vehicles in order
unfoldable pub rider_at : Plan → List Move → ℕ → RiderState
rider_at p T v = record {
  number = v;
  departure = departure_of p v;
  ahead = drop (length (entries_of T v)) (route_of p v);
  entries = entries_of T v;
  arrival = arrival_of T v;
}

abbrev pub riders : Plan → List Move → List ℕ → List RiderState
riders p T vehicles = map (rider_at p T) vehicles
