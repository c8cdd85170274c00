-- The soundness of a loading as a test that computes, for loadings that are written out.
use Rattle.std.specs.List.{list_all}
use Rattle.std.specs.Prelude.{ℕ, ◌+◌, Bool, true, false, ◌&&◌, not, List, [], ◌∷◌, length}
use Rattle.std.specs.Prelude.{Option, None, Some, is_some, nat_eq, nat_le, nat_lt}
use Rattle.fixed_units.specs.declared.link.TheConstants.{MOST_STEP}
use Rattle.worked_cases.specs.CheckedNet.{is_net}
use Rattle.net_core.specs.Network.{turn}
use Rattle.net_core.specs.declared.rows.LinkNo.{LinkNo}
use Rattle.net_core.specs.declared.rows.NetRows.{NetRows}
use Rattle.dta_model.specs.Plans.{link_numbers}
use Rattle.dta_model.specs.Walks.{begins_in, ends_in}
use Rattle.dta_model.specs.declared.loading.TheConstants.{MOST_HORIZON}
use Rattle.dta_model.specs.declared.plan.Plan.{Plan}
use Rattle.dta_model.specs.declared.queue.Queue.{Queue}
use Rattle.dta_model.specs.declared.queue.Queue.TheVariants as queue
use Rattle.dta_model.specs.declared.queue.TheConstants.{MOST_WAVE}
use Rattle.dta_model.specs.declared.trip.Trip.{Trip}
use Rattle.dta_model.specs.declared.trip.TheConstants.{MOST_TRIPS}

-- whether trips have the numbers from a number on
abbrev pub are_numbered : ℕ → List Trip → Bool
are_numbered first [] = true
are_numbered first (trip ∷ trips) = nat_eq trip.number first && are_numbered (first + 1) trips

-- whether departures don't fall
abbrev pub rises : List Trip → Bool
rises [] = true
rises (x ∷ trips) = list_all (λ y. nat_le x.departure y.departure) trips && rises trips

-- whether a trip leads from a zone to another
abbrev pub apart : Trip → Bool
apart trip = not (nat_eq trip.origin trip.destination)

-- whether each link of a walk may be followed by the next
abbrev pub turns_on : NetRows → List ℕ → Bool
turns_on net [] = true
turns_on net (a ∷ []) = true
turns_on net (a ∷ (b ∷ walk)) = is_some (turn net a b) && turns_on net (b ∷ walk)

-- whether the last link of a walk alone ends in the destination
abbrev pub ends_once : NetRows → ℕ → List ℕ → Bool
ends_once net destination [] = true
ends_once net destination (l ∷ []) = ends_in net destination l
ends_once net destination (l ∷ (k ∷ walk)) =
    not (ends_in net destination l) && ends_once net destination (k ∷ walk)

-- whether the first link of a walk begins in the origin
abbrev pub begins_there : NetRows → ℕ → List ℕ → Bool
begins_there net origin [] = false
begins_there net origin (l ∷ walk) = begins_in net origin l

-- whether links are a walk between zones
abbrev pub is_walk : NetRows → ℕ → ℕ → List ℕ → Bool
is_walk net origin destination walk =
    list_all (λ l. nat_lt l (length net.links)) walk
    && (begins_there net origin walk
    && (turns_on net walk && ends_once net destination walk))

-- whether routes are walks between the zones of trips, one a trip
abbrev pub are_walks : NetRows → List Trip → List (Option (List LinkNo)) → Bool
are_walks net [] [] = true
are_walks net [] (route ∷ routes) = false
are_walks net (trip ∷ trips) [] = false
are_walks net (trip ∷ trips) (None ∷ routes) = are_walks net trips routes
are_walks net (trip ∷ trips) (Some route ∷ routes) =
    is_walk net trip.origin trip.destination (link_numbers route) && are_walks net trips routes

-- whether a queue's backward wave, if it has one, is in range
abbrev pub is_queue : Queue → Bool
is_queue queue.Point = true
is_queue queue.Spatial = true
is_queue (queue.Newell wave) = nat_le 1 wave && nat_le wave MOST_WAVE

-- whether the plan of a loading is sound
abbrev pub is_sound : Plan → Bool
is_sound p =
    is_net p.net
    && ((nat_le 1 p.delta && nat_le p.delta MOST_STEP)
    && ((nat_le 1 p.horizon && nat_le p.horizon MOST_HORIZON)
    && (is_queue p.queue
    && ((nat_le (length p.trips) MOST_TRIPS && (are_numbered 0 p.trips && list_all apart p.trips))
    && ((rises p.trips && list_all (λ trip. nat_lt trip.departure p.horizon) p.trips)
    && are_walks p.net p.trips p.routes)))))
