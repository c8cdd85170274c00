-- Vehicles that enter a link, and how many of them go between two zones.
use Rattle.std.specs.List.{flat_map, list_any}
use Rattle.std.specs.Prelude.{ℕ, suc, max, Bool, false, ◌&&◌, nat_eq, List, [], ◌∷◌, map, count_by}
use Rattle.std.specs.Prelude.{Option, None, Some, slice_get}
use Rattle.net_core.specs.Network.{numbers_below}
use Rattle.dta_model.specs.Loading.{trace_after}
use Rattle.dta_model.specs.Plans.{vehicles_of}
use Rattle.dta_model.specs.Trace.{Move, leads_to, moves_of}
use Rattle.dta_model.specs.declared.plan.Plan.{Plan}
use Rattle.dta_model.specs.declared.trip.Trip.{Trip}
use Rattle.counts.specs.Counting.{counts_of}
use Rattle.counts.specs.declared.through.ZonePair.{ZonePair}
use Rattle.counts.specs.declared.through_counts.ThroughCount.{ThroughCount}

-- whether a vehicle enters link l: some move of it leads there
unfoldable pub enters : ℕ → List Move → ℕ → Bool
enters l T v = list_any (leads_to l) (moves_of v T)

abbrev pub pair : ℕ → ℕ → ZonePair
pair origin destination = record { origin = origin; destination = destination }

-- the zones of a trip, by their identifiers
abbrev pub zones_in : Option Trip → Option ZonePair
zones_in None = None
zones_in (Some trip) = Some (pair trip.origin trip.destination)

abbrev pub is_pair : ZonePair → ZonePair → Bool
is_pair q x = nat_eq x.origin q.origin && nat_eq x.destination q.destination

abbrev pub is_that : ZonePair → Option ZonePair → Bool
is_that q None = false
is_that q (Some x) = is_pair q x

-- whether a vehicle goes between these zones
unfoldable pub goes_between : Plan → ZonePair → ℕ → Bool
goes_between p q v = is_that q (zones_in (slice_get p.trips v))

-- how many of some vehicles go between these zones and enter link l
unfoldable pub number_through : Plan → ℕ → List Move → ZonePair → List ℕ → ℕ
number_through p l T q vehicles = count_by (λ v. goes_between p q v && enters l T v) vehicles

-- a number above the identifiers of all zones of trips
unfoldable pub above_zones : List Trip → ℕ
above_zones [] = 0
above_zones (trip ∷ trips) = max (suc (max trip.origin trip.destination)) (above_zones trips)

-- the pairs of identifiers below a number: by the value of the origin, and then of the destination
unfoldable pub pairs_from : ℕ → ℕ → List ZonePair
pairs_from most origin = map (pair origin) (numbers_below most)

unfoldable pub all_pairs : ℕ → List ZonePair
all_pairs most = flat_map (pairs_from most) (numbers_below most)

abbrev pub through_count : ZonePair → ℕ → ThroughCount
through_count q vehicles =
    record { origin = q.origin; destination = q.destination; vehicles = vehicles }

-- the through counts of link l in a trace: how many vehicles of each pair of zones enter it, in
-- order, without those of 0
unfoldable pub through_counts_in : Plan → ℕ → List Move → List ThroughCount
through_counts_in p l T =
    counts_of through_count (λ q. number_through p l T q (vehicles_of p))
    (all_pairs (above_zones p.trips))

-- and those of a loading
unfoldable pub through_counts : Plan → ℕ → List ThroughCount
through_counts p l = through_counts_in p l (trace_after p p.horizon)
