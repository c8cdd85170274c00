-- How what is told of vehicles grows, zone by zone.
use Rattle.trip_costs.specs.Timings.{Timing}
use Rattle.std.specs.Prelude.{◌≡◌, ℕ, ◌<◌, ◌||◌, Bool, false, cond, List, [], ◌∷◌, ◌++◌, length}
use Rattle.std.specs.Prelude.{Option, None, Some, map, slice_get}
use Rattle.net_core.specs.Network.{zone_number}
use Rattle.net_core.specs.declared.rows.NetRows.{NetRows}
use Rattle.net_core.specs.declared.rows.ZoneNo.{ZoneNo}
use Rattle.dta_model.specs.declared.trip.Trip.{Trip}
use Rattle.time_routes.specs.Destinations.{asks_least, asks_walk, IsRight, LeastOf, WalkOf}
use Rattle.labels.specs.States.Onwards.{zone_or_none}
use Rattle.time_routes.specs.declared.vehicles.Ask.{Ask}
use Rattle.time_routes.specs.declared.vehicles.Told.{Told}
use Rattle.time_routes.specs.declared.zone_memo.NamedZone.{NamedZone}
use Rattle.labels.specs.declared.states.zone_numbers.TheConstants.{NO_ZONE}

-- what was right stays so, and of some vehicles more it becomes so; what isn't asked stays as it
-- was
pub record Settles {X : Type 0} (asks : ℕ → Bool) (Right : ℕ → X → Type 0) (Now : ℕ → Type 0)
    (old new : List X) : Type 0 where
  pub as_many : length new ≡ length old
  pub unasked : (v : ℕ) → asks v ≡ false → slice_get new v ≡ slice_get old v
  pub kept : (v : ℕ) (x y : X) → slice_get old v ≡ Some x → Right v x → slice_get new v ≡ Some y
      → Right v y
  pub made : (v : ℕ) (y : X) → Now v → slice_get new v ≡ Some y → Right v y

-- the same of least times and of walks
pub record Tells (costs : Timing) (net : NetRows) (trips : List Trip) (asks : List Ask)
    (Now : ℕ → Type 0) (old new : Told) : Type 0 where
  pub leasts : Settles (asks_least asks) (IsRight (LeastOf costs net) (asks_least asks) trips) Now
      old.leasts.items new.leasts.items
  pub walks : Settles (asks_walk asks) (IsRight (WalkOf costs net) (asks_walk asks) trips) Now
      old.walks.items new.walks.items

-- the number of a zone is that of its name
abbrev pub IsNamed : NetRows → NamedZone → Type 0
IsNamed net zone = zone.number ≡ zone_or_none (zone_number net zone.name)

-- the numbers of the zones in which trips begin
abbrev pub origins_of : NetRows → List Trip → List ℕ
origins_of net trips = map (λ trip. zone_or_none (zone_number net trip.origin)) trips

-- the number of the zone to which a trip leads, or the one that stands for none where nothing is
-- asked of its vehicle
abbrev pub wanted : NetRows → Trip → Ask → ℕ
wanted net trip ask = cond (ask.least || ask.walk) (zone_or_none (zone_number net trip.destination))
    NO_ZONE

abbrev pub wanted_in : NetRows → Option Trip → Option Ask → ℕ
wanted_in net None ask = NO_ZONE
wanted_in net (Some trip) None = NO_ZONE
wanted_in net (Some trip) (Some ask) = wanted net trip ask

-- that of the vehicle at a place of the list
abbrev pub wanted_zone : NetRows → List Trip → List Ask → ℕ → ℕ
wanted_zone net trips asks v = wanted_in net (slice_get trips v) (slice_get asks v)

-- zones with one more, where some vehicle goes there
abbrev pub noted : List ZoneNo → ZoneNo → List ℕ → List ZoneNo
noted found zone [] = found
noted found zone (v ∷ vehicles) = found ++ zone ∷ []

-- a number stands in a list
abbrev pub Stands : List ℕ → ℕ → Type 0
Stands numbers v = (k : ℕ) × (slice_get numbers k ≡ Some v)

-- it stands before a place of the list
abbrev pub StandsBefore : List ℕ → ℕ → ℕ → Type 0
StandsBefore numbers count v = (k : ℕ) × (k < count) × (slice_get numbers k ≡ Some v)

-- a vehicle, of which something is asked, whose trip leads to a zone
pub record LeadsTo (net : NetRows) (trips : List Trip) (asks : List Ask) (zone v : ℕ) : Type 0 where
  pub within : v < length trips
  pub to : wanted_zone net trips asks v ≡ zone
  pub number : zone < NO_ZONE

-- one whose trip leads to one of the first zones of a list
abbrev pub LeadsToFirst : NetRows → List Trip → List Ask → List ZoneNo → ℕ → ℕ → Type 0
LeadsToFirst net trips asks zones count v =
    (k : ℕ) × (zone : ZoneNo) × (k < count) × (slice_get zones k ≡ Some zone)
    × LeadsTo net trips asks zone.0 v

-- there is room for what is told of so many vehicles
pub record AreAsMany (told : Told) (count : ℕ) : Type 0 where
  pub leasts : length told.leasts.items ≡ count
  pub walks : length told.walks.items ≡ count
