-- What is asked of vehicles over the costs, and what is told of them.
use Rattle.trip_costs.specs.Timings.{Timing}
use Rattle.std.specs.Prelude.{◌≡◌, ℕ, Bool, true, false, List, length, Option, None, Some}
use Rattle.std.specs.Prelude.{slice_get}
use Rattle.net_core.specs.declared.rows.LinkNo.{LinkNo}
use Rattle.net_core.specs.declared.rows.NetRows.{NetRows}
use Rattle.dta_model.specs.declared.trip.Trip.{Trip}
use Rattle.labels.specs.ToZone.{TellsLeast, TellsWalk}
use Rattle.time_routes.specs.declared.vehicles.Ask.{Ask}
use Rattle.time_routes.specs.declared.vehicles.Told.{Told}

-- whether the least time of a vehicle is asked for, and whether its walk is
abbrev pub asked_least : Option Ask → Bool
asked_least None = false
asked_least (Some ask) = ask.least

abbrev pub asked_walk : Option Ask → Bool
asked_walk None = false
asked_walk (Some ask) = ask.walk

abbrev pub asks_least : List Ask → ℕ → Bool
asks_least asks v = asked_least (slice_get asks v)

abbrev pub asks_walk : List Ask → ℕ → Bool
asks_walk asks v = asked_walk (slice_get asks v)

-- the least time of a trip from its departure, or that there is no walk; and its chosen walk
abbrev pub LeastOf : Timing → NetRows → Trip → Option ℕ → Type 0
LeastOf costs net trip told = TellsLeast costs net trip.origin trip.destination trip.departure told

abbrev pub WalkOf : Timing → NetRows → Trip → Option (List LinkNo) → Type 0
WalkOf costs net trip told = TellsWalk costs net trip.origin trip.destination trip.departure told

-- what is told of a vehicle is right, where it is asked
abbrev pub IsRight : {X : Type 0} → (Trip → X → Type 0) → (ℕ → Bool) → List Trip → ℕ → X → Type 0
IsRight Tells asks trips v x = (trip : Trip) → asks v ≡ true → slice_get trips v ≡ Some trip
    → Tells trip x

-- something is told of each vehicle of which it is asked
pub record AreTold {X : Type 0} (Tells : Trip → X → Type 0) (asks : ℕ → Bool) (trips : List Trip)
    (told : List X) : Type 0 where
  pub as_many : length told ≡ length trips
  pub each : (v : ℕ) (x : X) → slice_get told v ≡ Some x → IsRight Tells asks trips v x

-- nothing is told of a vehicle of which it isn't asked
abbrev pub UnaskedAreNone : {X : Type 0} → (ℕ → Bool) → List (Option X) → Type 0
UnaskedAreNone {X} asks told = (v : ℕ) (x : Option X) → asks v ≡ false → slice_get told v ≡ Some x
    → x ≡ None

-- all that is asked of vehicles is told, and nothing else
pub record IsAllTold (costs : Timing) (net : NetRows) (trips : List Trip) (asks : List Ask)
    (told : Told) : Type 0 where
  pub leasts : AreTold (LeastOf costs net) (asks_least asks) trips told.leasts.items
  pub walks : AreTold (WalkOf costs net) (asks_walk asks) trips told.walks.items
  pub unasked_leasts : UnaskedAreNone (asks_least asks) told.leasts.items
  pub unasked_walks : UnaskedAreNone (asks_walk asks) told.walks.items
