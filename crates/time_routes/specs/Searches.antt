-- What a search for answers finds, vehicle by vehicle.
use Rattle.trip_costs.specs.WalkCosts.{timing}
use Rattle.std.specs.Prelude.{◌≢◌, ℕ, ◌<◌, List, [], length, get_or, All, Option}
use Rattle.net_core.specs.Network.{zones}
use Rattle.net_core.specs.declared.rows.LinkNo.{LinkNo}
use Rattle.net_core.specs.declared.rows.ZoneNo.{ZoneNo}
use Rattle.time_routes.specs.Answers.{AnswersMore, AreAnswers, IsAnswer}
use Rattle.time_routes.specs.Destinations.{asks_least, asks_walk, IsRight, LeastOf, WalkOf}
use Rattle.time_routes.specs.Tell.{LeadsTo, LeadsToFirst, Stands, Tells}
use Rattle.labels.specs.ToZone.{zone_numbers}
use Rattle.time_routes.specs.declared.answers.Answer.{Answer}
use Rattle.time_routes.specs.declared.search.Search.{Search}
use Rattle.time_routes.specs.declared.vehicles.Told.{Told}

-- the numbers of zones of the network
abbrev pub AreZones : Search → List ZoneNo → Type 0
AreZones s found = All (λ zone. zone.0 < length (zones s.net.now.nodes)) found

-- each zone to which some vehicle goes that is asked of is among some zones
abbrev pub HoldsAll : Search → List ZoneNo → Type 0
HoldsAll s found = (z : ℕ) → z < length (zones s.net.now.nodes) → get_or s.lists z [] ≢ []
    → Stands (zone_numbers found) z

-- a vehicle, of which something is asked, goes to a zone; to one of some zones
abbrev pub GoesTo : Search → ℕ → ℕ → Type 0
GoesTo s zone v = LeadsTo s.net.now s.trips.now s.asks.now zone v

abbrev pub GoesToAny : Search → List ZoneNo → ℕ → Type 0
GoesToAny s found v = LeadsToFirst s.net.now s.trips.now s.asks.now found (length found) v

-- an answer is right of its vehicle
abbrev pub IsRightAnswer : Search → Answer → Type 0
IsRightAnswer s answer = IsAnswer (timing s.costs) s.net.now s.trips.now s.asks.now answer

-- what is right of one vehicle is right of another
pub record IsServedBy (s : Search) (earlier later : ℕ) : Type 0 where
  pub least : (told : Option ℕ) → IsRight (LeastOf (timing s.costs) s.net.now)
      (asks_least s.asks.now) s.trips.now earlier told
      → IsRight (LeastOf (timing s.costs) s.net.now) (asks_least s.asks.now) s.trips.now later
      told
  pub walk : (told : Option (List LinkNo)) → IsRight (WalkOf (timing s.costs) s.net.now)
      (asks_walk s.asks.now) s.trips.now earlier told
      → IsRight (WalkOf (timing s.costs) s.net.now) (asks_walk s.asks.now) s.trips.now later
      told

-- right answers of some vehicles more
abbrev pub Answers : Search → (ℕ → Type 0) → List Answer → List Answer → Type 0
Answers s Now old new =
    AnswersMore (timing s.costs) s.net.now s.trips.now s.asks.now Now old new

-- all answers are right, and the vehicles that go to some zones are answered
abbrev pub AreOfZones : Search → List ZoneNo → List Answer → Type 0
AreOfZones s found answers =
    AreAnswers (timing s.costs) s.net.now s.trips.now s.asks.now (GoesToAny s found) answers

-- right answers are told of some vehicles more
abbrev pub TellsMore : Search → (ℕ → Type 0) → Told → Told → Type 0
TellsMore s Now old new = Tells (timing s.costs) s.net.now s.trips.now s.asks.now Now old new
