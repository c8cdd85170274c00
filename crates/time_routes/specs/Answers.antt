-- What is answered of vehicles, each by itself.
use Rattle.trip_costs.specs.Timings.{Timing}
use Rattle.std.specs.Prelude.{◌≡◌, ◌≢◌, ℕ, ◌<◌, ◌≤◌, List, length, map, All}
use Rattle.net_core.specs.AreListed.{AreListed}
use Rattle.net_core.specs.Network.{numbers_below, zones}
use Rattle.net_core.specs.declared.rows.NetRows.{NetRows}
use Rattle.dta_model.specs.LinkTimes.{TimeTable}
use Rattle.dta_model.specs.declared.trip.Trip.{Trip}
use Rattle.time_routes.specs.Destinations.{asks_least, asks_walk, IsRight, LeastOf, WalkOf}
use Rattle.time_routes.specs.Tell.{origins_of, Stands, wanted_zone}
use Rattle.time_routes.specs.declared.answers.Answer.{Answer}
use Rattle.time_routes.specs.declared.vehicles.Ask.{Ask}
use Rattle.labels.specs.declared.states.zone_numbers.TheConstants.{NO_ZONE}

-- an answer that is right of its vehicle, in what is asked
pub record IsAnswer (costs : Timing) (net : NetRows) (trips : List Trip) (asks : List Ask)
    (answer : Answer) : Type 0 where
  pub within : answer.vehicle < length trips
  pub least : IsRight (LeastOf costs net) (asks_least asks) trips answer.vehicle answer.least
  pub walk : IsRight (WalkOf costs net) (asks_walk asks) trips answer.vehicle answer.walk

-- the vehicles of answers
abbrev pub answered : List Answer → List ℕ
answered answers = map (λ answer. answer.vehicle) answers

-- all answers are right, and some vehicles are answered
pub record AreAnswers (costs : Timing) (net : NetRows) (trips : List Trip) (asks : List Ask)
    (Now : ℕ → Type 0) (answers : List Answer) : Type 0 where
  pub right : All (IsAnswer costs net trips asks) answers
  pub each : (v : ℕ) → Now v → Stands (answered answers) v

-- answers that were right stay so, who was answered stays so, and some vehicles more are answered
pub record AnswersMore (costs : Timing) (net : NetRows) (trips : List Trip) (asks : List Ask)
    (Now : ℕ → Type 0) (old new : List Answer) : Type 0 where
  pub right : All (IsAnswer costs net trips asks) old → All (IsAnswer costs net trips asks) new
  pub kept : (v : ℕ) → Stands (answered old) v → Stands (answered new) v
  pub made : (v : ℕ) → Now v → Stands (answered new) v

-- what serves a search for answers: a table of the network's links, and vehicles by where they go
-- and where they begin
pub record IsSearch (net : NetRows) (times : TimeTable) (trips : List Trip) (asks : List Ask)
    (lists : List (List ℕ)) (origins : List ℕ) : Type 0 where
  pub table : length times.free ≡ length net.links
  pub apart : All (λ trip. trip.origin ≢ trip.destination) trips
  pub each : length asks ≡ length trips
  pub grouped : AreListed lists (length (zones net.nodes)) (wanted_zone net trips asks)
      (numbers_below (length trips))
  pub numbers : length (zones net.nodes) ≤ NO_ZONE
  pub begins : origins ≡ origins_of net trips
