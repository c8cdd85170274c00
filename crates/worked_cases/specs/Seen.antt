-- What is seen of a loading, as data.
use Rattle.dta_model.specs.declared.loaded.Journey.{Journey}
use Rattle.worked_cases.specs.declared.seen.Seen.{Seen}

-- the journey that is written out
abbrev pub journey_seen : Seen → Journey
journey_seen seen = record { entries = seen.0.now; arrival = seen.1 }
