-- Searches by the labels of one zone.
use Rattle.std.specs.Prelude.{ℕ, List}
use Rattle.labels.specs.Reading.OfZone.{rest_to, ways_in}
use Rattle.labels.specs.Reading.Searches.{IsSearched}
use Rattle.trip_costs.specs.WalkCosts.{enter_in}
use Rattle.labels.specs.declared.reading.reached.Reached.{Reached}
use Rattle.labels.specs.declared.reading.zone_labels.ZoneLabels.{ZoneLabels}

-- how far a search by the labels has come
abbrev pub IsSearchedTo : ZoneLabels → List ℕ → ℕ → ℕ → List Reached → ℕ → ℕ → ℕ → Type 0
IsSearchedTo labels firsts s m =
    IsSearched (ways_in labels) (rest_to labels) labels.router.now (enter_in labels.costs) firsts s
    m
