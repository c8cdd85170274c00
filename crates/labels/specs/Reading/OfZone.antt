-- What the labels of one zone are read with.
use Rattle.std.specs.Prelude.{ℕ, Option}
use Rattle.labels.specs.Filling.Tables.{rests}
use Rattle.labels.specs.Reading.Paths.{Ways}
use Rattle.labels.specs.Reading.FirstLinks.{first_label}
use Rattle.labels.specs.Reading.Serves.{label_in, Fit, Serves}
use Rattle.labels.specs.States.Routers.{ways_to}
use Rattle.trip_costs.specs.WalkCosts.{enter_in, steps_in, table_in}
use Rattle.labels.specs.declared.reading.zone_labels.ZoneLabels.{ZoneLabels}

-- what is left from a state at a step to the zone
abbrev pub rest_to : ZoneLabels → ℕ → ℕ → ℕ
rest_to labels = rests labels.table.now labels.place

-- the label of a link at a step
abbrev pub label_to : ZoneLabels → ℕ → ℕ → Option ℕ
label_to labels = label_in (steps_in labels.costs) (rest_to labels) labels.router.now

-- the time from a step on by a first link
abbrev pub first_to : ZoneLabels → ℕ → ℕ → Option ℕ
first_to labels = first_label (enter_in labels.costs) (label_to labels)

-- the table has the zone's place, and as many states and links as the router and the times
abbrev pub AreFit : ZoneLabels → Type 0
AreFit labels = Fit labels.table.now labels.place labels.router.now (table_in labels.costs)

-- what walks to the zone read
abbrev pub ways_in : ZoneLabels → Ways
ways_in labels = ways_to (steps_in labels.costs) labels.net.now labels.zone

-- the labels are those of walks to the zone
abbrev pub AreServed : ZoneLabels → Type 0
AreServed labels = Serves labels.net.now labels.zone (steps_in labels.costs) (rest_to labels)
    labels.router.now
