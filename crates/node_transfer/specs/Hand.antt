-- Journeys that riders hand over.
use Rattle.std.specs.Prelude.{ℕ, ◌<◌, List, [], ◌∷◌, ◌++◌, slice_set}
use Rattle.std.specs.List.{flat_map}
use Rattle.dta_model.specs.Riders.{RiderState}
use Rattle.dta_model.specs.declared.loaded.Journey.{Journey}
use Rattle.cell_stages.specs.declared.in_link.InLink.{InLink}
use Rattle.cell_stages.specs.declared.out_link.OutLink.{OutLink}
use Rattle.cell_stages.specs.CellState.{CellState}

-- the journey of a rider
abbrev pub journey_by : RiderState → Journey
journey_by r = record { entries = r.entries; arrival = r.arrival }

-- a rider whose number is below a bound
abbrev pub Within : ℕ → RiderState → Type 0
Within n r = r.number < n

-- the journey of each rider is set at its number
unfoldable pub handed : List RiderState → List Journey → List Journey
handed [] loaded = loaded
handed (r ∷ riders) loaded = handed riders (slice_set loaded r.number (journey_by r))

-- who stands on an in-link
abbrev pub line_of : InLink → List RiderState
line_of link = link.line

-- who waits for an out-link: those who are due, and then the later ones
abbrev pub waiting_of : OutLink → List RiderState
waiting_of o = o.waiting.due ++ o.waiting.later

-- the riders of a cell: on its in-links, waiting for its out-links, and arrived
abbrev pub riders_in : CellState → List RiderState
riders_in s = flat_map line_of s.ins ++ (flat_map waiting_of s.outs ++ s.arrived)
