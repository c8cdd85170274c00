-- What is true of every gap.
use Rattle.std.specs.Prelude.{◌≡◌, List, length, Option}
use Rattle.net_core.specs.declared.rows.LinkNo.{LinkNo}
use Rattle.net_core.specs.declared.rows.NetRows.{NetRows}
use Rattle.dta_model.specs.declared.trip.Trip.{Trip}
use Rattle.trip_costs.specs.Timings.{Timing}
use Rattle.gap.specs.Gap.{IsGapLine}
use Rattle.gap.specs.declared.line.GapLine.{GapLine}

-- routes and a table have one gap
abbrev pub LinesAreDetermined : Type 0
LinesAreDetermined =
    (costs : Timing) (net : NetRows) (trips : List Trip) (routes : List (Option (List LinkNo)))
    (a b : GapLine)
    → length routes ≡ length trips → IsGapLine costs net trips routes a
    → IsGapLine costs net trips routes b → a ≡ b
