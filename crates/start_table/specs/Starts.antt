-- The rows of a start table, and the walks by which they fit vehicles.
use Rattle.std.specs.Prelude.{◌≡◌, ℕ, ◌≤◌, List, length, map, Option, Some, None, nat_eq}
use Rattle.std.specs.Prelude.{option_and_then, slice_get}
use Rattle.std.specs.List.{IsDistinct}
use Rattle.net_core.specs.Ids.{place_of}
use Rattle.net_core.specs.Rows.{link_named}
use Rattle.net_core.specs.declared.rows.LinkNo.{LinkNo}
use Rattle.net_core.specs.declared.rows.NetRows.{NetRows}
use Rattle.dta_model.specs.Plans.{link_numbers}
use Rattle.dta_model.specs.Walks.{IsWalk}
use Rattle.dta_model.specs.declared.trip.Trip.{Trip}
use Rattle.start_table.specs.declared.rows.StartRow.{StartRow}
use Rattle.start_table.specs.declared.rows.TheConstants.{MOST_START_ROWS}

-- the agents of rows, in the order of their table
abbrev pub agents_of : List StartRow → List ℕ
agents_of rows = map (λ row. row.agent) rows

-- the row of an agent
abbrev pub row_of : List StartRow → ℕ → Option StartRow
row_of rows agent = option_and_then (slice_get rows) (place_of (agents_of rows) agent)

-- rows of a start table: of different agents, and no more than there may be
pub record AreStartRows (rows : List StartRow) : Type 0 where
  pub distinct : IsDistinct nat_eq (agents_of rows)
  pub few : length rows ≤ MOST_START_ROWS

-- each identifier is that of a link, and these are the links in order
abbrev pub AreNamed : NetRows → List ℕ → List LinkNo → Type 0
AreNamed net ids links = map (link_named net.links) ids ≡ map Some links

-- identifiers name a walk between two zones
pub record IsNamedWalk
    (net : NetRows) (origin destination : ℕ) (ids : List ℕ) (walk : List LinkNo) : Type 0 where
  pub names : AreNamed net ids walk
  pub walks : IsWalk net origin destination (link_numbers walk)

-- what identifiers name: a walk between two zones, or none
abbrev pub TellsWalk : NetRows → ℕ → ℕ → List ℕ → Option (List LinkNo) → Type 0
TellsWalk net origin destination ids None =
    (walk : List LinkNo) → IsNamedWalk net origin destination ids walk → ⊥
TellsWalk net origin destination ids (Some walk) = IsNamedWalk net origin destination ids walk

-- a row fits a vehicle by a walk: its agent is the vehicle's number, its zones are those of the
-- vehicle's trip, and its links name the walk, which leads between these zones
pub record Fits (net : NetRows) (trip : Trip) (row : StartRow) (walk : List LinkNo) : Type 0 where
  pub agent : row.agent ≡ trip.number
  pub origin : row.origin ≡ trip.origin
  pub destination : row.destination ≡ trip.destination
  pub names : AreNamed net row.links walk
  pub walks : IsWalk net trip.origin trip.destination (link_numbers walk)

-- what a row tells of a vehicle: the walk by which it fits it, or that it doesn't
abbrev pub TellsFit : NetRows → Trip → StartRow → Option (List LinkNo) → Type 0
TellsFit net trip row None = (walk : List LinkNo) → Fits net trip row walk → ⊥
TellsFit net trip row (Some walk) = Fits net trip row walk

-- some row of a start table fits a vehicle by a walk
abbrev pub IsStarted : NetRows → List StartRow → Trip → List LinkNo → Type 0
IsStarted net start trip walk =
    (r : ℕ) × (row : StartRow) × (slice_get start r ≡ Some row) × Fits net trip row walk

-- no row fits a vehicle
abbrev pub HasNoStart : NetRows → List StartRow → Trip → Type 0
HasNoStart net start trip = (walk : List LinkNo) → IsStarted net start trip walk → ⊥

-- what a start table tells of a vehicle: the walk of a row that fits it, or that none does
abbrev pub TellsStart : NetRows → List StartRow → Trip → Option (List LinkNo) → Type 0
TellsStart net start trip None = HasNoStart net start trip
TellsStart net start trip (Some walk) = IsStarted net start trip walk
