-- The tables of a grid have no fault by the definitions of the table readers, and give these rows.
use Rattle.std.specs.Prelude.{ℕ, ◌≡◌, ◌+◌, ◌-◌, ◌*◌, ◌≤◌, nat_eq, List, [], ◌∷◌, map}
use Rattle.std.specs.Prelude.{length, if◌then◌else◌, Ok}
use Rattle.std.specs.List.{flat_map, range_with_len, zip}
use Rattle.fixed_units.specs.Units.{length_of, link_rate_of, speed_of, steps_at_free_speed}
use Rattle.fixed_units.specs.Units.{storage_of}
use Rattle.fixed_units.specs.declared.measure.Length.{Length}
use Rattle.fixed_units.specs.declared.measure.LengthUnit.{LengthUnit}
use Rattle.fixed_units.specs.declared.measure.LengthUnit.TheVariants.{Metre}
use Rattle.fixed_units.specs.declared.units.Units.{Units}
use Rattle.desk_io.specs.declared.transfers.TheConstants.{MOST_TABLE_BYTES}
use Rattle.row_reader.specs.Records.{records}
use Rattle.net_core.specs.declared.rows.LinkRow.{LinkRow}
use Rattle.net_core.specs.declared.rows.NodeNo.{NodeNo}
use Rattle.net_core.specs.declared.rows.NodeRow.{NodeRow}
use Rattle.dta_model.specs.Release.{vehicles_before}
use Rattle.dta_model.specs.declared.trip.DemandCell.{DemandCell}
use Rattle.gmns_tables.specs.Links.{link_verdict}
use Rattle.gmns_tables.specs.Nodes.{node_verdict}
use Rattle.gmns_tables.specs.declared.with_windows.WithWindows.{WithWindows}
use Rattle.demand.specs.DemandRows.{demand_verdict}
use Rattle.grid_maker.specs.declared.links.GridLink.{GridLink}
use Rattle.grid_maker.specs.declared.maker.TheConstants.{LEAST_SIDE, MOST_SIDE}
use Rattle.grid_maker.specs.declared.places.Place.{Place}
use Rattle.grid_maker.specs.Grid.{demand_text, link_text, node_text, zones}
use Rattle.grid_maker.specs.Links as grid
use Rattle.grid_maker.specs.Places.{places, node_id, zone_id}

-- each thing with its number, counted from 1
abbrev pub numbered : {X : Type 0} → List X → List (ℕ × X)
numbered xs = zip (range_with_len 1 (length xs)) xs

-- the rows of the node table: a node for each place, in order
abbrev pub node_row : ℕ → Place → NodeRow
node_row n place = record { id = node_id n place; zone = zone_id n place }

abbrev pub node_rows : ℕ → List NodeRow
node_rows n = map (node_row n) (places n)

-- the number of the node at a place, counted from 0
abbrev pub node_number : ℕ → Place → NodeNo
node_number n place = record { 0 = place.row * n + place.column }

-- how long a link is, where lengths are in this unit
abbrev pub length_in : LengthUnit → GridLink → Length
length_in unit link = length_of (1000 * grid.length_of link) unit

-- the steps that a link takes at its free speed
abbrev pub steps_in : Units → GridLink → ℕ
steps_in units link =
    steps_at_free_speed (length_in units.length link) (speed_of 40000 units.speed) units.delta

-- the rows of the link table: each link has its number as its identifier, one lane, and the same
-- rate in all steps
abbrev pub link_row : ℕ → Units → ℕ × GridLink → WithWindows LinkRow
link_row n units link = record {
  row = record {
    id = link.0;
    from = node_number n link.1.from;
    to = node_number n link.1.to;
    micrometres = (length_in units.length link.1).micrometres;
    free = steps_in units link.1;
    storage = storage_of (length_in units.length link.1) 1000 units.jam;
    rate = link_rate_of 900000 1000;
  };
  windows = [];
}

abbrev pub link_rows : ℕ → Units → List (WithWindows LinkRow)
link_rows n units = map (link_row n units) (numbered (grid.links n))

-- the ordered pairs of different zones
abbrev pub zones_from : ℕ → List (ℕ × ℕ)
zones_from o = flat_map (λ d. if nat_eq o d then [] else (o, d) ∷ []) zones

abbrev pub zone_pairs : List (ℕ × ℕ)
zone_pairs = flat_map zones_from zones

-- the demand cells: 25 n vehicles for each pair over the whole period, at the lines below the
-- header
abbrev pub demand_cell : (period n : ℕ) → ℕ × (ℕ × ℕ) → DemandCell
demand_cell period n pair = record {
  line = pair.0 + 1;
  origin = pair.1.0;
  destination = pair.1.1;
  volume = 1000 * (25 * n);
  from = 0;
  to = period;
}

abbrev pub demand_cells : (period n : ℕ) → List DemandCell
demand_cells period n = map (demand_cell period n) (numbered zone_pairs)

-- what the readers tell of the tables of a grid: none has a fault, whatever the step, the jam
-- density, the unit of speeds and the period, and none is too long
pub record IsAcceptedGrid (n : ℕ) : Type 0 where
  pub nodes : node_verdict (records (node_text n)) ≡ Ok (node_rows n)
  pub links : (units : Units) → 1 ≤ units.delta → units.length ≡ Metre
      → link_verdict (node_rows n) units (records (link_text n)) ≡ Ok (link_rows n units)
  pub demand : (period : ℕ) → 1 ≤ period
      → demand_verdict period (records (demand_text n)) ≡ Ok (demand_cells period n)
  pub short : (length (node_text n) ≤ MOST_TABLE_BYTES) × (length (link_text n) ≤ MOST_TABLE_BYTES)
      × (length (demand_text n) ≤ MOST_TABLE_BYTES)
  -- there are 4 n (n - 1) links and 300 n vehicles
  pub link_count : length (grid.links n) ≡ 4 * (n * (n - 1))
  pub vehicle_count : (period : ℕ)
      → vehicles_before (demand_cells period n) (length zone_pairs) ≡ 300 * n

-- the law that each grid is accepted
abbrev pub GridsAreAccepted : Type 0
GridsAreAccepted = (n : ℕ) → LEAST_SIDE ≤ n → n ≤ MOST_SIDE → IsAcceptedGrid n
