-- Small demand tables, computed from their bytes.
use Rattle.std.specs.Prelude.{ℕ, ◌≡◌, List, [], ◌∷◌, ◌++◌, Result, Ok, Err, codes, refl}
use Rattle.desk_io.specs.declared.desk.Table.TheVariants as table
use Rattle.row_reader.specs.Records.{records}
use Rattle.row_reader.specs.declared.faults.Code.{Code}
use Rattle.row_reader.specs.declared.faults.Code.TheVariants as code
use Rattle.row_reader.specs.declared.faults.Column.{Column}
use Rattle.row_reader.specs.declared.faults.Column.TheVariants as column
use Rattle.row_reader.specs.declared.faults.TableFault.{TableFault}
use Rattle.dta_model.specs.declared.trip.DemandCell.{DemandCell}
use Rattle.demand.specs.DemandRows.{demand_verdict}
use Rattle.demand.specs.OnLiterals.{demand_on_literals}
use Rattle.demand.specs.declared.demand_rows.TheConstants.{FIRST_LINE, MOST_DEMAND_CELLS}

-- a demand cell, with its volume in thousandths and its window
cell_within : ℕ → ℕ → ℕ → ℕ → ℕ → ℕ → DemandCell
cell_within line origin destination volume from to = record {
  line = line;
  origin = origin;
  destination = destination;
  volume = volume;
  from = from;
  to = to;
}

-- the same over a period of sixteen steps
cell : ℕ → ℕ → ℕ → ℕ → DemandCell
cell line origin destination volume = cell_within line origin destination volume 0 16

-- a table that has this fault
refused : ℕ → Code → Column → Result (List DemandCell) TableFault
refused line why what =
    Err (record { table = table.Demand; line = line; code = why; column = what })

-- ---- demand cells

header_alone : demand_verdict 16 (records (codes "o_zone_id,d_zone_id,volume\n")) ≡ Ok []
unfolding demand_on_literals
header_alone = refl

one_cell : demand_verdict 16 (records (codes "o_zone_id,d_zone_id,volume\n1,3,3\n"))
    ≡ Ok (cell 2 1 3 3000 ∷ [])
unfolding demand_on_literals cell cell_within
one_cell = refl

-- each demand cell keeps its line
three_small_volumes :
    demand_verdict 16 (records (codes "o_zone_id,d_zone_id,volume\n1,3,0.4\n1,3,0.4\n1,3,.4\n"))
    ≡ Ok (cell 2 1 3 400 ∷ cell 3 1 3 400 ∷ cell 4 1 3 400 ∷ [])
unfolding demand_on_literals cell cell_within
three_small_volumes = refl

-- columns in another order, one that is passed over, blanks, and numbers in other spellings;
-- an empty line is no record, and two rows may have the same zones, or a row one zone twice
lenient_cells : demand_verdict 16 (records
    (codes "volume, d_zone_id ,name,o_zone_id\n1e1, 007 ,a,1.0\n\n0,5,,5\n0,5,,5\n"))
    ≡ Ok (cell 2 1 7 10000 ∷ cell 3 5 5 0 ∷ cell 4 5 5 0 ∷ [])
unfolding demand_on_literals cell cell_within
lenient_cells = refl

-- the greatest quantity
greatest_volume : demand_verdict 16 (records (codes "o_zone_id,d_zone_id,volume\n1,3,1000000000\n"))
    ≡ Ok (cell 2 1 3 1000000000000 ∷ [])
unfolding demand_on_literals cell cell_within
greatest_volume = refl

-- windows: given, from the start of the period, and to its end; blanks and leading zeros are as in
-- other identifiers, and a row may depart in one step
windows : demand_verdict 16 (records
    (codes "o_zone_id,d_zone_id,volume,from_step,to_step\n1,3,2,5,9\n1,3,1,,4\n1,3,1, 15.0 ,016\n"))
    ≡ Ok (cell_within 2 1 3 2000 5 9 ∷ cell_within 3 1 3 1000 0 4
    ∷ cell_within 4 1 3 1000 15 16 ∷ [])
unfolding demand_on_literals cell_within
windows = refl

-- one of the two columns alone
only_ends : demand_verdict 16 (records (codes "to_step,o_zone_id,d_zone_id,volume\n4,1,3,2\n"))
    ≡ Ok (cell_within 2 1 3 2000 0 4 ∷ [])
unfolding demand_on_literals cell_within
only_ends = refl

-- ---- first faults

-- a table of no records lacks its first column
no_table : demand_verdict 16 [] ≡ refused 1 code.E1 column.OZoneId
unfolding demand_on_literals refused
no_table = refl

-- of the columns that are missing the first one in the order of the formats is told
no_zones : demand_verdict 16 (records (codes "volume,from,to\n"))
    ≡ refused 1 code.E1 column.OZoneId
unfolding demand_on_literals refused
no_zones = refl

no_destination : demand_verdict 16 (records (codes "o_zone_id\n1\n"))
    ≡ refused 1 code.E1 column.DZoneId
unfolding demand_on_literals refused
no_destination = refl

no_volume : demand_verdict 16 (records (codes "d_zone_id,o_zone_id\n"))
    ≡ refused 1 code.E1 column.Volume
unfolding demand_on_literals refused
no_volume = refl

-- a record that isn't as long as the header
short_record : demand_verdict 16 (records (codes "o_zone_id,d_zone_id,volume\n1,3\n"))
    ≡ refused 2 code.E2 column.NoColumn
unfolding demand_on_literals refused
short_record = refl

-- empty fields
empty_origin : demand_verdict 16 (records (codes "o_zone_id,d_zone_id,volume\n,3,1\n"))
    ≡ refused 2 code.E3 column.OZoneId
unfolding demand_on_literals refused
empty_origin = refl

empty_destination : demand_verdict 16 (records (codes "o_zone_id,d_zone_id,volume\n1, ,1\n"))
    ≡ refused 2 code.E3 column.DZoneId
unfolding demand_on_literals refused
empty_destination = refl

empty_volume : demand_verdict 16 (records (codes "o_zone_id,d_zone_id,volume\n1,3,\n"))
    ≡ refused 2 code.E3 column.Volume
unfolding demand_on_literals refused
empty_volume = refl

-- fields that are no number of their kind
origin_of_another_form : demand_verdict 16 (records (codes "o_zone_id,d_zone_id,volume\n1e0,3,1\n"))
    ≡ refused 2 code.E4 column.OZoneId
unfolding demand_on_literals refused
origin_of_another_form = refl

destination_of_another_form :
    demand_verdict 16 (records (codes "o_zone_id,d_zone_id,volume\n1,x,1\n"))
    ≡ refused 2 code.E4 column.DZoneId
unfolding demand_on_literals refused
destination_of_another_form = refl

volume_of_another_form : demand_verdict 16 (records (codes "o_zone_id,d_zone_id,volume\n1,3,1 0\n"))
    ≡ refused 2 code.E4 column.Volume
unfolding demand_on_literals refused
volume_of_another_form = refl

-- numbers out of range
origin_out_of_range : demand_verdict 16 (records (codes "o_zone_id,d_zone_id,volume\n-1,3,1\n"))
    ≡ refused 2 code.E5 column.OZoneId
unfolding demand_on_literals refused
origin_out_of_range = refl

destination_out_of_range :
    demand_verdict 16 (records (codes "o_zone_id,d_zone_id,volume\n1,9223372036854775808,1\n"))
    ≡ refused 2 code.E5 column.DZoneId
unfolding demand_on_literals refused
destination_out_of_range = refl

volume_out_of_range :
    demand_verdict 16 (records (codes "o_zone_id,d_zone_id,volume\n1,3,1000000000.001\n"))
    ≡ refused 2 code.E5 column.Volume
unfolding demand_on_literals refused
volume_out_of_range = refl

-- the verdict on a row from zone 1 to zone 3 with this window, in a period of sixteen steps
abbrev windowed : List ℕ → Result (List DemandCell) TableFault
windowed window = demand_verdict 16
    (records (codes "o_zone_id,d_zone_id,volume,from_step,to_step\n1,3,2," ++ window))

-- a window that begins after the last step, ends in or before its first one, or ends after the
-- period
begins_late : windowed (codes "16,\n") ≡ refused 2 code.E5 column.FromStep
unfolding demand_on_literals refused
begins_late = refl

ends_at_its_begin : windowed (codes "4,4\n") ≡ refused 2 code.E5 column.ToStep
unfolding demand_on_literals refused
ends_at_its_begin = refl

ends_before_its_begin : windowed (codes "2,1\n") ≡ refused 2 code.E5 column.ToStep
unfolding demand_on_literals refused
ends_before_its_begin = refl

ends_at_0 : windowed (codes ",0\n") ≡ refused 2 code.E5 column.ToStep
unfolding demand_on_literals refused
ends_at_0 = refl

ends_late : windowed (codes ",17\n") ≡ refused 2 code.E5 column.ToStep
unfolding demand_on_literals refused
ends_late = refl

-- steps are identifiers
begin_of_another_form : windowed (codes "5.5,9\n") ≡ refused 2 code.E4 column.FromStep
unfolding demand_on_literals refused
begin_of_another_form = refl

end_of_another_form : windowed (codes "5,1e1\n") ≡ refused 2 code.E4 column.ToStep
unfolding demand_on_literals refused
end_of_another_form = refl

begin_below_0 : windowed (codes "-0,9\n") ≡ refused 2 code.E5 column.FromStep
unfolding demand_on_literals refused
begin_below_0 = refl

-- the begin comes before the end, and both also where a row leads from a zone to itself
begin_before_end : windowed (codes "16,x\n") ≡ refused 2 code.E5 column.FromStep
unfolding demand_on_literals refused
begin_before_end = refl

window_within_a_zone : demand_verdict 16
    (records (codes "o_zone_id,d_zone_id,volume,from_step\n1,1,5,16\n"))
    ≡ refused 2 code.E5 column.FromStep
unfolding demand_on_literals refused
window_within_a_zone = refl

-- of two faults that of the lesser line is told, and in one line that of the column that comes
-- first
two_lines : demand_verdict 16 (records (codes "o_zone_id,d_zone_id,volume\n1,3,1\n1,3,-1\n,3,1\n"))
    ≡ refused 3 code.E5 column.Volume
unfolding demand_on_literals refused
two_lines = refl

one_line : demand_verdict 16 (records (codes "volume,d_zone_id,o_zone_id\nx,,-1\n"))
    ≡ refused 2 code.E5 column.OZoneId
unfolding demand_on_literals refused
one_line = refl

-- ---- the numbers of the formats
most_cells : MOST_DEMAND_CELLS ≡ 4000000
most_cells = refl

first_line : FIRST_LINE ≡ 2
first_line = refl
