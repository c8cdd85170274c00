-- The names by which texts call tables, codes and columns.
use Rattle.std.specs.Prelude.{ℕ, List, codes}
use Rattle.desk_io.specs.declared.desk.Table.{Table}
use Rattle.desk_io.specs.declared.desk.Table.TheVariants as table
use Rattle.row_reader.specs.declared.faults.Code.{Code}
use Rattle.row_reader.specs.declared.faults.Code.TheVariants as code
use Rattle.row_reader.specs.declared.faults.Column.{Column}
use Rattle.row_reader.specs.declared.faults.Column.TheVariants as column

abbrev pub table_name : Table → List ℕ
table_name table.Node = codes "node"
table_name table.Link = codes "link"
table_name table.Movement = codes "movement"
table_name table.Demand = codes "demand"
table_name table.Start = codes "start"
table_name table.Times = codes "times"

-- a code, and after a space its name
abbrev pub code_name : Code → List ℕ
code_name code.E1 = codes "E1 MissingColumn"
code_name code.E2 = codes "E2 BadRecord"
code_name code.E3 = codes "E3 EmptyField"
code_name code.E4 = codes "E4 NotNumber"
code_name code.E5 = codes "E5 OutOfRange"
code_name code.E6 = codes "E6 Duplicate"
code_name code.E7 = codes "E7 UnknownNode"
code_name code.E8 = codes "E8 UnknownLink"
code_name code.E9 = codes "E9 WrongTurn"
code_name code.E10 = codes "E10 Undirected"
code_name code.E11 = codes "E11 TooSlow"
code_name code.E12 = codes "E12 TooMany"
code_name code.E13 = codes "E13 Disagrees"

-- a column's name in its table, or a hyphen for no column
abbrev pub column_name : Column → List ℕ
column_name column.NodeId = codes "node_id"
column_name column.ZoneId = codes "zone_id"
column_name column.LinkId = codes "link_id"
column_name column.FromNodeId = codes "from_node_id"
column_name column.ToNodeId = codes "to_node_id"
column_name column.Directed = codes "directed"
column_name column.Length = codes "length"
column_name column.Lanes = codes "lanes"
column_name column.FreeSpeed = codes "free_speed"
column_name column.Capacity = codes "capacity"
column_name column.IbLinkId = codes "ib_link_id"
column_name column.ObLinkId = codes "ob_link_id"
column_name column.Penalty = codes "penalty"
column_name column.OZoneId = codes "o_zone_id"
column_name column.DZoneId = codes "d_zone_id"
column_name column.Volume = codes "volume"
column_name column.FromStep = codes "from_step"
column_name column.ToStep = codes "to_step"
column_name column.Entered = codes "entered"
column_name column.TravelSteps = codes "travel_steps"
column_name column.FreeSteps = codes "free_steps"
column_name column.CapacityByStep = codes "capacity_by_step"
column_name column.AgentId = codes "agent_id"
column_name column.DepartureStep = codes "departure_step"
column_name column.ArrivalStep = codes "arrival_step"
column_name column.Status = codes "status"
column_name column.LinkIds = codes "link_ids"
column_name column.EntrySteps = codes "entry_steps"
column_name column.NoColumn = codes "-"
