-- Fields that name a node or a link.
use Rattle.std.specs.Prelude.{ℕ, List, Option, None, Some, Result, Ok, Err}
use Rattle.row_reader.specs.Fields.{complain, identifier, then_with}
use Rattle.row_reader.specs.declared.faults.Code.{Code}
use Rattle.row_reader.specs.declared.faults.Code.TheVariants as code
use Rattle.row_reader.specs.declared.faults.Column.{Column}
use Rattle.row_reader.specs.declared.faults.Complaint.{Complaint}
use Rattle.net_core.specs.Rows.{link_named, node_named}
use Rattle.net_core.specs.declared.rows.LinkNo.{LinkNo}
use Rattle.net_core.specs.declared.rows.LinkRow.{LinkRow}
use Rattle.net_core.specs.declared.rows.NodeNo.{NodeNo}
use Rattle.net_core.specs.declared.rows.NodeRow.{NodeRow}

-- what is found, or the complaint that there is nothing
abbrev pub found : {A : Type 0} → Code → Column → Option A → Result A Complaint
found why what None = Err (complain why what)
found why what (Some x) = Ok x

-- the node of the table that a required field names
unfoldable pub known_node : List NodeRow → Column → List ℕ → Result NodeNo Complaint
known_node nodes what text =
    then_with (identifier what text) (λ id. found code.E7 what (node_named nodes id))

-- the link of the table that a required field names
unfoldable pub known_link : List LinkRow → Column → List ℕ → Result LinkNo Complaint
known_link links what text =
    then_with (identifier what text) (λ id. found code.E8 what (link_named links id))
