-- How zones are numbered.
use Rattle.std.specs.Prelude.{List, nat_eq}
use Rattle.std.specs.List.{IsDistinct}
use Rattle.net_core.specs.Network.{zones}
use Rattle.net_core.specs.declared.rows.NodeRow.{NodeRow}

-- no zone has two numbers
abbrev pub ZonesDiffer : Type 0
ZonesDiffer = (nodes : List NodeRow) → IsDistinct nat_eq (zones nodes)
