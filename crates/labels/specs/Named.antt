-- Zones by their numbers.
use Rattle.std.specs.Prelude.{ℕ, slice_index}
use Rattle.net_core.specs.Network.{zones}
use Rattle.net_core.specs.declared.rows.NetRows.{NetRows}

-- the identifier of the zone that has a number
abbrev pub zone_named : NetRows → ℕ → ℕ
zone_named net zone = slice_index (zones net.nodes) zone
