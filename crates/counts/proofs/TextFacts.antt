-- The rows of links.
use Rattle.std.specs.Prelude.{Some, slice_get}
use Rattle.std.proofs.Common.{◌≡◌, ℕ, refl}
use Rattle.net_core.specs.Network.{link_at}
use Rattle.net_core.specs.Rows.{link_in}
use Rattle.net_core.specs.declared.rows.LinkRow.{LinkRow}
use Rattle.net_core.specs.declared.rows.NetRows.{NetRows}

-- the row that a place has is the link there
pub link-there : (net : NetRows) (l : ℕ) (row : LinkRow) → slice_get net.links l ≡ Some row → link_at net l ≡ row
unfolding link_in
link-there net l row e = rw e refl

-- the row of a link
pub ruleset rows = (link-there)
