-- Walks from zone to zone over the links of a network. Zones are identifiers, nodes and links
-- positions from 0.
use Rattle.std.specs.Prelude.{◌≡◌, ℕ, suc, ◌<◌, ◌≤◌, Bool, true, false, nat_eq, List, length, All}
use Rattle.std.specs.Prelude.{Option, None, Some, IsSome, IfSome, slice_get}
use Rattle.net_core.specs.Network.{link_at, turn, zone_id}
use Rattle.net_core.specs.declared.rows.NetRows.{NetRows}

abbrev pub is_zone : ℕ → Option ℕ → Bool
is_zone zone None = false
is_zone zone (Some id) = nat_eq id zone

-- whether a link begins at a node of a zone, and whether it ends at one
unfoldable pub begins_in : NetRows → ℕ → ℕ → Bool
begins_in net zone l = is_zone zone (zone_id net (link_at net l).from.0)

unfoldable pub ends_in : NetRows → ℕ → ℕ → Bool
ends_in net zone l = is_zone zone (zone_id net (link_at net l).to.0)

-- a walk from a zone to a zone, as its links
pub record IsWalk (net : NetRows) (origin destination : ℕ) (walk : List ℕ) : Type 0 where
  -- it has a link
  pub some : 1 ≤ length walk
  -- its links are in the table
  pub links : All (λ l. l < length net.links) walk
  -- the first begins in the origin
  pub begins : IfSome (slice_get walk 0) (λ l. begins_in net origin l ≡ true)
  -- from each to the next there is a turn
  pub turns : (i a b : ℕ) → slice_get walk i ≡ Some a → slice_get walk (suc i) ≡ Some b
      → IsSome (turn net a b)
  -- the last ends in the destination, and none before it does
  pub ends : (i l : ℕ) → slice_get walk i ≡ Some l
      → ends_in net destination l ≡ nat_eq (suc i) (length walk)
