-- A network as lists in table order. Nodes, links and zones are positions from 0.
use Rattle.std.specs.Prelude.{ℕ, ◌&&◌, Bool, nat_eq, cond, if◌then◌else◌, List, [], ◌∷◌, ◌++◌}
use Rattle.std.specs.Prelude.{length, Option, None, Some, is_some, slice_get, option_and_then}
use Rattle.std.specs.Prelude.{option_map, find, filter, fold, map, All, ◌≤◌, get_or, position}
use Rattle.std.specs.List.{list_any, range_with_len}
use Rattle.net_core.specs.Ids.{place_of}
use Rattle.net_core.specs.Rows.{AreNodes, AreLinks, AreTurns, IsBetween, IsTurning, link_in}
use Rattle.net_core.specs.Rates.{AreLinkWindows, AreWindows}
use Rattle.net_core.specs.declared.rates.Rates.{Rates}
use Rattle.net_core.specs.declared.rates.Window.{Window}
use Rattle.net_core.specs.declared.rows.LinkNo.{LinkNo}
use Rattle.net_core.specs.declared.rows.LinkRow.{LinkRow}
use Rattle.net_core.specs.declared.rows.NetRows.{NetRows}
use Rattle.net_core.specs.declared.rows.NodeRow.{NodeRow}
use Rattle.net_core.specs.declared.rows.Turn.{Turn}
use Rattle.net_core.specs.declared.rows.TurnRow.{TurnRow}
use Rattle.net_core.specs.declared.rows.ZoneNo.{ZoneNo}

-- rows that make a network
pub record IsNet (net : NetRows) : Type 0 where
  pub nodes : AreNodes net.nodes
  pub links : AreLinks net.links
  pub between : All (IsBetween net.nodes) net.links
  pub turns : AreTurns net.turns
  pub turning : All (IsTurning net.links) net.turns
  -- windows are of links and of listed turns that are there
  pub link_windows : All AreLinkWindows net.link_windows
  pub turn_windows : All AreWindows net.turn_windows
  pub of_links : length net.link_windows ≤ length net.links
  pub of_turns : length net.turn_windows ≤ length net.turns

-- the numbers below a bound
abbrev pub numbers_below : ℕ → List ℕ
numbers_below n = range_with_len 0 n

-- the link at a place
abbrev pub link_at : NetRows → ℕ → LinkRow
link_at net l = link_in net.links l

-- places as the links that they are of
abbrev pub as_links : List ℕ → List LinkNo
as_links places = map (λ place. record { 0 = place }) places

-- the links into a node, and those out of it, in table order
unfoldable pub ins : NetRows → ℕ → List ℕ
ins net n = filter (λ l. nat_eq (link_at net l).to.0 n) (numbers_below (length net.links))

unfoldable pub outs : NetRows → ℕ → List ℕ
outs net n = filter (λ l. nat_eq (link_at net l).from.0 n) (numbers_below (length net.links))

-- zones with one more, where it isn't among them
abbrev pub noted : List ℕ → Option ℕ → List ℕ
noted found None = found
noted found (Some zone) = if is_some (place_of found zone) then found else found ++ zone ∷ []

-- the zones of nodes, in the order of their first appearance
unfoldable pub zones : List NodeRow → List ℕ
zones nodes = fold (λ found node. noted found node.zone) [] nodes

-- the number of a zone
abbrev pub zone_number : NetRows → ℕ → Option ℕ
zone_number net id = place_of (zones net.nodes) id

-- the zone of a node, by its identifier
abbrev pub zone_id : NetRows → ℕ → Option ℕ
zone_id net n = option_and_then (λ node. node.zone) (slice_get net.nodes n)

-- a number as the zone that has it
abbrev pub as_zone : Option ℕ → Option ZoneNo
as_zone number = option_map (λ z. record { 0 = z }) number

-- the number of a node's zone
abbrev pub zone_of : NetRows → ℕ → Option ℕ
zone_of net n =
    option_and_then (λ node. option_and_then (zone_number net) node.zone) (slice_get net.nodes n)

-- whether a listed turn names the node: it is the one at which its first link ends
unfoldable pub is_named : NetRows → ℕ → Bool
is_named net n = list_any (λ turn. nat_eq (link_at net turn.a.0).to.0 n) net.turns

abbrev pub as_turn : Option TurnRow → Option Turn
as_turn None = None
as_turn (Some turn) = Some (record { penalty = turn.penalty; rate = turn.rate })

-- a turn without penalty and limit
abbrev pub free_turn : Turn
free_turn = record { penalty = 0; rate = None }

-- the turn between two links at a node: a listed one, and any where no listed turn names the node
unfoldable pub turn_at : NetRows → ℕ → ℕ → ℕ → Option Turn
turn_at net n a b =
    cond (is_named net n)
    (as_turn (find (λ turn. nat_eq turn.a.0 a && nat_eq turn.b.0 b) net.turns))
    (Some free_turn)

-- the turn from a link to another, where it is allowed:
-- the first ends where the second begins, and the node has the turn
unfoldable pub turn : NetRows → ℕ → ℕ → Option Turn
turn net a b =
    cond (nat_eq (link_at net b).from.0 (link_at net a).to.0)
    (turn_at net (link_at net a).to.0 a b)
    None

-- the windows of a link, and the rates that it has in the steps
abbrev pub link_windows : NetRows → ℕ → List Window
link_windows net l = get_or net.link_windows l []

abbrev pub link_rates : NetRows → ℕ → Rates
link_rates net l = record { usual = Some (link_at net l).rate; windows = link_windows net l }

-- the windows of the listed turn at a place, if there is one
abbrev pub windows_at : NetRows → Option ℕ → List Window
windows_at net None = []
windows_at net (Some place) = get_or net.turn_windows place []

-- the windows of the turn from a link to another: those of its row, and none where it isn't listed
unfoldable pub turn_windows : NetRows → ℕ → ℕ → List Window
turn_windows net a b =
    windows_at net (position (λ turn. nat_eq turn.a.0 a && nat_eq turn.b.0 b) net.turns)

-- the limit of a turn by its capacity
abbrev pub limit_of : Option Turn → Option ℕ
limit_of None = None
limit_of (Some way) = way.rate

-- the rates that a turn has in the steps. No rate is no limit
abbrev pub turn_rates : NetRows → ℕ → ℕ → Rates
turn_rates net a b = record { usual = limit_of (turn net a b); windows = turn_windows net a b }
