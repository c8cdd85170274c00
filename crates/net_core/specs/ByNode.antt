-- Links and turns by their nodes.
use Rattle.std.specs.Prelude.{ℕ, ◌≡◌, ◌<◌, ◌&&◌, Bool, false, List, length, nat_eq, get_or}
use Rattle.std.specs.List.{list_any}
use Rattle.net_core.specs.Network.{as_links, numbers_below}
use Rattle.net_core.specs.Rows.{link_in}
use Rattle.net_core.specs.declared.rows.LinkNo.{LinkNo}
use Rattle.net_core.specs.declared.rows.LinkRow.{LinkRow}
use Rattle.net_core.specs.declared.rows.TurnRow.{TurnRow}

-- every link, in table order
abbrev pub all_links : List LinkRow → List LinkNo
all_links links = as_links (numbers_below (length links))

-- the nodes at which a link ends and begins
abbrev pub end_of : List LinkRow → LinkNo → ℕ
end_of links link = (link_in links link.0).to.0

abbrev pub start_of : List LinkRow → LinkNo → ℕ
start_of links link = (link_in links link.0).from.0

-- the node of a listed turn: the one at which its first link ends
abbrev pub node_of : List LinkRow → TurnRow → ℕ
node_of links turn = end_of links turn.a

-- whether a listed turn is from a link to another
abbrev pub is_from_to : ℕ → ℕ → TurnRow → Bool
is_from_to a b turn = nat_eq turn.a.0 a && nat_eq turn.b.0 b

-- for each node whether some listed turn is there
pub record AreNamed (named : List Bool) (count : ℕ) (node : TurnRow → ℕ) (turns : List TurnRow)
    : Type 0 where
  pub counted : length named ≡ count
  pub told : (n : ℕ) → n < count
      → get_or named n false ≡ list_any (λ turn. nat_eq (node turn) n) turns
