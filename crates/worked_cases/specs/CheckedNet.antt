-- The condition of a network as a test that computes, for networks that are written out.
use Rattle.std.specs.List.{list_all, list_any}
use Rattle.std.specs.Prelude.{ℕ, Bool, true, ◌&&◌, not, List, [], ◌∷◌, length}
use Rattle.std.specs.Prelude.{Option, None, Some, is_some, nat_eq, nat_le, nat_lt}
use Rattle.fixed_units.specs.declared.link.TheConstants.{MOST_FREE_STEPS, MOST_RATE, MOST_STORAGE}
use Rattle.fixed_units.specs.declared.turn.TheConstants.{MOST_PENALTY_STEPS}
use Rattle.net_core.specs.Ids.{pair_eq}
use Rattle.net_core.specs.Rows.{link_ids, link_in, node_ids, turn_pairs}
use Rattle.net_core.specs.declared.rates.TheConstants.{MOST_WINDOWS, MOST_WINDOW_STEP}
use Rattle.net_core.specs.declared.rates.Window.{Window}
use Rattle.net_core.specs.declared.rows.LinkRow.{LinkRow}
use Rattle.net_core.specs.declared.rows.NetRows.{NetRows}
use Rattle.net_core.specs.declared.rows.NodeRow.{NodeRow}
use Rattle.net_core.specs.declared.rows.TheConstants.{MOST_LINKS, MOST_NODES, MOST_TURNS}
use Rattle.net_core.specs.declared.rows.TurnRow.{TurnRow}
use Rattle.gmns_tables.specs.Windows.{rise_after}

abbrev pub differ : {K : Type 0} → (K → K → Bool) → List K → Bool
differ eq [] = true
differ eq (x ∷ xs) = not (list_any (eq x) xs) && differ eq xs

abbrev pub has_range : LinkRow → Bool
has_range link =
    nat_le 1 link.free && (nat_le link.free MOST_FREE_STEPS
    && (nat_le 1 link.storage && (nat_le link.storage MOST_STORAGE
    && nat_le link.rate MOST_RATE)))

abbrev pub is_between : ℕ → LinkRow → Bool
is_between nodes link = nat_lt link.from.0 nodes && nat_lt link.to.0 nodes

abbrev pub is_rate : Option ℕ → Bool
is_rate None = true
is_rate (Some rate) = nat_le rate MOST_RATE

abbrev pub has_turn_range : TurnRow → Bool
has_turn_range turn = nat_le turn.penalty MOST_PENALTY_STEPS && is_rate turn.rate

abbrev pub is_turning : List LinkRow → TurnRow → Bool
is_turning links turn =
    nat_lt turn.a.0 (length links) && (nat_lt turn.b.0 (length links)
    && nat_eq (link_in links turn.a.0).to.0 (link_in links turn.b.0).from.0)

abbrev pub are_nodes : List NodeRow → Bool
are_nodes nodes = differ nat_eq (node_ids nodes) && nat_le (length nodes) MOST_NODES

abbrev pub are_links : List LinkRow → Bool
are_links links =
    differ nat_eq (link_ids links) && (nat_le (length links) MOST_LINKS && list_all has_range links)

abbrev pub are_turns : List TurnRow → Bool
are_turns turns =
    differ pair_eq (turn_pairs turns)
    && (nat_le (length turns) MOST_TURNS && list_all has_turn_range turns)

-- whether windows begin with step 0, each after the one before
abbrev pub rise_from_0 : List Window → Bool
rise_from_0 [] = true
rise_from_0 (w ∷ ws) = nat_eq w.from 0 && rise_after w.from ws

abbrev pub has_window_range : Window → Bool
has_window_range w = nat_le w.from MOST_WINDOW_STEP && is_rate w.rate

abbrev pub are_windows : List Window → Bool
are_windows ws =
    nat_le (length ws) MOST_WINDOWS && (rise_from_0 ws && list_all has_window_range ws)

abbrev pub are_link_windows : List Window → Bool
are_link_windows ws = are_windows ws && list_all (λ w. is_some w.rate) ws

abbrev pub are_windows_of : NetRows → Bool
are_windows_of net =
    list_all are_link_windows net.link_windows && (list_all are_windows net.turn_windows
    && (nat_le (length net.link_windows) (length net.links)
    && nat_le (length net.turn_windows) (length net.turns)))

-- whether rows make a network
abbrev pub is_net : NetRows → Bool
is_net net =
    are_nodes net.nodes && (are_links net.links
    && (list_all (is_between (length net.nodes)) net.links
    && (are_turns net.turns && (list_all (is_turning net.links) net.turns
    && are_windows_of net))))
