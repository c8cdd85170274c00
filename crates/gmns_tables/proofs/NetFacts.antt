-- The network of tables, one table after another.
use Rattle.std.proofs.Common.{◌≡◌, List, [], refl, rules}
use Rattle.std.specs.List.{IsDistinct}
use Rattle.std.specs.Prelude.{Option, Ok, Err}
use Rattle.std.proofs.lemmas.List.Elements.{All-nil}
use Rattle.row_reader.specs.FirstFault.{Tells}
use Rattle.row_reader.specs.Records.{Record}
use Rattle.row_reader.specs.declared.faults.TableRefusal.{TableRefusal}
use Rattle.row_reader.specs.declared.faults.TableRefusal.TheVariants as refusal
use Rattle.net_core.specs.Rates.{AreWindows}
use Rattle.net_core.specs.Rows.{IsTurnInRange}
use Rattle.net_core.specs.declared.rows.LinkRow.{LinkRow}
use Rattle.net_core.specs.declared.rows.NodeRow.{NodeRow}
use Rattle.net_core.specs.declared.rows.TurnRow.{TurnRow}
use Rattle.gmns_tables.specs.Links.{link_verdict}
use Rattle.gmns_tables.specs.Net.{TellsNet, listed_verdict, net_rows, net_verdict}
use Rattle.gmns_tables.specs.RowsWithWindows.{AreTurnRows, rows_of}
use Rattle.gmns_tables.specs.declared.with_windows.WithWindows.{WithWindows}
use Rattle.gmns_tables.specs.Nodes.{node_verdict}
use Rattle.fixed_units.specs.declared.units.Units.{Units}

-- no turns at all
pub no-turns : AreTurnRows []
unfolding IsDistinct
no-turns = record {
  rows = record {
    distinct = tt;
    few = search rules;
    range = All-nil IsTurnInRange;
  };
  windows = All-nil AreWindows;
}

module _ (units : Units) (node link : List Record) (movement : Option (List Record)) where
  pub nodes-refused : (e : TableRefusal) → Tells (node_verdict node) (Err e) → TellsNet (net_verdict units node link movement) (Err e)
  unfolding net_verdict
  nodes-refused (refusal.Fault f) t = rw t refl
  nodes-refused refusal.Memory t = tt

  module _ (nodes : List NodeRow) (n : node_verdict node ≡ Ok nodes) where
    pub links-refused : (e : TableRefusal) → Tells (link_verdict nodes units link) (Err e) → TellsNet (net_verdict units node link movement) (Err e)
    unfolding net_verdict
    links-refused (refusal.Fault f) t = rw (n, t) refl
    links-refused refusal.Memory t = tt

    module _ (links : List (WithWindows LinkRow)) (l : link_verdict nodes units link ≡ Ok links) where
      pub turns-refused : (e : TableRefusal) → Tells (listed_verdict nodes (rows_of links) units movement) (Err e) → TellsNet (net_verdict units node link movement) (Err e)
      unfolding net_verdict
      turns-refused (refusal.Fault f) t = rw (n, l, t) refl
      turns-refused refusal.Memory t = tt

      pub accepted : (turns : List (WithWindows TurnRow)) → listed_verdict nodes (rows_of links) units movement ≡ Ok turns
          → net_verdict units node link movement ≡ Ok (net_rows nodes links turns)
      unfolding net_verdict
      accepted turns t = rw (n, l, t) refl
