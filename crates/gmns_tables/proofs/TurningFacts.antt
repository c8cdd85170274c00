-- Turns lead between links that are there and meet.
use Rattle.std.proofs.Common.{◌≡◌, ℕ, ◌<◌, List, length, refl, ap, rules, true, false, not, nat_eq}
use Rattle.std.specs.Prelude.{IfOk, is_some}
use Rattle.std.proofs.lemmas.List.{length-map}
use Rattle.row_reader.specs.Columns.{text}
use Rattle.row_reader.specs.Fields.{identifier, optional_quantity, unless}
use Rattle.row_reader.specs.Rows.{FieldsView}
use Rattle.row_reader.specs.declared.faults.Code.TheVariants as code
use Rattle.row_reader.specs.declared.faults.Column.{Column}
use Rattle.row_reader.specs.declared.faults.Column.TheVariants as column
use Rattle.row_reader.proofs.Kept.{if_ok, passes}
use Rattle.net_core.specs.Ids.{place_of_pair}
use Rattle.net_core.specs.Rows.{IsTurning, link_ids, link_in, link_named, turn_pairs}
use Rattle.net_core.specs.declared.rows.LinkNo.{LinkNo}
use Rattle.net_core.specs.declared.rows.LinkRow.{LinkRow}
use Rattle.net_core.specs.declared.rows.NodeNo.{NodeNo}
use Rattle.net_core.specs.declared.rows.NodeRow.{NodeRow}
use Rattle.net_core.specs.declared.rows.TurnRow.{TurnRow}
use Rattle.gmns_tables.specs.Names.{known_link, known_node}
use Rattle.gmns_tables.specs.Movements.{begins_at, ends_at, penalty_of, movement_of}
use Rattle.gmns_tables.specs.RowsWithWindows.{rows_of}
use Rattle.gmns_tables.specs.Windows.{windows_by_step}
use Rattle.gmns_tables.specs.declared.windows.WindowsOf.TheVariants.{Turn}
use Rattle.gmns_tables.specs.declared.with_windows.WithWindows.{WithWindows}
use Rattle.fixed_units.specs.declared.units.Units.{Units}
use Rattle.gmns_tables.proofs.ChainFacts.{found-below, unless-ok}

-- a field that names a link names one that is there
known_link-below : (links : List LinkRow) (what : Column) (text : List ℕ) → IfOk (known_link links what text) (λ link. link.0 < length links)
unfolding known_link
known_link-below links what text = passes (λ (link : LinkNo). link.0 < length links) (identifier what text) _ (λ id _.
    rw (← length-map links (λ (l : LinkRow). l.id))
    (found-below (λ (l : LinkNo). l.0) (λ place. record { 0 = place }) (λ place. refl) (link_ids links) id code.E8 what (link_named links id) refl))

-- nodes of one number are one
same_node : (a b node : NodeNo) → not (nat_eq a.0 node.0) ≡ false → not (nat_eq b.0 node.0) ≡ false → a ≡ b
same_node a b node f g =
    let x : nat_eq a.0 node.0 ≡ true = search (rules, f) in
    let y : nat_eq b.0 node.0 ≡ true = search (rules, g) in
    let k : a.0 ≡ b.0 = search (rules, x, y) in
    ap (λ n. let no : NodeNo = record { 0 = n } in no) k

-- each turn that a record gives leads from a link to another that begins where the first ends
pub movement_of-turning : (nodes : List NodeRow) (links : List LinkRow) (units : Units) (before : List (WithWindows TurnRow)) (r : FieldsView)
    → IfOk (movement_of nodes links units before r) (λ turn. IsTurning links turn.row)
unfolding movement_of
movement_of-turning nodes links units before r =
    let Q : WithWindows TurnRow → Type 0 = λ turn. IsTurning links turn.row in
    passes Q (known_node nodes column.NodeId (text r column.NodeId)) _ (λ node _.
    passes Q (known_link links column.IbLinkId (text r column.IbLinkId)) _ (λ a a-is.
    passes Q (unless (not (ends_at links a node)) code.E9 column.IbLinkId) _ (λ _ ends.
    passes Q (known_link links column.ObLinkId (text r column.ObLinkId)) _ (λ b b-is.
    passes Q (unless (not (begins_at links b node)) code.E9 column.ObLinkId) _ (λ _ begins.
    passes Q (unless (is_some (place_of_pair (turn_pairs (rows_of before)) a.0 b.0)) code.E6 column.ObLinkId) _ (λ _ _.
    passes Q (penalty_of (text r column.Penalty)) _ (λ penalty _.
    passes Q (optional_quantity column.Capacity (text r column.Capacity)) _ (λ capacity _.
    passes Q (windows_by_step Turn (text r column.CapacityByStep)) _ (λ windows _.
    record {
      from = if_ok (λ (link : LinkNo). link.0 < length links) a-is (known_link-below links column.IbLinkId (text r column.IbLinkId));
      to = if_ok (λ (link : LinkNo). link.0 < length links) b-is (known_link-below links column.ObLinkId (text r column.ObLinkId));
      meets = same_node (link_in links a.0).to (link_in links b.0).from node
          (unless-ok (not (ends_at links a node)) code.E9 column.IbLinkId ends)
          (unless-ok (not (begins_at links b node)) code.E9 column.ObLinkId begins);
    })))))))))
