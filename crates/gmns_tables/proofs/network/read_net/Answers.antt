use Rattle.std.proofs.Common.{◌∙◌, ap, sym}
use Rattle.std.specs.Prelude.{Ok, option_map}
use Rattle.std.proofs.lemmas.Result.{err_from_is_err_and}
use Rattle.row_reader.specs.Records.{records}
use Rattle.gmns_tables.proofs.NetFacts.{accepted, links-refused, nodes-refused, turns-refused}
use Rattle.gmns_tables.proofs.network.read_net.Goals as goal

pub returns-in_err-nodes : goal.returns-in_err-nodes
returns-in_err-nodes c =
    let p = err_from_is_err_and c.from_residual.result c.from_residual.ensures.1 in
    rw (p.1, p.2) (nodes-refused c.args.units.now (records c.args.node.now) (records c.args.link.now) (option_map (λ text. records text.now) c.args.movement) _ c.in_err-nodes.ensures.rows)

pub returns-in_err-links : goal.returns-in_err-links
returns-in_err-links c =
    let p = err_from_is_err_and c.from_residual-in_err-links.result c.from_residual-in_err-links.ensures.1 in
    rw (p.1, p.2) (links-refused c.args.units.now (records c.args.node.now) (records c.args.link.now) (option_map (λ text. records text.now) c.args.movement)
    c.in_ok-nodes.nodes c.in_ok-nodes.ensures.rows _ c.in_err-links.ensures.rows)

pub returns-in_err-turns : goal.returns-in_err-turns
returns-in_err-turns c =
    let p = err_from_is_err_and c.from_residual-in_err-turns.result c.from_residual-in_err-turns.ensures.1 in
    rw (p.1, p.2) (turns-refused c.args.units.now (records c.args.node.now) (records c.args.link.now) (option_map (λ text. records text.now) c.args.movement)
    c.in_ok-nodes.nodes c.in_ok-nodes.ensures.rows c.in_ok-links.links c.in_ok-links.ensures.rows _ c.in_err-turns.ensures.refused)

pub returns-in-Ok : goal.returns-in-Ok
returns-in-Ok c =
    accepted c.args.units.now (records c.args.node.now) (records c.args.link.now) (option_map (λ text. records text.now) c.args.movement)
    c.in_ok-nodes.nodes c.in_ok-nodes.ensures.rows c.in_ok-links.links c.in_ok-links.ensures.rows _ c.in_ok-turns.ensures.rows
    ∙ ap Ok (sym c.in-Ok.ensures)
