use Rattle.cell_stages.specs.Contents.{away}
use Rattle.dta_model.specs.Lent.{plan_of}
use Rattle.node_transfer.specs.Halves.{links_of, taken_mail, taking_cell}
use Rattle.phase_claims.proofs.PlacesRound.{cell_first}
use Rattle.phase_claims.proofs.work_unit.work_held.Goals as goal

pub take_cell-requires-clause-held : goal.take_cell-requires-clause-held
take_cell-requires-clause-held g c =
    let p = plan_of c.args.loading.now in
    let h = c.args.half in
    cell_first p h.node.0 (taking_cell p h away) (taken_mail p h) (links_of p h) c.args.seat.now.me.1 c.requires.held
