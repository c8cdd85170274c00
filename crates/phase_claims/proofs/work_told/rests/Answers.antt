use Rattle.std.proofs.Common.{◌∷◌, ◌∙◌, ap, refl, sym}
use Rattle.atomic_table.specs.Table.{rest}
use Rattle.cell_stages.specs.Contents.{away}
use Rattle.node_transfer.specs.Halves.{links_of, taken_mail, taking_cell}
use Rattle.phase_claims.specs.declared.part.Part.TheVariants.{Cell}
use Rattle.phase_claims.proofs.PlacesRound.{cell_first}
use Rattle.phase_claims.proofs.Stays.{transfer_rests}
use Rattle.phase_claims.proofs.work_told.rests.Goals as goal

pub is_quiet-requires-clause-held : goal.is_quiet-requires-clause-held
is_quiet-requires-clause-held c =
    let p = c.args.seat.now.me.0.scope.plan in
    let h = c.args.half in
    cell_first p h.node.0 (taking_cell p h away) (taken_mail p h) (links_of p h) c.args.seat.now.me.1 c.requires.held

pub gather_rests-requires-clause-held : goal.gather_rests-requires-clause-held
gather_rests-requires-clause-held c =
    let p = c.args.seat.now.me.0.scope.plan in
    let h = c.args.half in
    cell_first p h.node.0 (taking_cell p h away) (taken_mail p h) (links_of p h) c.args.seat.now.me.1 c.requires.held

pub returns-in-Transfer-clause-rests : goal.returns-in-Transfer-clause-rests
returns-in-Transfer-clause-rests c quiet =
    let p = c.args.seat.now.me.0.scope.plan in
    let h = c.args.half in
    let cell = taking_cell p h away in
    let first = c.requires.held ∙ ap (λ xs. (h.node.0, Cell cell) ∷ rest xs) (sym c.requires.held) in
    transfer_rests p h.half h.node h.step cell c.in-Transfer.is c.requires.step refl (c.is_quiet.ensures.quiet cell first quiet)
