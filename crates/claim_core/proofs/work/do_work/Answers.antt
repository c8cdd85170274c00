use Rattle.std.proofs.Common.{sym, ◌∙◌}
use Rattle.dta_model.specs.Lent.{plan_of}
use Rattle.claim_core.proofs.Working.{half_cell, half_done, half_inside, half_mail, half_step, in_count, posting_done}
use Rattle.claim_core.proofs.work.do_work.Goals as goal

pub phase_of-requires-clause-number : goal.phase_of-requires-clause-number
phase_of-requires-clause-number c = in_count (plan_of c.args.loading.now) c.args.number c.of-units.result.horizon c.of-units.result.nodes c.of-units.ensures.horizon c.of-units.ensures.nodes c.requires.number

pub bounds-cells-half : goal.bounds-cells-half
bounds-cells-half c = half_inside (plan_of c.args.loading.now) c.requires.sound c.args.number c.of-units.result.nodes c.requires.number c.of-units.ensures.nodes c.in-Some.half (sym c.half_in.ensures ∙ c.in-Some.is) c.args.cells.now c.args.mail.now c.requires.ready

pub do_half-requires-clause-step : goal.do_half-requires-clause-step
do_half-requires-clause-step c = half_step (plan_of c.args.loading.now) c.requires.sound c.args.number c.of-units.result.nodes c.requires.number c.of-units.ensures.nodes c.in-Some.half (sym c.half_in.ensures ∙ c.in-Some.is)

pub do_half-requires-clause-cell : goal.do_half-requires-clause-cell
do_half-requires-clause-cell c = half_cell (plan_of c.args.loading.now) c.requires.sound c.args.number c.of-units.result.nodes c.requires.number c.of-units.ensures.nodes c.in-Some.half (sym c.half_in.ensures ∙ c.in-Some.is) c.args.cells.now c.args.mail.now c.requires.ready c.index-cells-half.result

pub do_half-requires-clause-mail : goal.do_half-requires-clause-mail
do_half-requires-clause-mail c = half_mail (plan_of c.args.loading.now) c.requires.sound c.args.number c.of-units.result.nodes c.requires.number c.of-units.ensures.nodes c.in-Some.half (sym c.half_in.ensures ∙ c.in-Some.is) c.args.cells.now c.args.mail.now c.requires.ready

pub returns-in-Some : goal.returns-in-Some
returns-in-Some c = half_done (plan_of c.args.loading.now) c.requires.sound c.args.number c.of-units.result.nodes c.requires.number c.of-units.ensures.nodes c.in-Some.half (sym c.half_in.ensures ∙ c.in-Some.is) c.args.cells.now c.args.mail.now c.requires.ready c.do_half.new.cell c.do_half.new.mail c.do_half.ensures.cell c.do_half.ensures.mail

pub returns-in-None : goal.returns-in-None
returns-in-None c = posting_done (plan_of c.args.loading.now) c.requires.sound c.args.number c.of-units.result.nodes c.of-units.ensures.nodes (sym c.half_in.ensures ∙ c.in-None.is) (record { cells = c.args.cells.now; mail = c.args.mail.now }) c.requires.ready
