use Rattle.std.proofs.Common.{arith, ap, length, refl, ◌∙◌}
use Rattle.claim_core.specs.Machine.{MachineState}
use Rattle.dta_model.specs.Lent.{plan_of}
use Rattle.dta_model.specs.declared.machine.Event.TheVariants as event
use Rattle.claim_core.proofs.Inside.{finish_closes, others_keep, room_left, workers_stay}
use Rattle.claim_core.proofs.machine.Machine.apply.Goals as goal

pub claim-requires-clause-room : goal.claim-requires-clause-room
claim-requires-clause-room c = room_left c.self.invariant

pub claim_chunk-requires-clause-room : goal.claim_chunk-requires-clause-room
claim_chunk-requires-clause-room c = room_left c.self.invariant

pub invariant_of-self : goal.invariant_of-self
invariant_of-self c =
    others_keep c.self.invariant (event.Claim c.in-Claim.worker)
    c.claim.ensures refl

pub returns-in-Claim-clause-workers : goal.returns-in-Claim-clause-workers
returns-in-Claim-clause-workers c =
    workers_stay (plan_of c.self.inside.loading) c.self.inside.workers
    (event.Claim c.in-Claim.worker) c.claim.ensures
    ∙ ap (λ (m : MachineState). length m.claims.stages) c.self.view_is

pub returns-in-Claim-clause-reached : goal.returns-in-Claim-clause-reached
returns-in-Claim-clause-reached c =
    (others_keep c.self.invariant (event.Claim c.in-Claim.worker)
    c.claim.ensures refl).reached

pub returns-in-Claim-clause-parts : goal.returns-in-Claim-clause-parts
returns-in-Claim-clause-parts c =
    (others_keep c.self.invariant (event.Claim c.in-Claim.worker)
    c.claim.ensures refl).parts

pub invariant_of-self-in-ClaimChunk : goal.invariant_of-self-in-ClaimChunk
invariant_of-self-in-ClaimChunk c =
    others_keep c.self.invariant (event.ClaimChunk c.in-ClaimChunk.worker c.in-ClaimChunk.many)
    c.claim_chunk.ensures refl

pub returns-in-ClaimChunk-clause-workers : goal.returns-in-ClaimChunk-clause-workers
returns-in-ClaimChunk-clause-workers c =
    workers_stay (plan_of c.self.inside.loading) c.self.inside.workers
    (event.ClaimChunk c.in-ClaimChunk.worker c.in-ClaimChunk.many) c.claim_chunk.ensures
    ∙ ap (λ (m : MachineState). length m.claims.stages) c.self.view_is

pub returns-in-ClaimChunk-clause-reached : goal.returns-in-ClaimChunk-clause-reached
returns-in-ClaimChunk-clause-reached c =
    (others_keep c.self.invariant (event.ClaimChunk c.in-ClaimChunk.worker c.in-ClaimChunk.many)
    c.claim_chunk.ensures refl).reached

pub returns-in-ClaimChunk-clause-parts : goal.returns-in-ClaimChunk-clause-parts
returns-in-ClaimChunk-clause-parts c =
    (others_keep c.self.invariant (event.ClaimChunk c.in-ClaimChunk.worker c.in-ClaimChunk.many)
    c.claim_chunk.ensures refl).parts

pub invariant_of-self-in-Open : goal.invariant_of-self-in-Open
invariant_of-self-in-Open c =
    others_keep c.self.invariant (event.Open c.in-Open.worker)
    c.open.ensures refl

pub returns-in-Open-clause-workers : goal.returns-in-Open-clause-workers
returns-in-Open-clause-workers c =
    workers_stay (plan_of c.self.inside.loading) c.self.inside.workers
    (event.Open c.in-Open.worker) c.open.ensures
    ∙ ap (λ (m : MachineState). length m.claims.stages) c.self.view_is

pub returns-in-Open-clause-reached : goal.returns-in-Open-clause-reached
returns-in-Open-clause-reached c =
    (others_keep c.self.invariant (event.Open c.in-Open.worker)
    c.open.ensures refl).reached

pub returns-in-Open-clause-parts : goal.returns-in-Open-clause-parts
returns-in-Open-clause-parts c =
    (others_keep c.self.invariant (event.Open c.in-Open.worker)
    c.open.ensures refl).parts

pub invariant_of-self-in-Finish : goal.invariant_of-self-in-Finish
invariant_of-self-in-Finish c =
    let cells_fit = c.self.inside.cells.ok.0 in
    let mail_fit = c.self.inside.mail.ok.0 in
    finish_closes c.self.invariant c.in-Finish.worker c.finish.ensures.effect
    (record { cells = c.finish.new.cells; mail = c.finish.new.mail }) c.finish.new.finished
    c.self.inside.cells.len c.self.inside.mail.len c.finish.ensures.parts c.finish.ensures.count
    (omega (arith, cells_fit)) (omega (arith, mail_fit))

pub returns-in-Finish-clause-reached : goal.returns-in-Finish-clause-reached
returns-in-Finish-clause-reached c =
    let cells_fit = c.self.inside.cells.ok.0 in
    let mail_fit = c.self.inside.mail.ok.0 in
    (finish_closes c.self.invariant c.in-Finish.worker c.finish.ensures.effect
    (record { cells = c.finish.new.cells; mail = c.finish.new.mail }) c.finish.new.finished
    c.self.inside.cells.len c.self.inside.mail.len c.finish.ensures.parts c.finish.ensures.count
    (omega (arith, cells_fit)) (omega (arith, mail_fit))).reached

pub returns-in-Finish-clause-workers : goal.returns-in-Finish-clause-workers
returns-in-Finish-clause-workers c =
    workers_stay (plan_of c.self.inside.loading) c.self.inside.workers
    (event.Finish c.in-Finish.worker) c.finish.ensures.effect
    ∙ ap (λ (m : MachineState). length m.claims.stages) c.self.view_is
