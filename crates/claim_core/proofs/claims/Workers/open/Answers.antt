use Rattle.std.proofs.Common.{arith, ap, sym, ◌∙◌, min}
use Rattle.dta_model.specs.Lent.{plan_of}
use Rattle.dta_model.specs.Units.{phase_end, phase_start}
use Rattle.claim_core.specs.declared.phase.Phase.{Phase}
use Rattle.claim_core.proofs.Effects.{has, open_begins, open_misplaced, open_waits}
use Rattle.claim_core.proofs.Events.{held_first, kept_of}
use Rattle.claim_core.proofs.Working.{in_count}
use Rattle.claim_core.proofs.claims.Workers.open.Goals as goal

pub returns-in_default : goal.returns-in_default
returns-in_default c =
    rw (sym c.self.view_is) (open_misplaced (plan_of c.args.loading.now) _ c.args.worker
    c.index.result.now c.index.ensures c.in_default.not-Held)

pub phase_of-phase-requires-clause-number : goal.phase_of-phase-requires-clause-number
phase_of-phase-requires-clause-number c =
    let held = held_first (plan_of c.args.loading.now) c.args.self.now
    (kept_of (plan_of c.args.loading.now) c.args.self.now c.requires.reached) c.args.worker
    c.in-Held.first c.in-Held.end
    (has c.self.view_is c.requires.worker c.index.ensures c.in-Held.is) in
    let drawn = held.1 in
    in_count (plan_of c.args.loading.now) c.in-Held.first c.of.result.horizon c.of.result.nodes
    c.of.ensures.horizon c.of.ensures.nodes (omega (arith, drawn))

pub returns-then-phase-finished : goal.returns-then-phase-finished
returns-then-phase-finished c =
    let may = c.if-phase-finished.true in
    let first = ap (λ (x : Phase). x.first) c.phase_of-phase.ensures
    ∙ ap (λ n. phase_start n c.in-Held.first) c.of.ensures.nodes in
    let end = ap (λ (x : Phase). x.end) c.phase_of-phase.ensures
    ∙ ap (λ n. phase_end n c.in-Held.first) c.of.ensures.nodes in
    rw (sym c.self.view_is) (open_begins (plan_of c.args.loading.now) (record { drawn = c.self.inside.drawn; stages = c.self.inside.stages.items }) c.args.worker
    c.in-Held.first c.in-Held.end
    (rw (sym c.self.view_is) at (has c.self.view_is c.requires.worker c.index.ensures c.in-Held.is))
    c.min.result (c.min.ensures ∙ ap (λ x. min c.in-Held.end x) end)
    (omega (arith, may, first, rw (sym c.self.view_is) at c.requires.count)))

pub returns-else-phase-finished : goal.returns-else-phase-finished
returns-else-phase-finished c =
    let early = c.if-phase-finished.false in
    let first = ap (λ (x : Phase). x.first) c.phase_of-phase.ensures
    ∙ ap (λ n. phase_start n c.in-Held.first) c.of.ensures.nodes in
    open_waits (plan_of c.args.loading.now) c.args.self.now c.args.worker
    c.in-Held.first c.in-Held.end
    (has c.self.view_is c.requires.worker c.index.ensures c.in-Held.is)
    c.args.finished c.requires.count (omega (arith, early, first, c.requires.count))
