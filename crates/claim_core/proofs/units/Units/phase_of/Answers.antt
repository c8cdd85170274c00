use Rattle.std.proofs.Common.{ℕ, ◌+◌, ap, sym, ◌∙◌, arith}
use Rattle.dta_model.specs.Units.{phase_start}
use Rattle.claim_core.specs.declared.phase.PhaseKind.TheVariants as does
use Rattle.claim_core.proofs.InPhase.{of_gathers, of_posting, of_transfers, small_first}
use Rattle.claim_core.proofs.Phases.{made}
use Rattle.claim_core.proofs.units.Units.phase_of.Goals as goal

pub overflow_add-result : goal.overflow_add-result
overflow_add-result c =
    omega (arith, c.well_formed, c.phase_start-first.ensures, small_first c.args.self.nodes c.args.number c.args.self.horizon c.requires.small (omega (arith, c.well_formed)) c.requires.number)

pub overflow_add-result-in-Gather : goal.overflow_add-result-in-Gather
overflow_add-result-in-Gather c =
    omega (arith, c.well_formed, c.phase_start-first.ensures, small_first c.args.self.nodes c.args.number c.args.self.horizon c.requires.small (omega (arith, c.well_formed)) c.requires.number)

pub overflow_add-result-in-Posting : goal.overflow_add-result-in-Posting
overflow_add-result-in-Posting c =
    omega (arith, c.well_formed, c.phase_start-first.ensures, small_first c.args.self.nodes c.args.number c.args.self.horizon c.requires.small (omega (arith, c.well_formed)) c.requires.number)

pub returns-in-Transfer : goal.returns-in-Transfer
returns-in-Transfer c =
    let n : ℕ = c.args.self.nodes in let u : ℕ = c.args.number in
    ap (λ x. made x (x + n) c.step_of-step.result does.Transfers) c.phase_start-first.ensures
    ∙ ap (λ x. made (phase_start n u) (phase_start n u + n) x does.Transfers) c.step_of-step.ensures
    ∙ of_transfers n u c.in-Transfer.field-0 (sym c.kind_of.ensures ∙ c.in-Transfer.is)

pub returns-in-Gather : goal.returns-in-Gather
returns-in-Gather c =
    let n : ℕ = c.args.self.nodes in let u : ℕ = c.args.number in
    ap (λ x. made x (x + n) c.step_of-step.result does.Gathers) c.phase_start-first.ensures
    ∙ ap (λ x. made (phase_start n u) (phase_start n u + n) x does.Gathers) c.step_of-step.ensures
    ∙ of_gathers n u c.in-Gather.field-0 (sym c.kind_of.ensures ∙ c.in-Gather.is)

pub returns-in-Posting : goal.returns-in-Posting
returns-in-Posting c =
    let n : ℕ = c.args.self.nodes in let u : ℕ = c.args.number in
    ap (λ x. made x (x + 1) c.step_of-step.result does.Posting) c.phase_start-first.ensures
    ∙ ap (λ x. made (phase_start n u) (phase_start n u + 1) x does.Posting) c.step_of-step.ensures
    ∙ of_posting n u (sym c.kind_of.ensures ∙ c.in-Posting.is)
