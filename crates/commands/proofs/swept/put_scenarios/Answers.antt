use Rattle.std.proofs.Common.{◌≡◌, ℕ, List, ap, refl, subst, sym, ◌∙◌}
use Rattle.std.specs.Prelude.{Err}
use Rattle.scaled_demand.specs.Scales.{AreAllWithin}
use Rattle.scaled_demand.proofs.LimitFacts.{none-too-many}
use Rattle.scaled_demand.specs.declared.fault.SweepFault.TheVariants as sweep
use Rattle.dta_model.specs.declared.trip.DemandCell.{DemandCell}
use Rattle.sweep.specs.Scenarios.{AreScenarios}
use Rattle.sweep.specs.Texts.{sweep_texts}
use Rattle.jobs.specs.Inputs.{Sweeping}
use Rattle.jobs.specs.Kinds.{sweep_rows}
use Rattle.commands.proofs.WorkFacts.{does-cut, does-done, does-nothing}
use Rattle.commands.proofs.swept.put_scenarios.Goals as goal

pub returns-in-Ok-put_sweep : goal.returns-in-Ok-put_sweep
returns-in-Ok-put_sweep g c =
    let s = c.args.settings.now in
    let job = c.args.job.now in
    let scenarios = subst (λ (xs : List ℕ). AreScenarios s job.net job.demand_cells.items xs c.in-Ok.sweep) c.as_slice-scales.ensures
    (subst (λ (cells : List DemandCell). AreScenarios s job.net cells c.as_slice-scales.result.now c.in-Ok.sweep) c.deref.ensures.value
    c.in-Ok.ensures.scenarios) in
    does-done s (sweep_rows job) Sweeping c.requires.kind (sweep_texts c.in-Ok.sweep) _ _
    (record { scenarios = c.in-Ok.sweep; sweep = scenarios; texts_are = refl }) c.in-Ok-put_sweep.ensures

pub returns-in-Ok : goal.returns-in-Ok
returns-in-Ok g c =
    let s = c.args.settings.now in
    let job = c.args.job.now in
    let scenarios = subst (λ (xs : List ℕ). AreScenarios s job.net job.demand_cells.items xs c.in-Ok.sweep) c.as_slice-scales.ensures
    (subst (λ (cells : List DemandCell). AreScenarios s job.net cells c.as_slice-scales.result.now c.in-Ok.sweep) c.deref.ensures.value
    c.in-Ok.ensures.scenarios) in
    does-cut s (sweep_rows job) Sweeping c.requires.kind (sweep_texts c.in-Ok.sweep) _ _
    (record { scenarios = c.in-Ok.sweep; sweep = scenarios; texts_are = refl }) c.in-Err.ensures

pub unreachable-requires : goal.unreachable-requires
unreachable-requires g c =
    let t = c.in-Err-TooMany in
    let s = c.args.settings.now in
    let is : c.sweep.result ≡ Err (sweep.TooMany t.field-0-0 t.field-0-1 t.field-0-2) = t.is ∙ ap Err t.field-0-is in
    let of_cells = subst (λ (cells : List DemandCell). AreAllWithin cells s.scales) (sym c.deref.ensures.value) (c.requires.job.sweep c.requires.kind).within in
    let within = subst (λ (xs : List ℕ). AreAllWithin c.deref.result.now xs) (sym c.as_slice-scales.ensures) of_cells in
    none-too-many c.deref.result.now c.as_slice-scales.result.now t.field-0-0 t.field-0-1 t.field-0-2 within
    ((c.sweep.ensures.too_many t.field-0-0 t.field-0-1 t.field-0-2).0 is)

pub returns : goal.returns
returns g c = does-nothing c.args.settings.now (sweep_rows c.args.job.now) (g.D.Desk.state c.args.desk.now) c.requires.job.start
