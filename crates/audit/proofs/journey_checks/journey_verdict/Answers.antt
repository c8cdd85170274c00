use Rattle.std.proofs.Common.{◌≡◌, ◌∷◌, [], subst}
use Rattle.std.specs.Prelude.{◌↔◌, IsTrue}
use Rattle.row_reader.specs.declared.faults.Column.TheVariants as column
use Rattle.audit.specs.Audit.{of_agent, status_text}
use Rattle.audit.specs.Checks.{Check, same_if_any, same_list}
use Rattle.audit.proofs.journey_checks.journey_verdict.Goals as goal

pub returns : goal.returns
returns c =
    let r = c.args.r in
    let row = c.args.row.now in
    let journey = c.args.journey.now in
    let arrival : Check = of_agent r column.ArrivalStep (same_if_any row.arrival journey.arrival) in
    let status : Check = of_agent r column.Status (same_list row.status (status_text row.links journey)) in
    let entries : Check = of_agent r column.EntrySteps (same_list row.entries journey.entries) in
    c.then-2.ensures.verdict (arrival ∷ status ∷ []) (entries ∷ [])
    (c.then.ensures.verdict (arrival ∷ []) (status ∷ [])
    (c.of.ensures (same_if_any row.arrival journey.arrival) c.is_step.ensures)
    (c.of-2.ensures (same_list row.status (status_text row.links journey)) c.has_status.ensures))
    (c.of-3.ensures (same_list row.entries journey.entries)
    (subst (λ b. IsTrue c.are_steps.result ↔ (row.entries ≡ b)) c.as_slice-2.ensures
    (subst (λ a. IsTrue c.are_steps.result ↔ (a ≡ c.as_slice-2.result.now)) c.as_slice.ensures c.are_steps.ensures)))
