use Rattle.std.proofs.Common.{◌∙◌, ap, subst, sym}
use Rattle.node_transfer.specs.Exits.{opened_exit}
use Rattle.node_transfer.specs.Inside.Cells.{IsShut}
use Rattle.node_transfer.proofs.OfRest.Quiet.{link-waits, nobody-leaves}
use Rattle.node_transfer.proofs.OfStep.Meters.{closed-shut}
use Rattle.node_transfer.proofs.step.in_link.pass_link.Goals as goal
use Rattle.node_transfer.proofs.step.in_link.pass_link.Goals.{then-step-head_step-via-then-step-head_step, then-step-head_step-via-else-step-head_step+then-is_kept_out}

pub returns-then-step-head_step-clause-done : goal.returns-then-step-head_step-clause-done
returns-then-step-head_step-clause-done c =
    let step = c.args.step in
    let link = c.args.link.now in
    let outs = c.args.outs.now in
    let arrived = c.args.arrived.now in
    let told = ap (λ xs. record { link = record link { left = xs }; outs = outs; arrived = arrived }) (sym c.push.ensures) in
    elim c.then-step-head_step.branch [
      | then-step-head_step-via-then-step-head_step w ↦ link-waits step link outs arrived (c.head_step.ensures.before step w.if-step-head_step.true) c.requires.shut ∙ told
      | then-step-head_step-via-else-step-head_step+then-is_kept_out w ↦
          nobody-leaves step link outs arrived (w.is_kept_out.ensures w.if-is_kept_out.true step (opened_exit step link.exit) arrived) c.requires.shut ∙ told
    ]

pub returns-clause-shut : goal.returns-clause-shut
returns-clause-shut c = subst IsShut (sym c.close_exit.ensures) (closed-shut c.advance.new.exit)
