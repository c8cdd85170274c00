use Rattle.std.proofs.Common.{◌<◌, ◌∙◌, arith, length}
use Rattle.node_transfer.proofs.OfStep.Crossings.{cross_step, cross_end, CanPass-one, CanCross-one, cross_total, shut-one}
use Rattle.node_transfer.proofs.step.in_link.pass_links.Goals as goal

pub pass_link-requires-clause-can : goal.pass_link-requires-clause-can
pass_link-requires-clause-can c = CanPass-one c.loop-i.ins c.loop-i.outs c.loop-i.arrived c.loop-i.i c.index-ins-i.result (omega arith) c.loop-i.invariant.0

pub pass_link-requires-clause-shut : goal.pass_link-requires-clause-shut
pass_link-requires-clause-shut c = shut-one c.loop-i.ins c.loop-i.i c.index-ins-i.result (omega arith) c.loop-i.invariant.0.shut

pub loop-i-preserved : goal.loop-i-preserved
loop-i-preserved c =
    let h = c.loop-i.invariant in
    let e = c.pass_link.ensures in
    let within : c.loop-i.i < length c.loop-i.ins = omega arith in (
      CanCross-one c.loop-i.ins c.loop-i.outs c.loop-i.arrived c.loop-i.i c.index-ins-i.result _ _ _ within h.0 e.kept e.shut e.links e.total,
      e.links ∙ h.1,
      e.waits ∙ h.2,
      (let t = cross_total c.loop-i.ins c.loop-i.outs c.loop-i.arrived c.loop-i.i c.index-ins-i.result c.pass_link.new.link c.pass_link.new.outs c.pass_link.new.arrived within e.total in omega (arith, h.3)),
      h.4 ∙ cross_step _ c.loop-i.ins c.loop-i.i c.index-ins-i.result _ _ _ _ _ within e.done,
    )

pub returns-clause-done : goal.returns-clause-done
returns-clause-done c = c.loop-i.invariant.4 ∙ cross_end _ c.loop-i.ins c.loop-i.i _ _ (omega arith)
