use Rattle.std.proofs.Common.{◌∙◌, ap, subst, sym}
use Rattle.std.specs.Prelude.{All}
use Rattle.node_transfer.specs.Rest.{IsQuietLink, IsQuiet, WaitLater}
use Rattle.node_transfer.proofs.cell.NodeCell.next_step.Goals as goal

pub returns-clause-quiet : goal.returns-clause-quiet
returns-clause-quiet c step h =
    let f = c.first_step.ensures in
    subst (IsQuiet step) c.self.view_is (record {
      links = subst (λ ls. All (IsQuietLink step) ls) (c.deref.ensures.value ∙ ap (λ x. x.ins.items) c.deref-parts.ensures) (f.links step h);
      waits = subst (λ bs. All (WaitLater step) bs) (c.deref-2.ensures.value ∙ ap (λ x. x.outs.items) c.deref-parts.ensures) (f.waits step h);
    })

pub returns-clause-least : goal.returns-clause-least
returns-clause-least c low quiet =
    let q = subst (IsQuiet c.first_step.result) (sym c.self.view_is) quiet in
    c.first_step.ensures.least low
    (subst (λ ls. All (IsQuietLink c.first_step.result) ls) (sym (c.deref.ensures.value ∙ ap (λ x. x.ins.items) c.deref-parts.ensures)) q.links)
    (subst (λ bs. All (WaitLater c.first_step.result) bs) (sym (c.deref-2.ensures.value ∙ ap (λ x. x.outs.items) c.deref-parts.ensures)) q.waits)
