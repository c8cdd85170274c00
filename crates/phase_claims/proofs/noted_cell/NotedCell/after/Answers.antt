use Rattle.std.proofs.Common.{◌≡◌, suc, ◌+◌, ap, sym, ◌∙◌, arith}
use Rattle.cell_stages.specs.Contents.{away, cell_before}
use Rattle.node_transfer.specs.Halves.{half_after}
use Rattle.node_transfer.proofs.OfStep.Totals.{counts-stage}
use Rattle.phase_claims.specs.Noted.{counts_of}
use Rattle.phase_claims.proofs.noted_cell.NotedCell.after.Goals as goal

pub invariant_of-result : goal.invariant_of-result
invariant_of-result c = record {
  quiet = c.next_step-wake.ensures.quiet;
  counts = (let (p, step, is) = c.requires in
      let n = c.args.half.node.0 in
      let t = c.args.half.step in
      let next : suc t ≡ t + 1 = omega arith in
      let e = is ∙ ap (λ half. half_after half p n t away) c.in_default.is ∙ ap (λ s. cell_before p n s away away) next in
      c.counts.ensures p n step.sound step.node e ∙ sym (counts-stage p n (t + 1) step.sound step.node) ∙ ap (λ s. counts_of s) (sym e));
}
