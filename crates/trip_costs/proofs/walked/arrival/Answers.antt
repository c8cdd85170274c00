use Rattle.std.proofs.Common.{◌≡◌, ◌+◌, ◌∙◌, arith}
use Rattle.std.specs.Prelude.{slice_index_or}
use Rattle.net_core.specs.Network.{turn}
use Rattle.dta_model.specs.TimedWalks.{penalty_steps}
use Rattle.trip_costs.specs.WalkCosts.{steps_in}
use Rattle.trip_costs.proofs.Walks.{arrival_last, arrival_more}
use Rattle.trip_costs.proofs.walked.arrival.Goals as goal

pub loop-next-preserved : goal.loop-next-preserved
loop-next-preserved c =
    let at = steps_in c.args.costs.now in
    let l = c.loop-next.link.0 in
    let i = c.loop-next.next-index in
    let inv = c.loop-next.invariant in
    let first = c.steps_at.ensures.is in
    let second = c.penalty.ensures.is in
    let sum : c.loop-next.step + (c.steps_at.result + c.penalty.result) ≡ c.loop-next.step + (at l c.loop-next.step + penalty_steps (turn c.args.net.now l (slice_index_or c.args.others.now i (record { 0 = 0 })).0)) = omega (arith, first, second) in (
      arrival_more at c.args.net.now c.loop-next.step (c.loop-next.step + (c.steps_at.result + c.penalty.result)) l c.args.others.now i (record { 0 = 0 }) c.loop-next-test.true sum ∙ inv.0,
      c.requires.others i (record { 0 = 0 }) c.loop-next-test.true,
      omega (arith, inv.2, c.steps_at.ensures.short, c.penalty.ensures.short),
      omega (arith, inv.3),
    )

pub returns-clause-is : goal.returns-clause-is
returns-clause-is c =
    arrival_last (steps_in c.args.costs.now) c.args.net.now c.loop-next.step c.steps_at-2.result c.loop-next.link.0 c.args.others.now c.loop-next.next-index c.loop-next-test.false c.steps_at-2.ensures.is ∙ c.loop-next.invariant.0
