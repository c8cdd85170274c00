use Rattle.std.proofs.Common.{◌<◌, ◌≤◌, [], length, arith, get_or, add-one}
use Rattle.std.proofs.lemmas.Option.{slice_get-get_or}
use Rattle.dta_model.specs.Lent.{plan_of}
use Rattle.cell_stages.specs.CellState.{CellState}
use Rattle.serial_loader.proofs.Steps.{begins, ends, finds-cell, finds-mail, gathers, sleeps, transfers}
use Rattle.serial_loader.proofs.phases.do_all.Goals as goal
use Rattle.serial_loader.proofs.phases.do_all.Goals.{then-wakes-at+in-Transfer, then-wakes-at+in-Gather, else-wakes-at}

pub loop-n-init : goal.loop-n-init
loop-n-init c = begins (plan_of c.args.loading.now) c.args.step c.args.cells.now c.args.wakes.now c.args.mail.now c.args.half c.requires.found

pub do_half-requires-clause-cell : goal.do_half-requires-clause-cell
do_half-requires-clause-cell c =
    let n = c.loop-n.n in
    let T = c.loop-n.invariant.0 in
    let cells = c.loop-n.cells in
    let wakes = c.loop-n.wakes in
    let count = c.node_count-n-end.ensures.count in
    let here = c.loop-n-test.true in
    let below : n < length (plan_of c.args.loading.now).net.nodes = omega (arith, count, here) in
    let cell_count = T.cell_count in
    let wake_count = T.wake_count in
    finds-cell c.args.half (plan_of c.args.loading.now) c.args.step n cells wakes c.loop-n.mail T (get_or wakes n 0) (get_or cells n c.index-cells-at.result)
    (slice_get-get_or wakes n 0 (omega (arith, below, wake_count))) (slice_get-get_or cells n c.index-cells-at.result (omega (arith, below, cell_count)))

pub do_half-requires-clause-mail : goal.do_half-requires-clause-mail
do_half-requires-clause-mail c = finds-mail c.args.half (plan_of c.args.loading.now) c.args.step c.loop-n.n c.loop-n.cells c.loop-n.wakes c.loop-n.mail c.loop-n.invariant.0

pub loop-n-preserved : goal.loop-n-preserved
loop-n-preserved c =
    let p = plan_of c.args.loading.now in
    let s = c.args.step in
    let n = c.loop-n.n in
    let cells = c.loop-n.cells in
    let wakes = c.loop-n.wakes in
    let count = c.node_count-n-end.ensures.count in
    let here = c.loop-n-test.true in
    let below : n < length p.net.nodes = omega (arith, count, here) in
    let wake_count = c.loop-n.invariant.0.wake_count in
    let wake = slice_get-get_or wakes n 0 (omega (arith, below, wake_count)) in
    elim c.if-wakes-at.branch [
      | then-wakes-at+in-Transfer w ↦
          rw (w.cells-is, w.wakes-is, w.mail-is, add-one) (transfers p s n cells wakes c.loop-n.mail (get_or wakes n 0) wake c.args.half w.in-Transfer.is w.do_half.new.cell w.wake_next.new.wakes w.do_half.new.mail
          c.loop-n.invariant w.if-wakes-at.true w.do_half.ensures.cell w.do_half.ensures.mail w.wake_next.ensures.woken w.wake_next.ensures.reached)
      | then-wakes-at+in-Gather w ↦
          rw (w.cells-is, w.wakes-is, w.mail-is, add-one) (gathers p s n cells wakes c.loop-n.mail (get_or wakes n 0) wake c.args.half w.in-Gather.is w.next_step.result w.do_half.new.cell w.do_half.new.mail
          c.loop-n.invariant w.do_half.ensures.cell w.next_step.ensures.quiet w.do_half.ensures.mail)
      | else-wakes-at w ↦
          let none : CellState = record { ins = []; outs = []; arrived = [] } in
          let cell_count = c.loop-n.invariant.0.cell_count in
          rw (w.cells-is, w.wakes-is, w.mail-is, add-one) (sleeps p s n cells wakes c.loop-n.mail (get_or wakes n 0) wake (record { sound = c.requires.sound; node = below; step = c.requires.step }) (get_or cells n none)
          (slice_get-get_or cells n none (omega (arith, below, cell_count))) w.if-wakes-at.false c.args.half c.loop-n.invariant)
    ]

pub returns : goal.returns
returns c =
    let p = plan_of c.args.loading.now in
    let n = c.loop-n.n in
    let count = c.node_count-n-end.ensures.count in
    let past = c.loop-n-test.false in
    let over : length p.net.nodes ≤ n = omega (arith, count, past) in
    ends p c.args.step c.loop-n.cells c.loop-n.wakes c.loop-n.mail c.args.half n c.requires.sound over c.loop-n.invariant
