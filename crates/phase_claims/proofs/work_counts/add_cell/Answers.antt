use Rattle.std.proofs.Common.{◌+◌, ◌<◌, ◌^◌, ap, arith}
use Rattle.dta_model.specs.Lent.{plan_of}
use Rattle.dta_model.specs.declared.eight.Eight.{Eight}
use Rattle.node_transfer.specs.declared.cell.CellCounts.{CellCounts}
use Rattle.phase_claims.proofs.PlacesSums.{one_more, small_arrived, small_running, small_waiting}
use Rattle.phase_claims.proofs.work_counts.add_cell.Goals as goal

pub overflow_add-eight : goal.overflow_add-eight
overflow_add-eight c =
    let counts = c.counts-counts.ensures (plan_of c.args.loading.now) c.args.node.0 c.requires.sound c.requires.node c.requires.cell in
    let small = small_waiting (plan_of c.args.loading.now) c.requires.sound c.args.steps c.args.node.0 c.requires.node in
    let old = ap (λ (x : Eight). x.waiting) c.requires.eight in
    let one = ap (λ (x : CellCounts). x.waiting) counts in
    let fits : c.args.eight.now.waiting + c.counts-counts.result.waiting < 2 ^ 64 = omega (arith, small, old, one) in
    omega (arith, fits)

pub overflow_add-eight-2 : goal.overflow_add-eight-2
overflow_add-eight-2 c =
    let counts = c.counts-counts.ensures (plan_of c.args.loading.now) c.args.node.0 c.requires.sound c.requires.node c.requires.cell in
    let small = small_running (plan_of c.args.loading.now) c.requires.sound c.args.steps c.args.node.0 c.requires.node in
    let old = ap (λ (x : Eight). x.running) c.requires.eight in
    let one = ap (λ (x : CellCounts). x.running) counts in
    let fits : c.args.eight.now.running + c.counts-counts.result.running < 2 ^ 64 = omega (arith, small, old, one) in
    omega (arith, fits)

pub overflow_add-eight-3 : goal.overflow_add-eight-3
overflow_add-eight-3 c =
    let counts = c.counts-counts.ensures (plan_of c.args.loading.now) c.args.node.0 c.requires.sound c.requires.node c.requires.cell in
    let small = small_arrived (plan_of c.args.loading.now) c.requires.sound c.args.steps c.args.node.0 c.requires.node in
    let old = ap (λ (x : Eight). x.arrived) c.requires.eight in
    let one = ap (λ (x : CellCounts). x.arrived) counts in
    let fits : c.args.eight.now.arrived + c.counts-counts.result.arrived < 2 ^ 64 = omega (arith, small, old, one) in
    omega (arith, fits)

pub returns : goal.returns
returns c =
    let counts = c.counts-counts.ensures (plan_of c.args.loading.now) c.args.node.0 c.requires.sound c.requires.node c.requires.cell in
    one_more (plan_of c.args.loading.now) c.requires.sound c.args.steps c.args.node.0 c.counts-counts.result.waiting c.counts-counts.result.running c.counts-counts.result.arrived c.add_links.new.first
    (ap (λ (x : CellCounts). x.waiting) counts) (ap (λ (x : CellCounts). x.running) counts) (ap (λ (x : CellCounts). x.arrived) counts) c.add_links.ensures c.args.eight.now c.requires.eight
