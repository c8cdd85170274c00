use Rattle.std.proofs.Common.{◌<◌, refl, sym, ◌∙◌, subst, arith}
use Rattle.std.specs.Mem.Slots.{slots_filled, slots_items, slots_len}
use Rattle.dta_model.specs.Lent.{plan_of}
use Rattle.dta_model.specs.Units.{node_count}
use Rattle.phase_claims.specs.PlacesClosed.{AreLast}
use Rattle.phase_claims.proofs.PlacesClosed.{all_handed, has_cell, hands_over, may_hand, no_more_filled, none_handed, still_filled}
use Rattle.phase_claims.proofs.work_close.take_parts.Goals as goal

pub loop-n-init : goal.loop-n-init
loop-n-init c = (
  refl,
  refl,
  c.requires.full,
  λ k l. absurd (omega (arith, l)),
  none_handed (plan_of c.args.loading.now) c.requires.sound c.args.loaded.now c.requires.loaded,
)

pub take_cell-cell-requires-clause-cell : goal.take_cell-cell-requires-clause-cell
take_cell-cell-requires-clause-cell c =
    let p = plan_of c.args.loading.now in
    let inside : c.loop-n.n < node_count p = omega (arith, c.loop-n-test.true, c.node_count-nodes.ensures.count) in
    has_cell p c.requires.sound (slots_items c.loop-n.closed.slots) (subst (AreLast p) (sym c.loop-n.invariant.0) c.requires.cells) c.loop-n.n inside

pub hand_over-requires : goal.hand_over-requires
hand_over-requires c =
    let p = plan_of c.args.loading.now in
    let inside : c.loop-n.n < node_count p = omega (arith, c.loop-n-test.true, c.node_count-nodes.ensures.count) in
    may_hand p c.requires.sound (slots_items c.loop-n.closed.slots) (subst (AreLast p) (sym c.loop-n.invariant.0) c.requires.cells) c.loop-n.n inside
    c.take_cell-cell.result c.take_cell-cell.ensures.cell c.loop-n.loaded c.loop-n.invariant.4

pub loop-n-preserved : goal.loop-n-preserved
loop-n-preserved c =
    let p = plan_of c.args.loading.now in
    let inside : c.loop-n.n < node_count p = omega (arith, c.loop-n-test.true, c.node_count-nodes.ensures.count) in
    let taken = c.take_cell-cell.ensures.taken in (
      taken.parts ∙ c.loop-n.invariant.0,
      c.take_cell-cell.ensures.count ∙ c.loop-n.invariant.1,
      (λ k low high. still_filled (slots_filled c.loop-n.closed.slots) (slots_filled c.take_cell-cell.new.closed.slots) c.loop-n.n (slots_len c.loop-n.closed.slots) taken.filled c.loop-n.invariant.2 k low (omega (arith, high, c.take_cell-cell.ensures.count))),
      no_more_filled (slots_filled c.loop-n.closed.slots) (slots_filled c.take_cell-cell.new.closed.slots) c.loop-n.n taken.filled c.loop-n.invariant.3,
      hands_over p c.requires.sound (slots_items c.loop-n.closed.slots) (subst (AreLast p) (sym c.loop-n.invariant.0) c.requires.cells) c.loop-n.n inside
          c.take_cell-cell.result c.take_cell-cell.ensures.cell c.loop-n.loaded c.hand_over.new.loaded c.loop-n.invariant.4 c.hand_over.ensures,
    )

pub returns-clause-loaded : goal.returns-clause-loaded
returns-clause-loaded c =
    all_handed (plan_of c.args.loading.now) c.requires.sound c.loop-n.loaded c.loop-n.n c.loop-n.invariant.4 (omega (arith, c.loop-n-test.false, c.node_count-nodes.ensures.count, c.loop-n.auto))
