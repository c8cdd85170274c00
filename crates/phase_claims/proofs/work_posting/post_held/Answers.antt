use Rattle.std.proofs.Common.{◌≡◌, suc, ◌+◌, ◌<◌, [], ◌∷◌, ap, ◌∙◌, arith}
use Rattle.atomic_table.specs.Table.{rest}
use Rattle.dta_model.specs.Lent.{plan_of}
use Rattle.dta_model.specs.Units.{node_count}
use Rattle.phase_claims.specs.PlacesCounted.{cell_place, counted_in, writer_place}
use Rattle.phase_claims.proofs.PlacesPosted.{cell_back, cell_held, may_post, own_board, posted, writer_held}
use Rattle.phase_claims.proofs.PlacesRound.{stays}
use Rattle.phase_claims.proofs.work_posting.post_held.Goals as goal

pub count_cell-requires-clause-held : goal.count_cell-requires-clause-held
count_cell-requires-clause-held g c =
    let p = plan_of c.args.loading.now in
    let below : c.loop-n.n < node_count p = omega (arith, c.loop-n-test.true, c.node_count-nodes.ensures.count) in
    let next : suc c.args.step ≡ c.args.step + 1 = omega arith in
    cell_held p (suc c.args.step) (writer_place p c.args.board.now c.args.step ∷ []) c.loop-n.n below c.loop-n.seat.me.1 c.loop-n.invariant.2
    ∙ ap (λ t. cell_place p t c.loop-n.n ∷ rest c.loop-n.seat.me.1) next

pub loop-n-preserved : goal.loop-n-preserved
loop-n-preserved g c =
    let p = plan_of c.args.loading.now in
    let below : c.loop-n.n < node_count p = omega (arith, c.loop-n-test.true, c.node_count-nodes.ensures.count) in
    let more : suc c.loop-n.n ≡ c.loop-n.n + 1 = omega arith in
    let next : c.args.step + 1 ≡ suc c.args.step = omega arith in (
      stays c.args.seat.now c.loop-n.seat c.count_cell.new.seat c.loop-n.invariant.0 c.count_cell.ensures.seat,
      c.count_cell.ensures.eight ∙ ap (λ t. counted_in p t (suc c.loop-n.n)) next ∙ ap (λ n. counted_in p (suc c.args.step) n) more,
      cell_back p (suc c.args.step) (writer_place p c.args.board.now c.args.step ∷ []) c.loop-n.n below c.loop-n.seat.me.1 c.loop-n.invariant.2 c.count_cell.new.seat.me.1 c.count_cell.ensures.held,
    )

pub take_writer-writer-requires-clause-held : goal.take_writer-writer-requires-clause-held
take_writer-writer-requires-clause-held g c =
    writer_held (plan_of c.args.loading.now) c.requires.sound c.args.board.now c.args.step c.node_count-nodes.result c.link_count-links.result c.loop-n.n c.node_count-nodes.ensures.count c.link_count-links.ensures.count
    (omega (arith, c.loop-n-test.false)) c.loop-n.seat.me.1 c.loop-n.invariant.2

pub post-requires-clause-own : goal.post-requires-clause-own
post-requires-clause-own g c =
    own_board (plan_of c.args.loading.now) c.requires.sound c.args.board.now c.args.step c.node_count-nodes.result c.link_count-links.result c.loop-n.n c.node_count-nodes.ensures.count c.link_count-links.ensures.count
    (omega (arith, c.loop-n-test.false)) c.loop-n.seat.me.1 c.loop-n.invariant.2 c.take_writer-writer.result c.take_writer-writer.ensures.writer

pub post-requires-clause-later : goal.post-requires-clause-later
post-requires-clause-later g c =
    may_post (plan_of c.args.loading.now) c.requires.sound c.args.board.now c.args.step c.node_count-nodes.result c.link_count-links.result c.loop-n.n c.node_count-nodes.ensures.count c.link_count-links.ensures.count
    (omega (arith, c.loop-n-test.false)) c.loop-n.seat.me.1 c.loop-n.invariant.2 c.take_writer-writer.result c.take_writer-writer.ensures.writer
    c.loop-n.eight c.loop-n.invariant.1 (omega (arith, c.loop-n-test.false, c.node_count-nodes.ensures.count, c.loop-n.auto))

pub returns-clause-held : goal.returns-clause-held
returns-clause-held g c =
    posted (plan_of c.args.loading.now) c.requires.sound c.args.board.now c.args.step c.node_count-nodes.result c.link_count-links.result c.loop-n.n c.node_count-nodes.ensures.count c.link_count-links.ensures.count
    (omega (arith, c.loop-n-test.false)) c.loop-n.seat.me.1 c.loop-n.invariant.2 c.take_writer-writer.result c.take_writer-writer.ensures.writer
    c.loop-n.eight c.loop-n.invariant.1 (omega (arith, c.loop-n-test.false, c.node_count-nodes.ensures.count, c.loop-n.auto))
    c.post.new.pass c.post.ensures.board c.post.ensures.list c.take_writer-writer.new.seat.me.1 c.give_writer.new.seat.me.1 c.take_writer-writer.ensures.held c.give_writer.ensures.held
