use Rattle.net_core.specs.Network.{numbers_below}
use Rattle.std.proofs.Common.{◌≡◌, ◌∙◌, ap, arith, map, length}
use Rattle.dta_model.specs.Lent.{plan_of}
use Rattle.node_transfer.proofs.OfStart.Starts.{rooms_start, start_room}
use Rattle.node_transfer.proofs.start.opening.start_rooms.Goals as goal

pub returns : goal.returns
returns c =
    let p = plan_of c.args.loading.now in
    let count = c.link_count-l-end.ensures.count in
    let past = c.loop-l-test.false in
    let within = c.loop-l.auto.l-end in
    let all : c.loop-l.l ≡ length p.net.links = omega (arith, count, past, within) in
    c.loop-l.invariant ∙ ap (λ k. map (start_room p) (numbers_below k)) all ∙ rooms_start p (numbers_below (length p.net.links))
