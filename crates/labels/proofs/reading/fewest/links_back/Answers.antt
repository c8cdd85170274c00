use Rattle.std.proofs.Common.{arith, get_or}
use Rattle.std.proofs.lemmas.Option.{slice_get-get_or}
use Rattle.labels.specs.declared.reading.reached.Reached.{Reached}
use Rattle.labels.proofs.OfReading.FewestBack.{back_more, back_end}
use Rattle.labels.proofs.reading.fewest.links_back.Goals as goal

pub returns-then-back-here : goal.returns-then-back-here
returns-then-back-here c =
    let d : Reached = record { link = 0; state = 0; step = 0; before = 0; older = 0 } in
    let xs = c.args.reached.now in
    let i = c.back.invariant in
    back_end xs c.args.place c.back.back c.back.links.items c.push.new.self.items c.reverse.new.self.items (get_or xs c.back.back d) (slice_get-get_or xs c.back.back d (i.0)) c.if-back-here.true c.in_ok-push.ensures.items c.reverse.ensures.items (i.1)

pub back-preserved : goal.back-preserved
back-preserved c =
    let d : Reached = record { link = 0; state = 0; step = 0; before = 0; older = 0 } in
    let xs = c.args.reached.now in
    let i = c.back.invariant in
    let low = c.if-back-here.false in
    (omega (arith, low, i.0), back_more xs c.args.place c.back.back c.back.links.items c.push.new.self.items (get_or xs c.back.back d) (slice_get-get_or xs c.back.back d (i.0)) low c.in_ok-push.ensures.items (i.1))
