use Rattle.std.proofs.Common.{◌+◌, ◌-◌, ◌++◌, arith, ap, sym, ◌∙◌, append-nil, refl}
use Rattle.counts.proofs.Along.{along-end, along-step}
use Rattle.counts.proofs.turns.add_turns.Goals as goal

pub loop-place-init : goal.loop-place-init
loop-place-init c = refl

pub loop-place-preserved : goal.loop-place-preserved
loop-place-preserved c =
    let begun = c.loop-place.auto.place in
    along-step c.args.bucket c.args.route.now c.args.entries.now (c.loop-place.place - 1) c.loop-place.place (c.loop-place.place + 1 - 1) (record { 0 = 0 }) c.loop-place.turns.items c.push.new.self.items _ (omega (arith, begun)) (omega arith) c.loop-place-test.true c.requires.within c.in_ok-push.ensures.items c.loop-place.invariant

pub returns : goal.returns
returns c =
    let i = c.loop-place.invariant in
    sym (append-nil c.loop-place.turns.items)
    ∙ ap (λ L. c.loop-place.turns.items ++ L) (sym (along-end c.args.bucket c.args.route.now c.args.entries.now (c.loop-place.place - 1) (omega arith)))
    ∙ i
