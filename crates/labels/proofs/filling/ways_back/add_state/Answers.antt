use Rattle.std.proofs.Common.{◌≡◌, length, ap, sym, ◌∙◌, arith, get_or, refl, List, Some}
use Rattle.std.specs.Prelude.{slice_get}
use Rattle.std.proofs.lemmas.Option.{slice_get-get_or}
use Rattle.labels.specs.States.RouterWays.{onwards}
use Rattle.labels.specs.declared.states.onward.Onward.{Onward}
use Rattle.labels.proofs.OfFilling.WaysBackFacts.{AreWaysBack_more, AreWaysBack_next}
use Rattle.labels.proofs.filling.ways_back.add_state.Goals as goal

pub loop-way-preserved : goal.loop-way-preserved
loop-way-preserved c =
    let none : Onward = record { wait = 0; link = 0; to = 0 } in
    let r = c.args.router.now in
    let state = c.args.state in
    let ws = c.ways_on-way-items.result.now in
    let i = c.loop-way.way-index in
    let w : Onward = get_or ws i none in
    let stands : slice_get (onwards r state) i ≡ Some w = ap (λ l. slice_get l i) (sym c.ways_on-way-items.ensures.are) ∙ slice_get-get_or ws i none c.loop-way-test.true in
    let link = c.ways_on-way-items.ensures.link i none c.loop-way-test.true in
    let wait = c.ways_on-way-items.ensures.wait i none c.loop-way-test.true in
    let to = c.ways_on-way-items.ensures.to i none c.loop-way-test.true in
    AreWaysBack_more r c.args.free.now c.loop-way.ways.items c.add_way.new.ways.items c.loop-way.lasts c.add_way.new.lasts state i w _
    c.requires.short (omega (arith, link, c.requires.links)) wait to c.requires.state stands refl refl refl refl c.in_ok-add_way.ensures.ways c.in_ok-add_way.ensures.lasts c.loop-way.invariant

pub returns : goal.returns
returns c =
    let long = ap (λ (l : List Onward). length l) c.ways_on-way-items.ensures.are in
    AreWaysBack_next c.args.router.now c.args.free.now c.loop-way.ways.items c.loop-way.lasts c.args.state c.loop-way.way-index (omega (arith, long, c.loop-way-test.false)) c.loop-way.invariant
