use Rattle.std.proofs.Common.{◌≡◌, ◌∙◌, refl, sym, Some}
use Rattle.std.specs.Prelude.{slice_get, slice_index_or}
use Rattle.std.proofs.lemmas.Option.{slice_get-get_or}
use Rattle.node_transfer.proofs.OfStep.Passes.{CanPass-arrives, CanPass-enters, batch_fits, entered_is, entered_links, entered_waitings, passed-enters, total-arrives, total-enters}
use Rattle.node_transfer.proofs.step.pass.advance.Goals as goal

pub returns-in-Arrives-clause-kept : goal.returns-in-Arrives-clause-kept
returns-in-Arrives-clause-kept c =
    let first : slice_get c.args.line.now 0 ≡ Some c.in-Some.rider.now = sym c.in-Some.ensures.first in
    let put = rw first at c.move_front_to.ensures.moved in
    rw (c.move_front_to.ensures.rest, put) (CanPass-arrives _ _ _ _ c.requires first _)

pub returns-in-Arrives-clause-total : goal.returns-in-Arrives-clause-total
returns-in-Arrives-clause-total c =
    let first : slice_get c.args.line.now 0 ≡ Some c.in-Some.rider.now = sym c.in-Some.ensures.first in
    let put = rw first at c.move_front_to.ensures.moved in
    rw (c.move_front_to.ensures.rest, put) (total-arrives c.args.line.now c.args.outs.now c.args.arrived.now _ first _)

pub move_front_to-requires-in-Enters-clause-fits : goal.move_front_to-requires-in-Enters-clause-fits
move_front_to-requires-in-Enters-clause-fits c =
    let outs = c.args.outs.now in
    let place = c.in-Enters.place in
    batch_fits c.args.line.now outs c.args.arrived.now c.in-Some.rider.now place (Some (slice_index_or outs place c.index-outs-place.result))
    (slice_get-get_or outs place c.index-outs-place.result (c.judge-what.ensures.enters place c.in-Enters.turn c.in-Enters.is)) (sym c.in-Some.ensures.first) c.requires.fits

pub returns-in-Enters-clause-kept : goal.returns-in-Enters-clause-kept
returns-in-Enters-clause-kept c =
    let first : slice_get c.args.line.now 0 ≡ Some c.in-Some.rider.now = sym c.in-Some.ensures.first in
    let joins = rw first at c.move_front_to-in-Enters.ensures.moved in
    rw (c.move_front_to-in-Enters.ensures.rest, entered_is c.args.outs.now c.in-Enters.place c.args.step c.in-Some.rider.now c.index-outs-place.result c.pass.new.self c.move_front_to-in-Enters.new.other (c.judge-what.ensures.enters c.in-Enters.place c.in-Enters.turn c.in-Enters.is) c.pass.ensures joins)
    (CanPass-enters _ _ _ _ c.requires first c.in-Enters.place c.args.step)

pub returns-in-Enters-clause-links : goal.returns-in-Enters-clause-links
returns-in-Enters-clause-links c =
    let first : slice_get c.args.line.now 0 ≡ Some c.in-Some.rider.now = sym c.in-Some.ensures.first in
    let joins = rw first at c.move_front_to-in-Enters.ensures.moved in
    rw (entered_is c.args.outs.now c.in-Enters.place c.args.step c.in-Some.rider.now c.index-outs-place.result c.pass.new.self c.move_front_to-in-Enters.new.other (c.judge-what.ensures.enters c.in-Enters.place c.in-Enters.turn c.in-Enters.is) c.pass.ensures joins)
    (entered_links (slice_get c.args.outs.now c.in-Enters.place) c.in-Enters.place c.args.step c.in-Some.rider.now c.args.outs.now refl)

pub returns-in-Enters-clause-waits : goal.returns-in-Enters-clause-waits
returns-in-Enters-clause-waits c =
    let first : slice_get c.args.line.now 0 ≡ Some c.in-Some.rider.now = sym c.in-Some.ensures.first in
    let joins = rw first at c.move_front_to-in-Enters.ensures.moved in
    rw (entered_is c.args.outs.now c.in-Enters.place c.args.step c.in-Some.rider.now c.index-outs-place.result c.pass.new.self c.move_front_to-in-Enters.new.other (c.judge-what.ensures.enters c.in-Enters.place c.in-Enters.turn c.in-Enters.is) c.pass.ensures joins)
    (entered_waitings (slice_get c.args.outs.now c.in-Enters.place) c.in-Enters.place c.args.step c.in-Some.rider.now c.args.outs.now refl)

pub returns-in-Enters-clause-total : goal.returns-in-Enters-clause-total
returns-in-Enters-clause-total c =
    let first : slice_get c.args.line.now 0 ≡ Some c.in-Some.rider.now = sym c.in-Some.ensures.first in
    let joins = rw first at c.move_front_to-in-Enters.ensures.moved in
    rw (c.move_front_to-in-Enters.ensures.rest, entered_is c.args.outs.now c.in-Enters.place c.args.step c.in-Some.rider.now c.index-outs-place.result c.pass.new.self c.move_front_to-in-Enters.new.other (c.judge-what.ensures.enters c.in-Enters.place c.in-Enters.turn c.in-Enters.is) c.pass.ensures joins)
    (total-enters c.args.line.now c.args.outs.now c.args.arrived.now _ first c.in-Enters.place c.args.step)

pub returns-in-Enters-clause-goes : goal.returns-in-Enters-clause-goes
returns-in-Enters-clause-goes c =
    let first : slice_get c.args.line.now 0 ≡ Some c.in-Some.rider.now = sym c.in-Some.ensures.first in
    let joins = rw first at c.move_front_to-in-Enters.ensures.moved in
    rw (c.move_front_to-in-Enters.ensures.rest, c.count_entry.ensures, entered_is c.args.outs.now c.in-Enters.place c.args.step c.in-Some.rider.now c.index-outs-place.result c.pass.new.self c.move_front_to-in-Enters.new.other (c.judge-what.ensures.enters c.in-Enters.place c.in-Enters.turn c.in-Enters.is) c.pass.ensures joins)
    (passed-enters c.args.step c.args.line.now c.args.exit.now c.args.outs.now c.args.arrived.now c.in-Some.rider.now c.in-Enters.place c.in-Enters.turn first (sym c.judge-what.ensures.value ∙ c.in-Enters.is))
