use Rattle.std.proofs.Common.{suc, refl, sym, ap, ◌∙◌, arith}
use Rattle.std.specs.Mem.Slots.{slots_items}
use Rattle.dta_model.specs.Lent.{plan_of}
use Rattle.dta_model.specs.Units.{posting_part}
use Rattle.claim_core.proofs.Working.{count_is_all}
use Rattle.phase_claims.specs.Passes.{FloorState, PassState}
use Rattle.phase_claims.specs.Scopes.{scope_of}
use Rattle.phase_claims.proofs.PlacesEnd.{cells_last, closes, is_early, not_ended, writer_there}
use Rattle.phase_claims.proofs.floor.Floor.close.Goals as goal

pub returns-then-finished-count-clause-early : goal.returns-then-finished-count-clause-early
returns-then-finished-count-clause-early c =
    is_early (scope_of c.self.inside.table.shared.key) c.args.self.scope (plan_of c.self.inside.loading) (ap (λ (f : FloorState). f.scope) c.self.view_is) c.self.invariant.plan
    c.close_with-closed.ensures.values.2.0 c.close_with-closed.ensures.values.2.1.0 c.pass.inside.seat.id c.pass.inside.seat.me.0 c.args.pass.view (ap (λ (p : PassState). p.view) c.pass.view_is) c.close_with-closed.ensures.values.2.1.1
    c.requires.whole c.requires.free (slots_items c.close_with-closed.result.words) c.close_with-closed.ensures.values.2.2 c.word-finished.result c.word-finished.ensures
    c.count.result (c.count.ensures.value ∙ count_is_all (scope_of c.self.inside.table.shared.key).plan c.self.inside.units.horizon c.self.inside.units.nodes c.self.invariant.horizon c.self.invariant.nodes) c.if-finished-count.true

pub returns-then-finished-count-clause-ended : goal.returns-then-finished-count-clause-ended
returns-then-finished-count-clause-ended c =
    not_ended (scope_of c.self.inside.table.shared.key) c.args.self.scope (plan_of c.self.inside.loading) (ap (λ (f : FloorState). f.scope) c.self.view_is) c.self.invariant.plan
    c.close_with-closed.ensures.values.2.0 c.close_with-closed.ensures.values.2.1.0 c.pass.inside.seat.id c.pass.inside.seat.me.0 c.args.pass.view (ap (λ (p : PassState). p.view) c.pass.view_is) c.close_with-closed.ensures.values.2.1.1
    c.requires.whole c.requires.free (slots_items c.close_with-closed.result.words) c.close_with-closed.ensures.values.2.2 c.word-finished.result c.word-finished.ensures
    c.count.result (c.count.ensures.value ∙ count_is_all (scope_of c.self.inside.table.shared.key).plan c.self.inside.units.horizon c.self.inside.units.nodes c.self.invariant.horizon c.self.invariant.nodes) c.if-finished-count.true

pub take_parts-writer-requires-clause-count : goal.take_parts-writer-requires-clause-count
take_parts-writer-requires-clause-count c =
    c.close_with-closed.ensures.counts.1 ∙ c.self.invariant.slots ∙ ap (λ p. suc (posting_part p)) (sym c.self.invariant.plan)

pub take_parts-writer-requires-clause-cells : goal.take_parts-writer-requires-clause-cells
take_parts-writer-requires-clause-cells c =
    cells_last (scope_of c.self.inside.table.shared.key) c.args.self.scope (plan_of c.self.inside.loading) (ap (λ (f : FloorState). f.scope) c.self.view_is) c.self.invariant.plan
    c.close_with-closed.ensures.values.2.0 c.close_with-closed.ensures.values.2.1.0 c.pass.inside.seat.id c.pass.inside.seat.me.0 c.args.pass.view (ap (λ (p : PassState). p.view) c.pass.view_is) c.close_with-closed.ensures.values.2.1.1
    c.requires.whole c.requires.free (slots_items c.close_with-closed.result.words) c.close_with-closed.ensures.values.2.2 c.word-finished.result c.word-finished.ensures
    c.count.result (c.count.ensures.value ∙ count_is_all (scope_of c.self.inside.table.shared.key).plan c.self.inside.units.horizon c.self.inside.units.nodes c.self.invariant.horizon c.self.invariant.nodes) (omega (arith, c.if-finished-count.false)) (slots_items c.close_with-closed.result.slots) c.close_with-closed.ensures.values.2.4

pub take_parts-writer-requires-clause-writer : goal.take_parts-writer-requires-clause-writer
take_parts-writer-requires-clause-writer c =
    writer_there (scope_of c.self.inside.table.shared.key) c.args.self.scope (plan_of c.self.inside.loading) (ap (λ (f : FloorState). f.scope) c.self.view_is) c.self.invariant.plan
    c.close_with-closed.ensures.values.2.0 c.close_with-closed.ensures.values.2.1.0 c.pass.inside.seat.id c.pass.inside.seat.me.0 c.args.pass.view (ap (λ (p : PassState). p.view) c.pass.view_is) c.close_with-closed.ensures.values.2.1.1
    c.requires.whole c.requires.free (slots_items c.close_with-closed.result.words) c.close_with-closed.ensures.values.2.2 c.word-finished.result c.word-finished.ensures
    c.count.result (c.count.ensures.value ∙ count_is_all (scope_of c.self.inside.table.shared.key).plan c.self.inside.units.horizon c.self.inside.units.nodes c.self.invariant.horizon c.self.invariant.nodes) (omega (arith, c.if-finished-count.false)) (slots_items c.close_with-closed.result.slots) c.close_with-closed.ensures.values.2.4

pub returns-clause-closed : goal.returns-clause-closed
returns-clause-closed c =
    closes (scope_of c.self.inside.table.shared.key) c.args.self.scope (plan_of c.self.inside.loading) (ap (λ (f : FloorState). f.scope) c.self.view_is) c.self.invariant.plan
    c.close_with-closed.ensures.values.2.0 c.close_with-closed.ensures.values.2.1.0 c.pass.inside.seat.id c.pass.inside.seat.me.0 c.args.pass.view (ap (λ (p : PassState). p.view) c.pass.view_is) c.close_with-closed.ensures.values.2.1.1
    c.requires.whole c.requires.free (slots_items c.close_with-closed.result.words) c.close_with-closed.ensures.values.2.2 c.word-finished.result c.word-finished.ensures
    c.count.result (c.count.ensures.value ∙ count_is_all (scope_of c.self.inside.table.shared.key).plan c.self.inside.units.horizon c.self.inside.units.nodes c.self.invariant.horizon c.self.invariant.nodes) (omega (arith, c.if-finished-count.false)) (slots_items c.close_with-closed.result.slots) c.close_with-closed.ensures.values.2.4
    c.take_parts-writer.new.loaded c.take_parts-writer.ensures.loaded c.take_parts-writer.result c.take_parts-writer.ensures.writer c.count-2.result c.self.inside.passes c.pass.inside.spare _
    (c.count-2.ensures.value ∙ count_is_all (scope_of c.self.inside.table.shared.key).plan c.self.inside.units.horizon c.self.inside.units.nodes c.self.invariant.horizon c.self.invariant.nodes) c.self.invariant.passes c.pass.invariant.spare refl
