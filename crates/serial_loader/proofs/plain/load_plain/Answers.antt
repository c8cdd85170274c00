use Rattle.std.proofs.Common.{◌∙◌, length, ap, sym, subst, arith}
use Rattle.dta_model.specs.Lent.{plan_of}
use Rattle.dta_model.proofs.Ends.{journeys_end_in_order}
use Rattle.dta_model.proofs.InOrder.{left_in_order}
use Rattle.dta_model.proofs.Onward.{vehicles_are_conserved}
use Rattle.dta_model.specs.Laws.{EndInOrder}
use Rattle.node_transfer.proofs.OfHandOver.Handed.{end-handed, end-within}
use Rattle.serial_loader.proofs.Ends.{starts-before}
use Rattle.serial_loader.proofs.plain.load_plain.Goals as goal

pub run_steps-requires-clause-before : goal.run_steps-requires-clause-before
run_steps-requires-clause-before c =
    let start = c.in_ok-cells.ensures in
    let wakes = c.deref_mut-2.ensures.value ∙ c.in_ok-wakes.ensures.items_if_clones_equal (λ y e. e) in
    let count = c.len.ensures in
    let fits = c.into_vec-cells.result.ok.0 in
    let same = ap (λ xs. length xs) c.deref_mut.ensures.value in
    starts-before (plan_of c.args.loading.now) c.deref_mut.result.now c.deref_mut-2.result.now c.deref_mut-3.result.now c.len.result (omega (arith, count, fits, same))
    (c.deref_mut.ensures.value ∙ c.into_vec-cells.ensures ∙ start.cells) wakes (c.deref_mut-3.ensures.value ∙ c.into_vec-mail.ensures ∙ start.mail)

pub hand_over_all-requires : goal.hand_over_all-requires
hand_over_all-requires c =
    let fits = c.into_vec-cells.result.ok.0 in
    let start = c.in_ok-cells.ensures in
    end-within (plan_of c.args.loading.now) c.requires c.into_vec-cells.result.len
    c.into_vec-cells.result.items c.run_steps.new.cells c.in_ok-cells.field-0.loaded
    (omega (arith, fits)) (c.into_vec-cells.ensures ∙ start.cells) c.run_steps.ensures start.loaded

pub returns-clause-journeys : goal.returns-clause-journeys
returns-clause-journeys c =
    let fits = c.into_vec-cells.result.ok.0 in
    let start = c.in_ok-cells.ensures in
    c.hand_over_all.ensures
    ∙ end-handed (plan_of c.args.loading.now) c.requires c.into_vec-cells.result.len
    c.into_vec-cells.result.items c.run_steps.new.cells c.in_ok-cells.field-0.loaded
    (omega (arith, fits)) (c.into_vec-cells.ensures ∙ start.cells) c.run_steps.ensures start.loaded

pub returns-clause-order : goal.returns-clause-order
returns-clause-order c =
    let p = plan_of c.args.loading.now in
    subst (EndInOrder p) (sym (returns-clause-journeys c)) (journeys_end_in_order p)

pub returns-clause-conserved : goal.returns-clause-conserved
returns-clause-conserved c = vehicles_are_conserved (plan_of c.args.loading.now)

pub returns-clause-left_in_order : goal.returns-clause-left_in_order
returns-clause-left_in_order c = left_in_order (plan_of c.args.loading.now)
