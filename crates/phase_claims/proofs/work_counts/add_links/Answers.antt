use Rattle.std.specs.Prelude.{slice_set}
use Rattle.std.proofs.Common.{ℕ, length, ap, ◌∙◌, arith}
use Rattle.dta_model.specs.Lent.{plan_of}
use Rattle.dta_model.specs.Loading.{trace_after}
use Rattle.dta_model.specs.Plans.{ins}
use Rattle.dta_model.specs.State.{count_on}
use Rattle.cell_stages.specs.CellState.{CellState}
use Rattle.cell_stages.specs.Contents.{away}
use Rattle.node_transfer.proofs.OfMail.Lending.{link_of}
use Rattle.node_transfer.proofs.OfMail.ListPlaces.{link-here, links-count}
use Rattle.node_transfer.proofs.OfMail.Parts.{ins-count-before}
use Rattle.phase_claims.specs.PlacesCounted.{firsts_on}
use Rattle.phase_claims.proofs.PlacesSums.{put_before, put_whole, puts_next}
use Rattle.phase_claims.proofs.work_counts.add_links.Goals as goal

pub on_link-requires : goal.on_link-requires
on_link-requires c =
    let p = plan_of c.args.loading.now in
    let are = ap (λ xs. length xs) c.ins-ins.ensures in
    let many = links-count (ins p c.args.node.0) in
    let places = ap (λ (s : CellState). length s.ins) c.requires.cell in
    let count = ins-count-before p c.args.node.0 c.args.steps away away in
    omega (arith, are, many, places, count, c.loop-place-test.true)

pub loop-place-preserved : goal.loop-place-preserved
loop-place-preserved c =
    let p = plan_of c.args.loading.now in
    let f = λ (k : ℕ). count_on (trace_after p c.args.steps) k in
    let links = ins p c.args.node.0 in
    let b = link_of c.ins-ins.result.now c.loop-place.place in
    let here = link-here links c.ins-ins.result.now c.loop-place.place (record { 0 = 0 }) c.ins-ins.ensures c.loop-place-test.true in
    ap (λ x. slice_set c.loop-place.first b x) (c.on_link.ensures p c.args.node.0 c.args.steps b c.requires.cell here)
    ∙ ap (λ xs. slice_set xs b (f b)) c.loop-place.invariant
    ∙ puts_next f links c.loop-place.place b (firsts_on p c.args.steps c.args.node.0) here

pub returns-then-link-ge4 : goal.returns-then-link-ge4
returns-then-link-ge4 c =
    let p = plan_of c.args.loading.now in
    let links = ins p c.args.node.0 in
    let b = link_of c.ins-ins.result.now c.loop-place.place in
    let here = link-here links c.ins-ins.result.now c.loop-place.place (record { 0 = 0 }) c.ins-ins.ensures c.loop-place-test.true in
    c.loop-place.invariant ∙ put_before p c.args.steps c.args.node.0 c.requires.node c.loop-place.place b here c.if-link-ge4.true

pub returns : goal.returns
returns c =
    let p = plan_of c.args.loading.now in
    let are = ap (λ xs. length xs) c.ins-ins.ensures in
    let many = links-count (ins p c.args.node.0) in
    c.loop-place.invariant ∙ put_whole p c.args.steps c.args.node.0 c.requires.node c.loop-place.place (omega (arith, are, many, c.loop-place-test.false))
