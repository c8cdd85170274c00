use Rattle.std.proofs.Common.{◌≡◌, ◌∙◌, ◌∷◌, [], length, ap, sym, subst, arith, refl}
use Rattle.std.specs.List.{flat_map}
use Rattle.std.specs.Prelude.{All}
use Rattle.std.specs.Vec.Iter.{into_iter_items}
use Rattle.node_transfer.specs.Hand.{Within, handed, riders_in}
use Rattle.node_transfer.proofs.OfHandOver.Handed.{first-within, none-handed, nothing-left, rest-handed, rest-within}
use Rattle.node_transfer.proofs.hand_over.hand_over_all.Goals as goal

pub loop-cell-init : goal.loop-cell-init
loop-cell-init c =
    let gives = c.into_iter-cell-iterator.ensures.into_iter_gives in (
      subst (λ cells. All (Within (length c.args.loaded.now)) (flat_map riders_in cells)) (sym gives.0) c.requires,
      refl,
      let fits = c.args.cells.ok.0 in
          let same = ap length gives.0 in
          let all = gives.1 in
          omega (arith, fits, same, all),
    )

pub hand_over-requires : goal.hand_over-requires
hand_over-requires c =
    first-within (length c.loop-cell.loaded) (into_iter_items c.loop-cell.cell-iterator) (into_iter_items c.next.new.self) c.in-Some.cell c.in-Some.ensures.steps.0 c.loop-cell.invariant.0

pub loop-cell-preserved : goal.loop-cell-preserved
loop-cell-preserved c =
    let at = c.loop-cell in
    let steps : into_iter_items at.cell-iterator ≡ c.in-Some.cell ∷ into_iter_items c.next.new.self = c.in-Some.ensures.steps.0 in (
      rest-within at.loaded c.hand_over.new.loaded (into_iter_items at.cell-iterator) (into_iter_items c.next.new.self) c.in-Some.cell steps c.hand_over.ensures at.invariant.0,
      at.invariant.1 ∙ rest-handed at.loaded c.hand_over.new.loaded (into_iter_items at.cell-iterator) (into_iter_items c.next.new.self) c.in-Some.cell steps c.hand_over.ensures,
      let was = at.invariant.2 in
          let gone = c.in-Some.ensures.steps.1 in
          let short = ap length steps in
          omega (arith, was, gone, short),
    )

pub returns : goal.returns
returns c =
    let at = c.loop-cell in
    let none = c.in-None.ensures.steps in
    let empty : into_iter_items at.cell-iterator ≡ [] = nothing-left (into_iter_items at.cell-iterator) (sym at.invariant.2 ∙ none.0) in
    let gives = c.into_iter-cell-iterator.ensures.into_iter_gives in
    sym (none-handed at.loaded (into_iter_items at.cell-iterator) empty) ∙ sym at.invariant.1 ∙ ap (λ cells. handed (flat_map riders_in cells) c.args.loaded.now) gives.0
