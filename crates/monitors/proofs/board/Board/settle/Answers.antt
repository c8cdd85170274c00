use Rattle.std.proofs.Common.{List, ap, ◌∙◌, subst}
use Rattle.crossbeam_utils.specs.Seq.{cell_view}
use Rattle.dta_model.specs.declared.eight.Eight.{Eight}
use Rattle.monitors.specs.Posted.{IsPrefix}
use Rattle.monitors.specs.declared.rule.View.{View}
use Rattle.monitors.proofs.Lists.{onward}
use Rattle.monitors.proofs.board.Board.settle.Goals as goal

pub returns-clause-onward : goal.returns-clause-onward
returns-clause-onward g c =
    let read = c.load_as-last.ensures.rule in
    let all = (cell_view c.join_pass.new.pass).seen in
    let heard =
    ap (λ (v : View). v.told) c.join_pass.ensures.1
    ∙ ap (λ (v : View). v.seen) c.split_pass-known.ensures.given.1 in
    let knew = subst (λ (l : List Eight). IsPrefix l all) heard read.told in
    rw (← c.pass.view_is) (onward _ _ _ _ c.from_words.ensures read.last knew read.rises)
