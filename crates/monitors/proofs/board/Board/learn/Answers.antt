use Rattle.std.proofs.Common.{List, ap, subst}
use Rattle.crossbeam_utils.specs.Seq.{cell_view}
use Rattle.dta_model.specs.declared.eight.Eight.{Eight}
use Rattle.monitors.specs.Posted.{IsPrefix}
use Rattle.monitors.specs.declared.rule.View.{View}
use Rattle.monitors.proofs.Lists.{one_is_prefix}
use Rattle.monitors.proofs.board.Board.learn.Goals as goal

pub returns-clause-ordered : goal.returns-clause-ordered
returns-clause-ordered g c =
    let read = c.load_as.ensures.rule in
    let all : List Eight = (cell_view c.load_as.new.pass).seen in
    let within : List Eight → Type 0 = λ l. IsPrefix l all in
    let knew = subst within (ap (λ (v : View). v.seen) c.join_pass.ensures.1) read.seen in
    let heard = subst within (ap (λ (v : View). v.told) c.join_pass.ensures.1) read.told in
    rw (← c.pass.view_is, ← c.note.view_is) (one_is_prefix _ _ all knew heard)
