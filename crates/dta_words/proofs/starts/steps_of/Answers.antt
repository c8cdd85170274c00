use Rattle.std.proofs.Common.{◌∙◌, Some, arith, sym, ap}
use Rattle.dta_words.specs.Starts.{start_of}
use Rattle.dta_words.proofs.PieceFacts.{no_value, one_more_value}
use Rattle.dta_words.proofs.starts.steps_of.Goals as goal

pub loop-piece-preserved : goal.loop-piece-preserved
loop-piece-preserved c =
    one_more_value (start_of c.args.horizon) c.args.pieces.now c.loop-piece.piece-index _
    c.loop-piece.steps.items c.in-Some.step (omega arith) c.loop-piece.invariant
    (sym c.in-Some.is ∙ c.start_of.ensures)
    ∙ ap Some (sym c.in_ok-push-in-Some.ensures.items)

pub returns-in-None : goal.returns-in-None
returns-in-None c =
    no_value (start_of c.args.horizon) c.args.pieces.now c.loop-piece.piece-index _ (omega arith)
    (sym c.in-None.is ∙ c.start_of.ensures)
