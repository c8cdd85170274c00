use Rattle.std.proofs.Common.{◌∙◌, Some, arith, sym, ap}
use Rattle.dta_words.specs.Scales.{scale_of}
use Rattle.dta_words.proofs.PieceFacts.{no_value, one_more_value}
use Rattle.dta_words.proofs.scales.scales_of.Goals as goal

pub loop-piece-preserved : goal.loop-piece-preserved
loop-piece-preserved c =
    one_more_value scale_of c.args.pieces.now c.loop-piece.piece-index _ c.loop-piece.scales.items
    c.in-Some.scale (omega arith) c.loop-piece.invariant
    (sym c.in-Some.is ∙ c.scale_of.ensures)
    ∙ ap Some (sym c.in_ok-push-in-Some.ensures.items)

pub returns-in-None : goal.returns-in-None
returns-in-None c =
    no_value scale_of c.args.pieces.now c.loop-piece.piece-index _ (omega arith)
    (sym c.in-None.is ∙ c.scale_of.ensures)
