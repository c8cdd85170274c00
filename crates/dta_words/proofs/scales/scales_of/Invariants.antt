use Rattle.std.proofs.Common.{◌≡◌, Some, take}
use Rattle.clap.specs.Walk.{texts}
use Rattle.dta_words.specs.Pieces.{values_of}
use Rattle.dta_words.specs.Scales.{scale_of}
use Rattle.dta_words.proofs.scales.scales_of.Given as goal

abbrev pub invariant-loop-piece : goal.invariant-loop-piece
invariant-loop-piece l =
    values_of scale_of (texts (take l.piece-index l.pieces)) ≡ Some l.scales.items
