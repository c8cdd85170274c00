use Rattle.monitors.proofs.Lists.{onward}
use Rattle.monitors.proofs.board.Board.read.Goals as goal

pub returns-clause-onward : goal.returns-clause-onward
returns-clause-onward g c =
    let read = c.load_as-words.ensures.rule in
    rw (← c.pass.view_is) (onward _ _ _ _ c.from_words.ensures read.last read.seen read.rises)
