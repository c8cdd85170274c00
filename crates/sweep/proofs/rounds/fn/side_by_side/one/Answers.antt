use Rattle.sweep.proofs.rounds.fn.side_by_side.one.Goals as goal

pub worked-requires-clause-within : goal.worked-requires-clause-within
worked-requires-clause-within g c κs within = c.requires.4 c.args.place 0 c.requires.5
