-- The exit of an in-link at the start and at the end of a step.
use Rattle.std.specs.Prelude.{ℕ, map, option_map}
use Rattle.capacity_credits.specs.Meter.{granted, closed}
use Rattle.cell_stages.specs.declared.turn.LimitedTurn.{LimitedTurn}
use Rattle.cell_stages.specs.declared.exit.Exit.{Exit}

-- a turn that is granted its allowance of a step, and one whose step is over
abbrev pub opened_turn : ℕ → LimitedTurn → LimitedTurn
opened_turn step t = record t { limit = option_map (granted step) t.limit }

abbrev pub closed_turn : LimitedTurn → LimitedTurn
closed_turn t = record t { limit = option_map closed t.limit }

-- an exit at the start of a step, with its allowances granted, and one whose step is over
abbrev pub opened_exit : ℕ → Exit → Exit
opened_exit step g =
    record g { outflow = granted step g.outflow; turns = map (opened_turn step) g.turns }

abbrev pub closed_exit : Exit → Exit
closed_exit g = record g { outflow = closed g.outflow; turns = map closed_turn g.turns }
