-- The time of a walk over a table of link times. The table says how many steps a link takes who
-- enters it in a step. Nobody waits between links.
use Rattle.std.specs.Prelude.{ℕ, ◌+◌, ◌-◌, List, [], ◌∷◌, Option, None, Some}
use Rattle.net_core.specs.Network.{turn}
use Rattle.net_core.specs.declared.rows.NetRows.{NetRows}
use Rattle.net_core.specs.declared.rows.Turn.{Turn}

-- the penalty steps of a turn
abbrev pub penalty_steps : Option Turn → ℕ
penalty_steps None = 0
penalty_steps (Some way) = way.penalty

-- the step in which the last of some links is left: link l, which is entered in a step, and the
-- links after it. Each is entered when the one before is left and the turn's penalty is over
unfoldable pub arrival_after : (ℕ → ℕ → ℕ) → NetRows → ℕ → ℕ → List ℕ → ℕ
arrival_after at net step l [] = step + at l step
arrival_after at net step l (b ∷ rest) =
    arrival_after at net (step + at l step + penalty_steps (turn net l b)) b rest

-- the step in which a walk arrives whose first link is entered in a step
abbrev pub arrival_step : (ℕ → ℕ → ℕ) → NetRows → ℕ → List ℕ → ℕ
arrival_step at net start [] = start
arrival_step at net start (l ∷ rest) = arrival_after at net start l rest

-- the time of a walk: its arrival less its start
abbrev pub walk_time : (ℕ → ℕ → ℕ) → NetRows → ℕ → List ℕ → ℕ
walk_time at net start walk = arrival_step at net start walk - start
