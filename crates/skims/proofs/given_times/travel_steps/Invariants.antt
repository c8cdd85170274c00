use Rattle.std.proofs.Common.{◌≡◌, map, take}
use Rattle.skims.proofs.given_times.travel_steps.Given as goal

abbrev pub invariant-loop-row : goal.invariant-loop-row
invariant-loop-row l = l.times.items ≡ map (λ row. row.travel) (take l.row-index l.rows)
